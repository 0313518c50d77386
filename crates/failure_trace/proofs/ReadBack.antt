-- What is printed of a writable trace is this trace.
use Rattle.std.proofs.Common.{◌≡◌, ◌≢◌, ◌==◌, ◌+◌, ◌-◌, ◌*◌, ◌<◌, ◌≤◌, ◌^◌, ℕ, ℤ, Bool, true, false, cond, Some, List, [], ◌∷◌, ◌++◌, get_or, decimal, codes, fold, All, refl, sym, ap, ◌∙◌, subst, inl, inr, rules, arith, append-nil, append_assoc}
use Rattle.std.specs.List.{AllByRecursion, flat_map}
use Rattle.std.specs.Char.{encode_utf8}
use Rattle.std.specs.Str.{chars}
use Rattle.std.specs.Fmt.{signed_decimal}
use Rattle.std.proofs.lemmas.Bool.Decides.{Decides-eqb}
use Rattle.std.proofs.lemmas.List.{get_or_default}
use Rattle.std.proofs.lemmas.List.Elements.{All-nil, All-cons, All-head, All-tail, All-append, All-weaker, All-from_recursion}
use Rattle.std.proofs.lemmas.Str.{inside_one}
use Rattle.std.proofs.lemmas.Str.Parse.{IsNumeralModel, numerals_by_fold}
use Rattle.std.proofs.lemmas.Fmt.{digits_decimal, digits_value-decimal, first_decimal}
use Rattle.time_line.specs.Numeral.{IsDigit, IsPositive, IsNumber, IsMark, value_of}
use Rattle.time_line.specs.Span.{IsWithinInstants}
use Rattle.time_line.proofs.NumeralLemmas.{signed_decimal-reads}
use Rattle.rule_core.specs.Names.{IsNameByte, IsName}
use Rattle.decl_text.specs.Quotes.{in_quotes}
use Rattle.decl_text.specs.Canonical.{quoted_text}
use Rattle.decl_text.proofs.WrittenLemmas.{quoted_text_says}
use Rattle.failure_trace.specs.declared.trace.Value.{Value}
use Rattle.failure_trace.specs.declared.trace.Value.TheVariants.{Const, Null}
use Rattle.failure_trace.specs.declared.trace.Bound.{Bound}
use Rattle.failure_trace.specs.declared.trace.StepKind.{StepKind}
use Rattle.failure_trace.specs.declared.trace.StepKind.TheVariants.{Tgd, Egd, Clash}
use Rattle.failure_trace.specs.declared.trace.TraceStep.{TraceStep}
use Rattle.failure_trace.specs.declared.trace.Trace.{Trace}
use Rattle.failure_trace.specs.TraceText.{EndsPart, IsValue, Bind, BeginsLine, IsStepLine, Steps, kind_word, IsTrace}
use Rattle.failure_trace.specs.Printed.{value_text, bound_text, step_text, trace_text, IsWritableValue, IsWritableBound, IsWritableStep, IsWritable}

abbrev NoFeed : List ℕ → Type 0
NoFeed bytes = All (λ b. b ≢ 10) bytes

-- no byte of a character but the line feed's own is a line feed
char_has_no_feed : (c : ℕ) → c ≢ 10 → NoFeed (encode_utf8 c)
char_has_no_feed c other k d l e =
    let at : get_or (encode_utf8 c) k 0 ≡ 10 = get_or_default (encode_utf8 c) k 0 d l ∙ e in
    let small : get_or (encode_utf8 c) k 0 < 128 = omega (arith, at) in
    other (inside_one c [] (encode_utf8 c) k (sym (append-nil (encode_utf8 c))) l small ∙ at)

two : (a b : ℕ) → a ≢ 10 → b ≢ 10 → NoFeed (a ∷ b ∷ [])
two a b p q = All-cons (λ x. x ≢ 10) a (b ∷ []) p (All-cons (λ x. x ≢ 10) b [] q (All-nil (λ x. x ≢ 10)))

-- nor does a character in quotes
quoted_char_has_no_feed : (c : ℕ) → NoFeed (in_quotes c)
quoted_char_has_no_feed c = by (c == 34) (c == 92) (c == 10) (Decides-eqb c 10).1 (c == 13)
  where
    by : (a b d : Bool) → (c ≡ 10 → d ≡ true) → (e : Bool)
        → NoFeed (cond a (92 ∷ 34 ∷ []) (cond b (92 ∷ 92 ∷ []) (cond d (92 ∷ 110 ∷ []) (cond e (92 ∷ 114 ∷ []) (encode_utf8 c)))))
    by true b d h e = two 92 34 (λ x. omega (arith, x)) (λ x. omega (arith, x))
    by false true d h e = two 92 92 (λ x. omega (arith, x)) (λ x. omega (arith, x))
    by false false true h e = two 92 110 (λ x. omega (arith, x)) (λ x. omega (arith, x))
    by false false false h true = two 92 114 (λ x. omega (arith, x)) (λ x. omega (arith, x))
    by false false false h false = char_has_no_feed c (λ x. absurd (cc (h x)))

chars_have_no_feed : (cs : List ℕ) → NoFeed (flat_map in_quotes cs)
chars_have_no_feed [] = All-nil (λ x. x ≢ 10)
chars_have_no_feed (c ∷ cs) = All-append (λ x. x ≢ 10) (in_quotes c) (flat_map in_quotes cs) (quoted_char_has_no_feed c) (chars_have_no_feed cs)

quoted_has_no_feed : (text : List ℕ) → NoFeed (quoted_text text)
quoted_has_no_feed text = All-cons (λ x. x ≢ 10) 34 (flat_map in_quotes (chars text) ++ 34 ∷ []) (λ x. omega (arith, x))
    (All-append (λ x. x ≢ 10) (flat_map in_quotes (chars text)) (34 ∷ []) (chars_have_no_feed (chars text))
    (All-cons (λ x. x ≢ 10) 34 [] (λ x. omega (arith, x)) (All-nil (λ x. x ≢ 10))))

name_has_no_feed : (name : List ℕ) → IsName name → NoFeed name
name_has_no_feed name is = All-weaker IsNameByte (λ x. x ≢ 10) other name is.bytes
  where
    other : (b : ℕ) → IsNameByte b → b ≢ 10
    other b (inl (inl h)) e = omega (arith, h.0, e)
    other b (inl (inr h)) e = omega (arith, h.0, e)
    other b (inr (inl h)) e = omega (arith, h.0, e)
    other b (inr (inr h)) e = omega (arith, h, e)

-- digits of a number, in std's terms
own : IsNumeralModel (λ ds. AllByRecursion IsDigit ds) (λ ds. value_of ds)
own = numerals_by_fold (λ ds. AllByRecursion IsDigit ds) (search rules) (λ n ds. fold (λ m d. 10 * m + (d - 48)) n ds) (search rules)

positive_of : (ds : List ℕ) → AllByRecursion IsDigit ds → 48 < get_or ds 0 0 → IsPositive ds
positive_of [] h p = absurd (omega arith)
positive_of (d ∷ ds) h p = (omega arith, h.0.1, h.1)

-- the mark of a number is its mark
mark_says : (n : ℕ) → 1 ≤ n → n < 2 ^ 64 → IsMark (63 ∷ decimal n) n
mark_says n some small =
    (decimal n, refl, positive_of (decimal n) (digits_decimal own n small) (first_decimal n some small), digits_value-decimal own n small)

digits_have_no_feed : (ds : List ℕ) → AllByRecursion IsDigit ds → NoFeed ds
digits_have_no_feed ds h = All-weaker IsDigit (λ x. x ≢ 10) (λ b digit e. omega (arith, digit.0, e)) ds (All-from_recursion IsDigit ds h)

value_has_no_feed : (v : Value) → IsWritableValue v → NoFeed (value_text v)
value_has_no_feed (Const text) w = quoted_has_no_feed text
value_has_no_feed (Null n) w =
    All-cons (λ x. x ≢ 10) 63 (decimal n) (λ x. omega (arith, x)) (digits_have_no_feed (decimal n) (digits_decimal own n w.1))

value_says : (v : Value) → IsWritableValue v → IsValue (value_text v) v
value_says (Const text) w = quoted_text_says text w
value_says (Null n) w = (mark_says n w.0 w.1, w.1)

binding_ends : (bs : List Bound) → EndsPart (flat_map bound_text bs)
binding_ends [] = tt
binding_ends (b ∷ bs) = refl

binding_says : (bs : List Bound) → All IsWritableBound bs → Bind (flat_map bound_text bs) bs []
binding_says [] w = refl
binding_says (b ∷ bs) w =
    let rest : List ℕ = flat_map bound_text bs in
    let first = All-head IsWritableBound b bs w in (
      b.name ++ (61 ∷ (value_text b.value ++ rest)),
      rest,
      simp append_assoc,
      record { value = value_text b.value; bytes_are = refl; name = first.0; is = value_says b.value first.1; ends = binding_ends bs },
      binding_says bs (All-tail IsWritableBound b bs w),
    )

binding_has_no_feed : (bs : List Bound) → All IsWritableBound bs → NoFeed (flat_map bound_text bs)
binding_has_no_feed [] w = All-nil (λ x. x ≢ 10)
binding_has_no_feed (b ∷ bs) w =
    let first = All-head IsWritableBound b bs w in
    All-append (λ x. x ≢ 10) (bound_text b) (flat_map bound_text bs)
    (All-cons (λ x. x ≢ 10) 32 (b.name ++ (61 ∷ (value_text b.value ++ []))) (λ x. omega (arith, x))
    (All-append (λ x. x ≢ 10) b.name (61 ∷ (value_text b.value ++ [])) (name_has_no_feed b.name first.0)
    (All-cons (λ x. x ≢ 10) 61 (value_text b.value ++ []) (λ x. omega (arith, x))
    (All-append (λ x. x ≢ 10) (value_text b.value) [] (value_has_no_feed b.value first.1) (All-nil (λ x. x ≢ 10))))))
    (binding_has_no_feed bs (All-tail IsWritableBound b bs w))

-- the line of a step, without its line feed
abbrev line_text : TraceStep → List ℕ
line_text s = kind_word s.kind ++ (s.rule ++ flat_map bound_text s.binding)

kind_has_no_feed : (kind : StepKind) → NoFeed (kind_word kind)
kind_has_no_feed Tgd = All-from_recursion (λ x. x ≢ 10) (codes "tgd ") ((λ x. omega (arith, x)), ((λ x. omega (arith, x)), ((λ x. omega (arith, x)), ((λ x. omega (arith, x)), tt))))
kind_has_no_feed Egd = All-from_recursion (λ x. x ≢ 10) (codes "egd ") ((λ x. omega (arith, x)), ((λ x. omega (arith, x)), ((λ x. omega (arith, x)), ((λ x. omega (arith, x)), tt))))
kind_has_no_feed Clash = All-from_recursion (λ x. x ≢ 10) (codes "clash ") ((λ x. omega (arith, x)), ((λ x. omega (arith, x)), ((λ x. omega (arith, x)), ((λ x. omega (arith, x)), ((λ x. omega (arith, x)), ((λ x. omega (arith, x)), tt))))))

step_says : (s : TraceStep) → IsWritableStep s → IsStepLine (line_text s) s
step_says s w = record {
  after = flat_map bound_text s.binding;
  begins = record {
    from = s.rule ++ flat_map bound_text s.binding;
    word = refl;
    name = record { bytes_are = refl; name = w.rule; ends = binding_ends s.binding };
  };
  binding = binding_says s.binding w.bound;
  most = w.most;
}

step_begins : (s : TraceStep) (rest : List ℕ) → IsWritableStep s → BeginsLine (step_text s ++ rest) (line_text s) rest
step_begins s rest w = (
  All-append (λ x. x ≢ 10) (kind_word s.kind) (s.rule ++ flat_map bound_text s.binding) (kind_has_no_feed s.kind)
      (All-append (λ x. x ≢ 10) s.rule (flat_map bound_text s.binding) (name_has_no_feed s.rule w.rule) (binding_has_no_feed s.binding w.bound)),
  inl (simp append_assoc),
)

steps_say : (steps : List TraceStep) → All IsWritableStep steps → Steps (flat_map step_text steps) steps []
steps_say [] w = refl
steps_say (s ∷ steps) w =
    let first = All-head IsWritableStep s steps w in (
      line_text s,
      flat_map step_text steps,
      step_begins s (flat_map step_text steps) first,
      step_says s first,
      steps_say steps (All-tail IsWritableStep s steps w),
    )

-- an instant's text has no line feed
instant_has_no_feed : (z : ℤ) → IsWithinInstants (Some z) → NoFeed (signed_decimal z)
instant_has_no_feed z h = number_no_feed (signed_decimal z) (signed_decimal-reads z h).0
  where
    positive_no_feed : (ds : List ℕ) → IsPositive ds → NoFeed ds
    positive_no_feed [] is = absurd is
    positive_no_feed (d ∷ ds) is = All-cons (λ x. x ≢ 10) d ds (λ e. omega (arith, is.0, e)) (digits_have_no_feed ds is.2)

    number_no_feed : (text : List ℕ) → IsNumber text → NoFeed text
    number_no_feed text (inl e) = subst NoFeed (sym e) (All-cons (λ x. x ≢ 10) 48 [] (λ x. omega (arith, x)) (All-nil (λ x. x ≢ 10)))
    number_no_feed text (inr (inl is)) = positive_no_feed text is
    number_no_feed text (inr (inr h)) =
        subst NoFeed (sym h.1) (All-cons (λ x. x ≢ 10) 45 h.0 (λ x. omega (arith, x)) (positive_no_feed h.0 h.2))

letters_of_trace : AllByRecursion (λ x. x ≢ 10) (codes "trace 1")
letters_of_trace = ((λ x. omega (arith, x)), ((λ x. omega (arith, x)), ((λ x. omega (arith, x)), ((λ x. omega (arith, x)), ((λ x. omega (arith, x)), ((λ x. omega (arith, x)), ((λ x. omega (arith, x)), tt)))))))

letters_of_instant : AllByRecursion (λ x. x ≢ 10) (codes "instant ")
letters_of_instant = ((λ x. omega (arith, x)), ((λ x. omega (arith, x)), ((λ x. omega (arith, x)), ((λ x. omega (arith, x)), ((λ x. omega (arith, x)), ((λ x. omega (arith, x)), ((λ x. omega (arith, x)), ((λ x. omega (arith, x)), tt))))))))

pub trace_says : (trace : Trace) → IsWritable trace → IsTrace (trace_text trace) trace
trace_says trace w = record {
  second = codes "instant " ++ (signed_decimal trace.instant ++ (10 ∷ flat_map step_text trace.steps));
  third = flat_map step_text trace.steps;
  first_line = (
    All-from_recursion (λ x. x ≢ 10) (codes "trace 1") letters_of_trace,
    inl (ap (λ l. codes "trace 1" ++ (10 ∷ (codes "instant " ++ (signed_decimal trace.instant ++ (10 ∷ l)))))
        (append-nil (flat_map step_text trace.steps))),
  );
  second_line = record {
    number = signed_decimal trace.instant;
    line = (
      All-append (λ x. x ≢ 10) (codes "instant ") (signed_decimal trace.instant)
          (All-from_recursion (λ x. x ≢ 10) (codes "instant ") letters_of_instant) (instant_has_no_feed trace.instant w.instant),
      inl (simp append_assoc),
    );
    form = (signed_decimal-reads trace.instant w.instant).0;
    is = (signed_decimal-reads trace.instant w.instant).1;
    within = w.instant;
  };
  steps = steps_say trace.steps w.steps;
}
