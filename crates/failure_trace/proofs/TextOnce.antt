-- A text is one trace.
use Rattle.std.proofs.Common.{◌≡◌, ◌≢◌, ℕ, List, [], ◌∷◌, ◌++◌, get_or, codes, refl, sym, ap, ◌∙◌, subst, arith}
use Rattle.time_line.specs.Numeral.{IsMark, number_of, value_of}
use Rattle.decl_text.specs.declared.token.Kind.TheVariants.{Quoted}
use Rattle.decl_text.proofs.OnceLemmas.{spelled_once}
use Rattle.decl_text.proofs.NextLemmas.{quoted_read}
use Rattle.decl_text.specs.Quotes.{IsQuoted}
use Rattle.failure_trace.specs.declared.trace.Value.{Value}
use Rattle.failure_trace.specs.declared.trace.Value.TheVariants.{Const, Null}
use Rattle.failure_trace.specs.declared.trace.Bound.{Bound}
use Rattle.failure_trace.specs.declared.trace.StepKind.{StepKind}
use Rattle.failure_trace.specs.declared.trace.StepKind.TheVariants.{Tgd, Egd, Clash}
use Rattle.failure_trace.specs.declared.trace.TraceStep.{TraceStep}
use Rattle.failure_trace.specs.declared.trace.Trace.{Trace}
use Rattle.failure_trace.specs.TraceText.{EndsPart, IsValue, BeginsBound, Bind, kind_word, IsStepLine, BeginsLine, Steps, IsTrace}
use Rattle.failure_trace.proofs.FrontLemmas.{same_after, mark_whole, part_once, name_once, ends_word, equals_ends_word}
use Rattle.failure_trace.proofs.LineLemmas.{line_once, no_line, number_after}

-- a text in quotes begins with a quote, and a mark doesn't
apart : (a b r s : List ℕ) (constant : List ℕ) (number : ℕ) → IsQuoted a constant → IsMark b number → a ++ r ≡ b ++ s → ⊥
apart a b r s constant number quoted mark e =
    let h = sym (ap (λ l. l ++ r) quoted.1.bytes_are) ∙ e ∙ ap (λ l. l ++ s) mark.1 in cc

value_once : (a b r s : List ℕ) (v w : Value) → IsValue a v → IsValue b w → EndsPart r → EndsPart s → a ++ r ≡ b ++ s
    → (v ≡ w) × (r ≡ s)
value_once a b r s (Const c) (Const d) x y p q e =
    let same = (spelled_once Quoted Quoted a b r s (c, x) (d, y) e).1 in
    (ap Const (quoted_read b c d (subst (λ l. IsQuoted l c) same x) y), same_after a b r s same e)
value_once a b r s (Const c) (Null n) x y p q e = absurd (apart a b r s c n x y.0 e)
value_once a b r s (Null m) (Const d) x y p q e = absurd (apart b a s r d m y x.0 (sym e))
value_once a b r s (Null m) (Null n) x y p q e =
    let same = part_once a b r s (mark_whole a m x.0) (mark_whole b n y.0) p q e in
    let digits : x.0.0 ≡ y.0.0 = cc (sym x.0.1 ∙ same.0 ∙ y.0.1) in
    (ap Null (sym x.0.3 ∙ ap value_of digits ∙ y.0.3), same.1)

pub bound_once : (bytes : List ℕ) (b c : Bound) (r s : List ℕ) → BeginsBound bytes b r → BeginsBound bytes c s → (b ≡ c) × (r ≡ s)
bound_once bytes b c r s x y =
    let names = name_once b.name c.name (61 ∷ (x.value ++ r)) (61 ∷ (y.value ++ s)) x.name y.name
    (equals_ends_word (x.value ++ r)) (equals_ends_word (y.value ++ s)) (sym x.bytes_are ∙ y.bytes_are) in
    let rest : x.value ++ r ≡ y.value ++ s = cc names.1 in
    let values = value_once x.value y.value r s b.value c.value x.is y.is x.ends y.ends rest in
    (λ i. record { name = names.0 i; value = values.0 i }, values.1)

bind_once : (bytes : List ℕ) (bs cs : List Bound) → Bind bytes bs [] → Bind bytes cs [] → bs ≡ cs
bind_once bytes [] [] x y = refl
bind_once bytes [] (c ∷ cs) x y = let h : [] ≡ 32 ∷ y.0 = x ∙ y.2 in absurd cc
bind_once bytes (b ∷ bs) [] x y = let h : [] ≡ 32 ∷ x.0 = y ∙ x.2 in absurd cc
bind_once bytes (b ∷ bs) (c ∷ cs) x y =
    let from : x.0 ≡ y.0 = cc (sym x.2 ∙ y.2) in
    let first = bound_once y.0 b c x.1 y.1 (subst (λ l. BeginsBound l b x.1) from x.3) y.3 in
    let rest = bind_once y.1 bs cs (subst (λ l. Bind l bs []) first.1 x.4) y.4 in
    λ i. first.0 i ∷ rest i

-- two bytes that differ are not the same
first_byte : (a b : ℕ) → a ≡ b → a ≢ b → ⊥
first_byte a b e n = n e

pub kind_once : (k l : StepKind) (r s : List ℕ) → kind_word k ++ r ≡ kind_word l ++ s → (k ≡ l) × (r ≡ s)
kind_once Tgd Tgd r s e = (refl, same_after (kind_word Tgd) (kind_word Tgd) r s refl e)
kind_once Tgd Egd r s e = absurd (first_byte 116 101 (ap (λ x. get_or x 0 0) e) (λ h. omega (arith, h)))
kind_once Tgd Clash r s e = absurd (first_byte 116 99 (ap (λ x. get_or x 0 0) e) (λ h. omega (arith, h)))
kind_once Egd Tgd r s e = absurd (first_byte 101 116 (ap (λ x. get_or x 0 0) e) (λ h. omega (arith, h)))
kind_once Egd Egd r s e = (refl, same_after (kind_word Egd) (kind_word Egd) r s refl e)
kind_once Egd Clash r s e = absurd (first_byte 101 99 (ap (λ x. get_or x 0 0) e) (λ h. omega (arith, h)))
kind_once Clash Tgd r s e = absurd (first_byte 99 116 (ap (λ x. get_or x 0 0) e) (λ h. omega (arith, h)))
kind_once Clash Egd r s e = absurd (first_byte 99 101 (ap (λ x. get_or x 0 0) e) (λ h. omega (arith, h)))
kind_once Clash Clash r s e = (refl, same_after (kind_word Clash) (kind_word Clash) r s refl e)

pub step_line_once : (line : List ℕ) (a b : TraceStep) → IsStepLine line a → IsStepLine line b → a ≡ b
step_line_once line a b x y =
    let kinds = kind_once a.kind b.kind x.begins.from y.begins.from (sym x.begins.word ∙ y.begins.word) in
    let p = x.begins.name in
    let q = y.begins.name in
    let names = name_once a.rule b.rule x.after y.after p.name q.name (ends_word x.after p.ends) (ends_word y.after q.ends)
    (sym p.bytes_are ∙ kinds.1 ∙ q.bytes_are) in
    let binding = bind_once y.after a.binding b.binding (subst (λ l. Bind l a.binding []) names.1 x.binding) y.binding in
    λ i. record { kind = kinds.0 i; rule = names.0 i; binding = binding i }

steps_once : (bytes : List ℕ) (es bs : List TraceStep) → Steps bytes es [] → Steps bytes bs [] → es ≡ bs
steps_once bytes [] [] x y = refl
steps_once bytes [] (b ∷ bs) x y = absurd (no_line bytes y.0 y.1 (sym x) y.2)
steps_once bytes (a ∷ es) [] x y = absurd (no_line bytes x.0 x.1 (sym y) x.2)
steps_once bytes (a ∷ es) (b ∷ bs) x y =
    let lines = line_once bytes x.0 y.0 x.1 y.1 x.2 y.2 in
    let first = step_line_once y.0 a b (subst (λ l. IsStepLine l a) lines.0 x.3) y.3 in
    let rest = steps_once y.1 es bs (subst (λ l. Steps l es []) lines.1 x.4) y.4 in
    λ i. first i ∷ rest i

pub trace_once : (text : List ℕ) (a b : Trace) → IsTrace text a → IsTrace text b → a ≡ b
trace_once text a b x y =
    let second = (line_once text (codes "trace 1") (codes "trace 1") x.second y.second x.first_line y.first_line).1 in
    let p = x.second_line in
    let q = y.second_line in
    let lines = line_once y.second (codes "instant " ++ p.number) (codes "instant " ++ q.number) x.third y.third
    (subst (λ l. BeginsLine l (codes "instant " ++ p.number) x.third) second p.line) q.line in
    let number = number_after p.number q.number lines.0 in
    let instant = sym p.is ∙ ap number_of number ∙ q.is in
    let steps = steps_once y.third a.steps b.steps (subst (λ l. Steps l a.steps []) lines.1 x.steps) y.steps in
    λ i. record { instant = instant i; steps = steps i }
