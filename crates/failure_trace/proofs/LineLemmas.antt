-- Lines of a text: where one ends is settled.
use Rattle.std.proofs.Common.{◌≡◌, ◌≢◌, ◌⊎◌, ◌↔◌, ℕ, ℤ, ◌+◌, ◌<◌, ◌≤◌, Bool, true, false, Some, Err, codes, List, [], ◌∷◌, ◌++◌, length, take, drop, All, refl, sym, ap, ◌∙◌, subst, arith, inl, inr, append-nil}
use Rattle.std.proofs.lemmas.List.{take-append-drop, drop-drop}
use Rattle.decl_text.proofs.OnceLemmas.{Leaves, run_once}
use Rattle.failure_trace.specs.declared.trace.Bound.{Bound}
use Rattle.failure_trace.specs.declared.trace.TraceStep.{TraceStep}
use Rattle.std.specs.Prelude.{Result}
use Rattle.time_line.specs.declared.text.EndFault.{EndFault}
use Rattle.time_line.specs.declared.text.EndFault.TheVariants.{E1, E2}
use Rattle.time_line.specs.Span.{IsWithinInstants}
use Rattle.time_line.specs.Numeral.{IsNumber, number_of}
use Rattle.failure_trace.specs.declared.fault.TraceCode.{TraceCode}
use Rattle.failure_trace.specs.declared.fault.TraceCode.TheVariants.{L1, L2, L3, L4, L5, L6}
use Rattle.failure_trace.specs.declared.fault.TraceError.{TraceError}
use Rattle.failure_trace.specs.declared.fault.TraceError.TheVariants.{Fault, Memory}
use Rattle.failure_trace.specs.TraceText.{EndsPart, Bind, BeginsLine, BeginsTrace, BeginsInstant, Steps, FailsStep, FailsSteps, FailsAtLine, Fails, IfFault}
use Rattle.failure_trace.proofs.FrontLemmas.{same_after}

-- a line of the bytes, from where its line feed stands
pub line_front : (bytes : List ℕ) (n : ℕ) → All (λ b. b ≢ 10) (take n bytes)
    → (drop n bytes ≡ []) ⊎ ((rest : List ℕ) × (drop n bytes ≡ 10 ∷ rest)) → 1 ≤ length (drop n bytes)
    → BeginsLine bytes (take n bytes) (drop (n + 1) bytes)
line_front bytes n line (inl none) some = absurd (omega (arith, ap length none))
line_front bytes n line (inr feed) some =
    let rest : drop (n + 1) bytes ≡ feed.0 = sym (drop-drop 1 n bytes) ∙ ap (λ l. drop 1 l) feed.1 in
    (line, inl (sym (take-append-drop n bytes) ∙ ap (λ l. take n bytes ++ l) (feed.1 ∙ ap (λ l. 10 ∷ l) (sym rest))))

ends_at_feed : (rest : List ℕ) → Leaves (λ b. b ≢ 10) (10 ∷ rest)
ends_at_feed rest = λ other. other refl

-- bytes begin with one line
pub line_once : (bytes a b r s : List ℕ) → BeginsLine bytes a r → BeginsLine bytes b s → (a ≡ b) × (r ≡ s)
line_once bytes a b r s x y = by x.1 y.1
  where
    Ends : List ℕ → List ℕ → Type 0
    Ends line rest = (bytes ≡ line ++ (10 ∷ rest)) ⊎ ((bytes ≡ line) × (line ≢ []) × (rest ≡ []))

    by : (bytes ≡ a ++ (10 ∷ r)) ⊎ ((bytes ≡ a) × (a ≢ []) × (r ≡ []))
        → (bytes ≡ b ++ (10 ∷ s)) ⊎ ((bytes ≡ b) × (b ≢ []) × (s ≡ [])) → (a ≡ b) × (r ≡ s)
    by (inl e) (inl f) =
        let same = run_once (λ c. c ≢ 10) a b (10 ∷ r) (10 ∷ s) x.0 y.0 (ends_at_feed r) (ends_at_feed s) (sym e ∙ f) in
        (same.0, cc same.1)
    by (inl e) (inr f) =
        let same = run_once (λ c. c ≢ 10) a b (10 ∷ r) [] x.0 y.0 (ends_at_feed r) tt (sym e ∙ f.0 ∙ sym (append-nil b)) in
        absurd (cc same.1)
    by (inr e) (inl f) =
        let same = run_once (λ c. c ≢ 10) a b [] (10 ∷ s) x.0 y.0 tt (ends_at_feed s) (append-nil a ∙ sym e.0 ∙ f) in
        absurd (cc same.1)
    by (inr e) (inr f) = (sym e.0 ∙ f.0, e.2 ∙ sym f.2)

-- nothing begins with no line
pub no_line : (bytes line rest : List ℕ) → bytes ≡ [] → ¬ (BeginsLine bytes line rest)
no_line bytes line rest none x = by line x.1
  where
    by : (l : List ℕ) → (bytes ≡ l ++ (10 ∷ rest)) ⊎ ((bytes ≡ l) × (l ≢ []) × (rest ≡ [])) → ⊥
    by [] (inl e) = let h : 10 ∷ rest ≡ [] = sym e ∙ none in cc
    by (b ∷ l) (inl e) = let h : b ∷ (l ++ (10 ∷ rest)) ≡ [] = sym e ∙ none in cc
    by l (inr e) = e.1 (sym e.0 ∙ none)

-- a part that is over, with something behind it
pub space_first : (rest : List ℕ) → EndsPart rest → 1 ≤ length rest → rest ≡ 32 ∷ drop 1 rest
space_first [] ends some = absurd (omega arith)
space_first (b ∷ bs) ends some = ap (λ x. x ∷ bs) ends

pub none_left : (rest : List ℕ) → length rest < 1 → [] ≡ rest
none_left [] few = refl
none_left (b ∷ bs) few = absurd (omega arith)

-- bindings that lead to the rest, as they were read
pub bound_so_far : (bytes rest : List ℕ) (binding : List Bound) (end : List ℕ)
    → ((more : List Bound) (end : List ℕ) → Bind rest more end → Bind bytes (binding ++ more) end) → end ≡ rest → Bind bytes binding end
bound_so_far bytes rest binding end leads e = subst (λ l. Bind bytes l end) (append-nil binding) (leads [] end e)

-- and steps
pub steps_so_far : (bytes rest : List ℕ) (steps : List TraceStep) (end : List ℕ)
    → ((more : List TraceStep) (end : List ℕ) → Steps rest more end → Steps bytes (steps ++ more) end) → end ≡ rest → Steps bytes steps end
steps_so_far bytes rest steps end leads e = subst (λ l. Steps bytes l end) (append-nil steps) (leads [] end e)

-- the fault of a line is that of the lines of steps, if the lines before it are good
pub steps_fail : (e : TraceError) (bytes rest line after : List ℕ) (steps : List TraceStep) (number : ℕ) → Steps bytes steps rest
    → BeginsLine rest line after → number ≡ length steps + 3 → IfFault {T = ℕ} (Err e) (λ fault. FailsStep line fault.code)
    → IfFault {T = ℕ} (Err e) (λ fault. fault.line ≡ number)
    → IfFault {T = ℕ} (Err e) (λ fault. (place : ℕ) × FailsSteps bytes fault.code place × (fault.line ≡ 2 + place))
steps_fail (Fault fault) bytes rest line after steps number good begins is fails at =
    (1 + length steps, (steps, rest, line, after, good, begins, fails, refl), omega (arith, is, at))
steps_fail Memory bytes rest line after steps number good begins is fails at = tt

-- and that of the text, if its first two lines are good
later_line : (bytes second third : List ℕ) (t : ℤ) (code : TraceCode) (line : ℕ) → BeginsTrace bytes second → BeginsInstant second t third
    → (place : ℕ) × FailsSteps third code place × (line ≡ 2 + place) → FailsAtLine bytes code line
later_line bytes second third t L1 line first instant h = absurd (h.1.6.4)
later_line bytes second third t L2 line first instant h = absurd (h.1.6.4)
later_line bytes second third t L3 line first instant h = (second, third, t, first, instant, h)
later_line bytes second third t L4 line first instant h = (second, third, t, first, instant, h)
later_line bytes second third t L5 line first instant h = (second, third, t, first, instant, h)
later_line bytes second third t L6 line first instant h = (second, third, t, first, instant, h)

pub text_fails : (e : TraceError) (bytes second third : List ℕ) (t : ℤ) → BeginsTrace bytes second → BeginsInstant second t third
    → IfFault {T = ℕ} (Err e) (λ fault. (place : ℕ) × FailsSteps third fault.code place × (fault.line ≡ 2 + place))
    → IfFault {T = ℕ} (Err e) (Fails bytes)
text_fails (Fault fault) bytes second third t first instant h = later_line bytes second third t fault.code fault.line first instant h
text_fails Memory bytes second third t first instant h = tt

-- an instant's line, from its parts
pub instant_line : (bytes rest line number : List ℕ) (t : ℤ) → BeginsLine bytes line rest → line ≡ codes "instant " ++ number → IsNumber number
    → number_of number ≡ t → IsWithinInstants (Some t) → BeginsInstant bytes t rest
instant_line bytes rest line number t begins e form is within =
    record { number = number; line = subst (λ l. BeginsLine bytes l rest) e begins; form = form; is = is; within = within }

-- what is no number within the limit begins no instant's line
pub no_instant : (fault : EndFault) (number : List ℕ) → (◌≡◌ {A = Result ℤ EndFault} (Err fault) (Err E1) ↔ ¬ (IsNumber number))
    → (◌≡◌ {A = Result ℤ EndFault} (Err fault) (Err E2) ↔ (IsNumber number × ¬ (IsWithinInstants (Some (number_of number)))))
    → (t : ℤ) → IsNumber number → number_of number ≡ t → ¬ (IsWithinInstants (Some t))
no_instant E1 number form limit t is same within = form.0 refl is
no_instant E2 number form limit t is same within = (limit.0 refl).1 (subst (λ m. IsWithinInstants (Some m)) (sym same) within)

pub number_after : (a b : List ℕ) → codes "instant " ++ a ≡ codes "instant " ++ b → a ≡ b
number_after a b e = same_after (codes "instant ") (codes "instant ") a b refl e

-- a test doesn't give both answers
pub no_both : (b : Bool) → b ≡ false → b ≡ true → ⊥
no_both true f t = cc
no_both false f t = cc
