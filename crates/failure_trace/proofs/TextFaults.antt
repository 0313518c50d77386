-- A text is a trace, or it has a first fault, and not both; and it has one first fault.
use Rattle.std.proofs.Common.{◌≡◌, ◌⊎◌, ◌+◌, ◌<◌, ◌≤◌, ℕ, ℤ, List, [], ◌∷◌, ◌++◌, length, codes, refl, sym, ◌∙◌, subst, inl, inr, arith}
use Rattle.failure_trace.specs.declared.fault.TraceCode.{TraceCode}
use Rattle.failure_trace.specs.declared.fault.TraceFault.{TraceFault}
use Rattle.failure_trace.specs.declared.fault.TraceCode.TheVariants.{L1, L2, L3, L4, L5, L6}
use Rattle.failure_trace.specs.declared.trace.Bound.{Bound}
use Rattle.failure_trace.specs.declared.trace.StepKind.{StepKind}
use Rattle.failure_trace.specs.declared.trace.TraceStep.{TraceStep}
use Rattle.failure_trace.specs.declared.trace.Trace.{Trace}
use Rattle.failure_trace.specs.TraceText.{BeginsRule, BeginsBound, Bind, kind_word, BeginsStep, IsStepLine, FailsBinding, FailsStep, BeginsLine, BeginsTrace, BeginsInstant, Steps, IsTrace, FailsSteps, FailsAtLine, Fails}
use Rattle.failure_trace.proofs.FrontLemmas.{name_once, ends_word}
use Rattle.failure_trace.proofs.LineLemmas.{line_once, no_line}
use Rattle.failure_trace.proofs.TextOnce.{bound_once, kind_once}

-- a binding begins behind a space, where the rest is
abbrev GoesOn : List ℕ → Type 0
GoesOn rest = (from : List ℕ) × (bound : Bound) × (after : List ℕ) × (rest ≡ 32 ∷ from) × BeginsBound from bound after

-- of two lists of bindings that the bytes begin with, the shorter goes on in the longer
bind_goes_on : (bytes : List ℕ) (bs cs : List Bound) (r s : List ℕ) → Bind bytes bs r → Bind bytes cs s
    → ((length bs ≡ length cs) × (r ≡ s)) ⊎ (((length bs < length cs) × GoesOn r) ⊎ ((length cs < length bs) × GoesOn s))
bind_goes_on bytes [] [] r s x y = inl (refl, x ∙ sym y)
bind_goes_on bytes [] (c ∷ cs) r s x y = inr (inl (omega arith, (y.0, c, y.1, x ∙ y.2, y.3)))
bind_goes_on bytes (b ∷ bs) [] r s x y = inr (inr (omega arith, (x.0, b, x.1, y ∙ x.2, x.3)))
bind_goes_on bytes (b ∷ bs) (c ∷ cs) r s x y =
    let from : x.0 ≡ y.0 = cc (sym x.2 ∙ y.2) in
    let first = bound_once y.0 b c x.1 y.1 (subst (λ l. BeginsBound l b x.1) from x.3) y.3 in
    more (bind_goes_on y.1 bs cs r s (subst (λ l. Bind l bs r) first.1 x.4) y.4)
  where
    more : ((length bs ≡ length cs) × (r ≡ s)) ⊎ (((length bs < length cs) × GoesOn r) ⊎ ((length cs < length bs) × GoesOn s))
        → ((length (b ∷ bs) ≡ length (c ∷ cs)) × (r ≡ s))
        ⊎ (((length (b ∷ bs) < length (c ∷ cs)) × GoesOn r) ⊎ ((length (c ∷ cs) < length (b ∷ bs)) × GoesOn s))
    more (inl h) = let size = h.0 in inl (omega (arith, size), h.1)
    more (inr (inl h)) = let size = h.0 in inr (inl (omega (arith, size), h.1))
    more (inr (inr h)) = let size = h.0 in inr (inr (omega (arith, size), h.1))

none_goes_on : (rest : List ℕ) → rest ≡ [] → ¬ (GoesOn rest)
none_goes_on rest none g = let h : 32 ∷ g.0 ≡ [] = sym g.3 ∙ none in cc

not_here : (from : List ℕ) → ((bound : Bound) (rest : List ℕ) → ¬ (BeginsBound from bound rest)) → ¬ (GoesOn (32 ∷ from))
not_here from none g = none g.1 g.2 (subst (λ l. BeginsBound l g.1 g.2) (cc (sym g.3)) g.4)

-- where bindings end the line, none fails
binding_apart : (bytes : List ℕ) (bs : List Bound) (code : TraceCode) → Bind bytes bs [] → length bs ≤ 32 → ¬ (FailsBinding bytes code)
binding_apart bytes bs L1 x most y = y
binding_apart bytes bs L2 x most y = y
binding_apart bytes bs L3 x most y = y
binding_apart bytes bs L4 x most y = y
binding_apart bytes bs L5 x most y = by (bind_goes_on bytes bs y.0 [] (32 ∷ y.1) x y.2)
  where
    by : ((length bs ≡ length y.0) × ([] ≡ 32 ∷ y.1)) ⊎ (((length bs < length y.0) × GoesOn []) ⊎ ((length y.0 < length bs) × GoesOn (32 ∷ y.1))) → ⊥
    by (inl h) = let e = h.1 in cc
    by (inr (inl h)) = none_goes_on [] refl h.1
    by (inr (inr h)) = not_here y.1 y.4 h.1
binding_apart bytes bs L6 x most y = by (bind_goes_on bytes bs y.0 [] (32 ∷ y.1) x y.2)
  where
    by : ((length bs ≡ length y.0) × ([] ≡ 32 ∷ y.1)) ⊎ (((length bs < length y.0) × GoesOn []) ⊎ ((length y.0 < length bs) × GoesOn (32 ∷ y.1))) → ⊥
    by (inl h) = let e = h.1 in cc
    by (inr (inl h)) = none_goes_on [] refl h.1
    by (inr (inr h)) = let size = h.0 in let whole = y.3 in omega (arith, size, whole, most)

-- a space with no binding behind it, and one behind the 32nd, are not both the first fault
five_or_six : (bytes : List ℕ) → FailsBinding bytes L5 → ¬ (FailsBinding bytes L6)
five_or_six bytes x y = by (bind_goes_on bytes x.0 y.0 (32 ∷ x.1) (32 ∷ y.1) x.2 y.2)
  where
    by : ((length x.0 ≡ length y.0) × (32 ∷ x.1 ≡ 32 ∷ y.1))
        ⊎ (((length x.0 < length y.0) × GoesOn (32 ∷ x.1)) ⊎ ((length y.0 < length x.0) × GoesOn (32 ∷ y.1))) → ⊥
    by (inl h) = let size = h.0 in let few = x.3 in let whole = y.3 in omega (arith, size, few, whole)
    by (inr (inl h)) = not_here x.1 x.4 h.1
    by (inr (inr h)) = let size = h.0 in let few = x.3 in let whole = y.3 in omega (arith, size, few, whole)

binding_fault_once : (bytes : List ℕ) (c d : TraceCode) → FailsBinding bytes c → FailsBinding bytes d → c ≡ d
binding_fault_once bytes L5 L5 x y = refl
binding_fault_once bytes L5 L6 x y = absurd (five_or_six bytes x y)
binding_fault_once bytes L6 L5 x y = absurd (five_or_six bytes y x)
binding_fault_once bytes L6 L6 x y = refl
binding_fault_once bytes L1 d x y = absurd x
binding_fault_once bytes L2 d x y = absurd x
binding_fault_once bytes L3 d x y = absurd x
binding_fault_once bytes L4 d x y = absurd x
binding_fault_once bytes L5 L1 x y = absurd y
binding_fault_once bytes L5 L2 x y = absurd y
binding_fault_once bytes L5 L3 x y = absurd y
binding_fault_once bytes L5 L4 x y = absurd y
binding_fault_once bytes L6 L1 x y = absurd y
binding_fault_once bytes L6 L2 x y = absurd y
binding_fault_once bytes L6 L3 x y = absurd y
binding_fault_once bytes L6 L4 x y = absurd y

-- what follows the name of a rule is one thing
after_once : (line : List ℕ) (k l : StepKind) (a b r s : List ℕ) → BeginsStep line k a r → BeginsStep line l b s → r ≡ s
after_once line k l a b r s x y =
    let kinds = kind_once k l x.from y.from (sym x.word ∙ y.word) in
    (name_once a b r s x.name.name y.name.name (ends_word r x.name.ends) (ends_word s y.name.ends)
    (sym x.name.bytes_are ∙ kinds.1 ∙ y.name.bytes_are)).1

-- the rule of a line that begins as a step stands behind the word of its kind
rule_there : (line from : List ℕ) (k l : StepKind) (a r : List ℕ) → line ≡ kind_word k ++ from → BeginsStep line l a r → BeginsRule from a r
rule_there line from k l a r e x = subst (λ f. BeginsRule f a r) (kind_once l k x.from from (sym x.word ∙ e)).1 x.name

step_apart : (line : List ℕ) (step : TraceStep) (code : TraceCode) → IsStepLine line step → ¬ (FailsStep line code)
step_apart line step L3 x y = y step.kind x.begins.from x.begins.word
step_apart line step L4 x y = y.3 step.rule x.after (rule_there line y.1 y.0 step.kind step.rule x.after y.2 x.begins)
step_apart line step L1 x y = y.4
step_apart line step L2 x y = y.4
step_apart line step L5 x y = binding_apart y.2 step.binding L5
    (subst (λ l. Bind l step.binding []) (after_once line step.kind y.0 step.rule y.1 x.after y.2 x.begins y.3) x.binding) x.most y.4
step_apart line step L6 x y = binding_apart y.2 step.binding L6
    (subst (λ l. Bind l step.binding []) (after_once line step.kind y.0 step.rule y.1 x.after y.2 x.begins y.3) x.binding) x.most y.4

-- a later fault of a line, behind the name of a rule
abbrev Later : List ℕ → TraceCode → Type 0
Later line code = (kind : StepKind) × (rule : List ℕ) × (after : List ℕ) × BeginsStep line kind rule after × FailsBinding after code

later_once : (line : List ℕ) (c d : TraceCode) → Later line c → Later line d → c ≡ d
later_once line c d x y =
    let same = after_once line x.0 y.0 x.1 y.1 x.2 y.2 x.3 y.3 in
    binding_fault_once y.2 c d (subst (λ l. FailsBinding l c) same x.4) y.4

third_or_later : (line : List ℕ) (c : TraceCode) → FailsStep line L3 → ¬ (Later line c)
third_or_later line c x y = x y.0 y.3.from y.3.word

fourth_or_later : (line : List ℕ) (c : TraceCode) → FailsStep line L4 → ¬ (Later line c)
fourth_or_later line c x y = x.3 y.1 y.2 (rule_there line x.1 x.0 y.0 y.1 y.2 x.2 y.3)

third_or_fourth : (line : List ℕ) → FailsStep line L3 → ¬ (FailsStep line L4)
third_or_fourth line x y = x y.0 y.1 y.2

step_fault_once : (line : List ℕ) (c d : TraceCode) → FailsStep line c → FailsStep line d → c ≡ d
step_fault_once line L3 L3 x y = refl
step_fault_once line L3 L4 x y = absurd (third_or_fourth line x y)
step_fault_once line L3 L5 x y = absurd (third_or_later line L5 x y)
step_fault_once line L3 L6 x y = absurd (third_or_later line L6 x y)
step_fault_once line L4 L3 x y = absurd (third_or_fourth line y x)
step_fault_once line L4 L4 x y = refl
step_fault_once line L4 L5 x y = absurd (fourth_or_later line L5 x y)
step_fault_once line L4 L6 x y = absurd (fourth_or_later line L6 x y)
step_fault_once line L5 L3 x y = absurd (third_or_later line L5 y x)
step_fault_once line L5 L4 x y = absurd (fourth_or_later line L5 y x)
step_fault_once line L5 L5 x y = refl
step_fault_once line L5 L6 x y = later_once line L5 L6 x y
step_fault_once line L6 L3 x y = absurd (third_or_later line L6 y x)
step_fault_once line L6 L4 x y = absurd (fourth_or_later line L6 y x)
step_fault_once line L6 L5 x y = later_once line L6 L5 x y
step_fault_once line L6 L6 x y = refl
step_fault_once line L1 d x y = absurd x.4
step_fault_once line L2 d x y = absurd x.4
step_fault_once line L3 L1 x y = absurd y.4
step_fault_once line L3 L2 x y = absurd y.4
step_fault_once line L4 L1 x y = absurd y.4
step_fault_once line L4 L2 x y = absurd y.4
step_fault_once line L5 L1 x y = absurd y.4
step_fault_once line L5 L2 x y = absurd y.4
step_fault_once line L6 L1 x y = absurd y.4
step_fault_once line L6 L2 x y = absurd y.4

-- the places of two first faults among the lines of steps are one
steps_fault_once : (bytes : List ℕ) (ss ts : List TraceStep) (a b line other r s : List ℕ) (c d : TraceCode) → Steps bytes ss a
    → BeginsLine a line r → FailsStep line c → Steps bytes ts b → BeginsLine b other s → FailsStep other d → (c ≡ d) × (length ss ≡ length ts)
steps_fault_once bytes [] [] a b line other r s c d x l f y m g =
    let here : BeginsLine b line r = subst (λ z. BeginsLine z line r) (x ∙ sym y) l in
    let same = (line_once b line other r s here m).0 in
    (step_fault_once other c d (subst (λ z. FailsStep z c) same f) g, refl)
steps_fault_once bytes [] (t ∷ ts) a b line other r s c d x l f y m g =
    let same = (line_once bytes line y.0 r y.1 (subst (λ z. BeginsLine z line r) x l) y.2).0 in
    absurd (step_apart y.0 t c y.3 (subst (λ z. FailsStep z c) same f))
steps_fault_once bytes (t ∷ ss) [] a b line other r s c d x l f y m g =
    let same = (line_once bytes other x.0 s x.1 (subst (λ z. BeginsLine z other s) y m) x.2).0 in
    absurd (step_apart x.0 t d x.3 (subst (λ z. FailsStep z d) same g))
steps_fault_once bytes (t ∷ ss) (u ∷ ts) a b line other r s c d x l f y m g =
    let lines = line_once bytes x.0 y.0 x.1 y.1 x.2 y.2 in
    let more = steps_fault_once y.1 ss ts a b line other r s c d (subst (λ z. Steps z ss a) lines.1 x.4) l f y.4 m g in
    let size = more.1 in
    (more.0, omega (arith, size))

-- lines that are all steps have no fault
steps_apart : (bytes : List ℕ) (ss ts : List TraceStep) (b other s : List ℕ) (d : TraceCode) → Steps bytes ss []
    → Steps bytes ts b → BeginsLine b other s → ¬ (FailsStep other d)
steps_apart bytes [] [] b other s d x y m g = no_line b other s (y ∙ sym x) m
steps_apart bytes [] (t ∷ ts) b other s d x y m g = no_line bytes y.0 y.1 (sym x) y.2
steps_apart bytes (t ∷ ss) [] b other s d x y m g =
    let same = (line_once bytes other x.0 s x.1 (subst (λ z. BeginsLine z other s) y m) x.2).0 in
    step_apart x.0 t d x.3 (subst (λ z. FailsStep z d) same g)
steps_apart bytes (t ∷ ss) (u ∷ ts) b other s d x y m g =
    let lines = line_once bytes x.0 y.0 x.1 y.1 x.2 y.2 in
    steps_apart y.1 ss ts b other s d (subst (λ z. Steps z ss []) lines.1 x.4) y.4 m g

-- the first two lines of a text with this fault are good, and then a line of a step has it
abbrev Deep : List ℕ → TraceCode → ℕ → Type 0
Deep text code number = (second : List ℕ) × (third : List ℕ) × (t : ℤ) × BeginsTrace text second × BeginsInstant second t third
    × ((place : ℕ) × FailsSteps third code place × (number ≡ 2 + place))

-- where the fault of a text may stand
abbrev Shape : List ℕ → TraceCode → ℕ → Type 0
Shape text code number =
    ((code ≡ L1) × (number ≡ 1) × ((rest : List ℕ) → ¬ (BeginsTrace text rest)))
    ⊎ (((code ≡ L2) × (number ≡ 2)
    × ((second : List ℕ) × BeginsTrace text second × ((t : ℤ) (rest : List ℕ) → ¬ (BeginsInstant second t rest))))
    ⊎ Deep text code number)

shape_of : (text : List ℕ) (code : TraceCode) (number : ℕ) → FailsAtLine text code number → Shape text code number
shape_of text L1 number x = inl (refl, x.0, x.1)
shape_of text L2 number x = inr (inl (refl, x.2, (x.0, x.1, x.3)))
shape_of text L3 number x = inr (inr x)
shape_of text L4 number x = inr (inr x)
shape_of text L5 number x = inr (inr x)
shape_of text L6 number x = inr (inr x)

second_once : (text a b : List ℕ) → BeginsTrace text a → BeginsTrace text b → a ≡ b
second_once text a b x y = (line_once text (codes "trace 1") (codes "trace 1") a b x y).1

third_once : (bytes : List ℕ) (t u : ℤ) (a b : List ℕ) → BeginsInstant bytes t a → BeginsInstant bytes u b → a ≡ b
third_once bytes t u a b x y = (line_once bytes (codes "instant " ++ x.number) (codes "instant " ++ y.number) a b x.line y.line).1

-- two faults of the lines of steps are one
deep_once : (text : List ℕ) (c d : TraceCode) (m n : ℕ) → Deep text c m → Deep text d n → (c ≡ d) × (m ≡ n)
deep_once text c d m n x y =
    let second = second_once text x.0 y.0 x.3 y.3 in
    let third = third_once y.0 x.2 y.2 x.1 y.1 (subst (λ z. BeginsInstant z x.2 x.1) second x.4) y.4 in
    let p = x.5.1 in
    let q = y.5.1 in
    let same = steps_fault_once y.1 p.0 q.0 p.1 q.1 p.2 q.2 p.3 q.3 c d (subst (λ z. Steps z p.0 p.1) third p.4) p.5 p.6 q.4 q.5 q.6 in
    let size = same.1 in
    let one = p.7 in
    let other = q.7 in
    let at = x.5.2 in
    let there = y.5.2 in
    (same.0, omega (arith, size, one, other, at, there))

-- a second line that is none, and one behind which a step fails
second_or_deep : (text : List ℕ) (d : TraceCode) (n : ℕ) → (second : List ℕ) × BeginsTrace text second × ((t : ℤ) (rest : List ℕ)
    → ¬ (BeginsInstant second t rest)) → ¬ (Deep text d n)
second_or_deep text d n x y = x.2 y.2 y.1 (subst (λ z. BeginsInstant z y.2 y.1) (second_once text y.0 x.0 y.3 x.1) y.4)

shape_once : (text : List ℕ) (c d : TraceCode) (m n : ℕ) → Shape text c m → Shape text d n → (c ≡ d) × (m ≡ n)
shape_once text c d m n (inl x) (inl y) = (x.0 ∙ sym y.0, x.1 ∙ sym y.1)
shape_once text c d m n (inl x) (inr (inl y)) = absurd (x.2 y.2.0 y.2.1)
shape_once text c d m n (inl x) (inr (inr y)) = absurd (x.2 y.0 y.3)
shape_once text c d m n (inr (inl x)) (inl y) = absurd (y.2 x.2.0 x.2.1)
shape_once text c d m n (inr (inl x)) (inr (inl y)) = (x.0 ∙ sym y.0, x.1 ∙ sym y.1)
shape_once text c d m n (inr (inl x)) (inr (inr y)) = absurd (second_or_deep text d n x.2 y)
shape_once text c d m n (inr (inr x)) (inl y) = absurd (y.2 x.0 x.3)
shape_once text c d m n (inr (inr x)) (inr (inl y)) = absurd (second_or_deep text c m y.2 x)
shape_once text c d m n (inr (inr x)) (inr (inr y)) = deep_once text c d m n x y

-- a text has one first fault
pub fault_once : (text : List ℕ) (a b : TraceFault) → Fails text a → Fails text b → a ≡ b
fault_once text a b x y =
    let same = shape_once text a.code b.code a.line b.line (shape_of text a.code a.line x) (shape_of text b.code b.line y) in
    λ i. record { code = same.0 i; line = same.1 i }

-- a text that is a trace has none
pub trace_apart : (text : List ℕ) (trace : Trace) (fault : TraceFault) → IsTrace text trace → ¬ (Fails text fault)
trace_apart text trace fault x y = by (shape_of text fault.code fault.line y)
  where
    by : Shape text fault.code fault.line → ⊥
    by (inl z) = z.2 x.second x.first_line
    by (inr (inl z)) = z.2.2 trace.instant x.third
        (subst (λ s. BeginsInstant s trace.instant x.third) (second_once text x.second z.2.0 x.first_line z.2.1) x.second_line)
    by (inr (inr z)) =
        let second = second_once text x.second z.0 x.first_line z.3 in
        let third = third_once z.0 trace.instant z.2 x.third z.1
        (subst (λ s. BeginsInstant s trace.instant x.third) second x.second_line) z.4 in
        let p = z.5.1 in
        steps_apart z.1 trace.steps p.0 p.1 p.2 p.3 fault.code (subst (λ s. Steps s trace.steps []) third x.steps) p.4 p.5 p.6
