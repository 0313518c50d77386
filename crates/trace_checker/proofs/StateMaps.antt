-- Each state of a trace maps into every solution at its instant, so that none is left where two different constants clash.
use Rattle.std.proofs.Common.{◌≡◌, ◌≢◌, ◌⊎◌, ℕ, zero, suc, ◌+◌, ◌<◌, ◌≤◌, ◌==◌, Bool, true, false, cond, Option, Some, None, List, [], ◌∷◌, ◌++◌}
use Rattle.std.proofs.Common.{length, map, drop, refl, sym, ap, ◌∙◌, subst, inl, inr, arith, All, AllPairs, Contains, MatchOption, unwrap_or}
use Rattle.std.specs.Prelude.{slice_get}
use Rattle.std.specs.declared.cmp.Ordering.{Ordering}
use Rattle.std.specs.declared.cmp.Ordering.TheVariants.{Less, Equal, Greater}
use Rattle.std.specs.FinMap.{IsAntisymmetric, nat_cmp-IsAntisymmetric, slice_cmp-IsAntisymmetric}
use Rattle.std.proofs.lemmas.Bool.{cases_lt, eqb-true, eq-eqb}
use Rattle.std.proofs.lemmas.List.{length-map}
use Rattle.std.proofs.lemmas.List.Elements.{All-head, All-tail, All-contains}
use Rattle.term_core.specs.declared.const_id.ConstId.{ConstId}
use Rattle.rule_core.specs.declared.rules.Arg.{Arg}
use Rattle.rule_core.specs.declared.rules.Arg.TheVariants.{Var, Const}
use Rattle.rule_core.specs.declared.rules.Atom.{Atom}
use Rattle.rule_core.specs.declared.rules.Tgd.{Tgd}
use Rattle.rule_core.specs.declared.rules.Egd.{Egd}
use Rattle.rule_core.specs.Terms.{Unknown, numbered, named, TermOf, constant, unknown, FactOf}
use Rattle.rule_core.specs.Order.{unknown_cmp}
use Rattle.rule_core.specs.Mapping.{RuleSet}
use Rattle.rule_core.specs.Match.{value, image, Matches}
use Rattle.rule_core.specs.Homomorphism.{term_image, fact_image}
use Rattle.rule_core.specs.Laws.{IsReplacement, AreSides}
use Rattle.rule_core.specs.Solution.{TgdHolds, EgdHolds, IsSolution}
use Rattle.rule_core.specs.Validity.{IsWithin, IsTgd, IsEgd, IsValid}
use Rattle.rule_core.proofs.ListLemmas.{Contains-head, Contains-cons, Contains-from_map, AllPairs-head, AllPairs-tail}
use Rattle.rule_core.proofs.FiringLemmas.{occurs_from}
use Rattle.rule_core.proofs.OrderLemmas.{term_cmp-IsAntisymmetric}
use Rattle.rule_core.proofs.ToldLemmas.{image_after, bound_term}
use Rattle.rule_core.proofs.EqualSideLemmas.{replaced_goes, clash_has_no_map}
use Rattle.failure_trace.specs.declared.trace.Bound.{Bound}
use Rattle.failure_trace.specs.declared.trace.Value.{Value}
use Rattle.failure_trace.specs.declared.trace.Value.TheVariants.{Const as Text, Null}
use Rattle.failure_trace.specs.declared.trace.StepKind.{StepKind}
use Rattle.failure_trace.specs.declared.trace.StepKind.TheVariants.{Tgd as TgdStep, Egd as EgdStep, Clash as ClashStep}
use Rattle.failure_trace.specs.declared.trace.TraceStep.{TraceStep}
use Rattle.failure_trace.specs.Equating.{Replacement, bound_to, AreClashing, if_equal, of_unknowns, replacement_of, becomes, replaced_fact}
use Rattle.failure_trace.specs.Trace.{term_of, IsUnknown, numbers_of, terms_in, numbers_in}
use Rattle.failure_trace.specs.declared.why.Why.TheVariants.{K5}
use Rattle.failure_trace.specs.TraceRun.{Instance, Stage, going, clashed, Outcome, goes, stops, FitsTgd, given_numbers, AreNew, left_side, right_side, text_cmp, with_head, kind_tests, Pass}

abbrev Texts : Type 0
Texts = TermOf (List ℕ)

-- in an append, what stands in the one part or the other
in_front : {X : Type 0} (xs ys : List X) (x : X) → Contains xs x → Contains (xs ++ ys) x
in_front [] ys x c = absurd (omega (arith, c.1))
in_front {X} (z ∷ zs) ys x (zero, l, e) = (zero, omega arith, e)
in_front {X} (z ∷ zs) ys x (suc k, l, e) = let c = in_front zs ys x (k, omega (arith, l), e) in (suc c.0, omega (arith, c.1), c.2)

behind : {X : Type 0} (xs ys : List X) (x : X) → Contains ys x → Contains (xs ++ ys) x
behind [] ys x c = c
behind (z ∷ zs) ys x c = Contains-cons z x (zs ++ ys) (behind zs ys x c)

either_part : {X : Type 0} (xs ys : List X) (x : X) → Contains (xs ++ ys) x → Contains xs x ⊎ Contains ys x
either_part [] ys x c = inr c
either_part {X} (z ∷ zs) ys x (zero, l, e) = inl (zero, omega arith, e)
either_part {X} (z ∷ zs) ys x (suc k, l, e) = elim (either_part zs ys x (k, omega (arith, l), e)) [
  | inl c ↦ inl (Contains-cons z x zs c)
  | inr c ↦ inr c
]

-- numbers that go to the values of variables from one on, and others as before
abbrev given_to : List ℕ → ℕ → (ℕ → Texts) → (ℕ → Texts) → ℕ → Texts
given_to [] v e h n = h n
given_to (m ∷ ms) v e h n = cond (m == n) (e v) (given_to ms (suc v) e h n)

other_number : (ms : List ℕ) (v : ℕ) (e h : ℕ → Texts) (n : ℕ) → ¬ (Contains ms n) → given_to ms v e h n ≡ h n
other_number [] v e h n none = refl
other_number (m ∷ ms) v e h n none = by (m == n) refl (other_number ms (suc v) e h n (λ c. none (Contains-cons m n ms c)))
  where
    by : (b : Bool) → (m == n) ≡ b → given_to ms (suc v) e h n ≡ h n → cond b (e v) (given_to ms (suc v) e h n) ≡ h n
    by true same later = absurd (none (subst (λ k. Contains (m ∷ ms) k) (eqb-true m n same) (Contains-head m ms)))
    by false apart later = later

number_at : (ms : List ℕ) (v : ℕ) (e h : ℕ → Texts) (n k : ℕ) → AllPairs (λ a b. a ≢ b) ms → slice_get ms k ≡ Some n
    → given_to ms v e h n ≡ e (v + k)
number_at [] v e h n k pairs at = absurd cc
number_at (m ∷ ms) v e h n zero pairs at =
    let same : m ≡ n = ap (λ (o : Option ℕ). unwrap_or o n) at in
    ap (λ b. cond b (e v) (given_to ms (suc v) e h n)) (eq-eqb m n same) ∙ ap e (omega arith)
number_at (m ∷ ms) v e h n (suc k) pairs at =
    by (m == n) refl (number_at ms (suc v) e h n k (AllPairs-tail (λ a b. a ≢ b) m ms pairs) at)
  where
    stands : (xs : List ℕ) (j : ℕ) → slice_get xs j ≡ Some n → Contains xs n
    stands [] j f = absurd cc
    stands (x ∷ xs) zero f = (zero, omega arith, ap (λ (o : Option ℕ). unwrap_or o n) f)
    stands (x ∷ xs) (suc j) f = Contains-cons x n xs (stands xs j f)

    by : (b : Bool) → (m == n) ≡ b → given_to ms (suc v) e h n ≡ e (suc v + k) → cond b (e v) (given_to ms (suc v) e h n) ≡ e (v + suc k)
    by true same later = absurd (AllPairs-head (λ a b. a ≢ b) m ms pairs n (stands ms k at) (eqb-true m n same))
    by false apart later = later ∙ ap e (omega arith)

-- a variable behind the body's is bound to a number that the tgd gives
record GivesNumber (binding : List Bound) (skip v : ℕ) : Type 0 where
  number : ℕ
  place : ℕ
  at : skip + place ≡ v
  bound : bound_to (terms_in binding) v ≡ unknown (numbered number)
  given : slice_get (numbers_in (drop skip binding)) place ≡ Some number

gives_number : (binding : List Bound) (skip v : ℕ) → All (λ b. IsUnknown b.value) (drop skip binding) → skip ≤ v → v < length binding
    → GivesNumber binding skip v
gives_number [] skip v each le l = absurd (omega (arith, l))
gives_number (b ∷ rest) (suc skip) zero each le l = absurd (omega (arith, le))
gives_number (b ∷ rest) (suc skip) (suc v) each le l =
    let later = gives_number rest skip v each (omega (arith, le)) (omega (arith, l)) in
    record { number = later.number; place = later.place; at = omega (arith, later.at); bound = later.bound; given = later.given }
gives_number (b ∷ rest) zero v each le l =
    by b.value refl v l (λ w k. gives_number rest zero w (All-tail (λ b. IsUnknown b.value) b rest each) (omega arith) k)
  where
    by : (value : Value) → b.value ≡ value → (v : ℕ) → v < length (b ∷ rest) → ((w : ℕ) → w < length rest → GivesNumber rest zero w)
        → GivesNumber (b ∷ rest) zero v
    by (Text text) e v l later = absurd (subst IsUnknown e (All-head (λ b. IsUnknown b.value) b rest each))
    by (Null number) e zero l later = record {
      number = number;
      place = 0;
      at = refl;
      bound = ap term_of e;
      given = ap (λ w. slice_get (numbers_of w ++ numbers_in rest) 0) e;
    }
    by (Null number) e (suc v) l later =
        let at = later v (omega (arith, l)) in
        record {
          number = at.number;
          place = suc at.place;
          at = omega (arith, at.at);
          bound = at.bound;
          given = ap (λ w. slice_get (numbers_of w ++ numbers_in rest) (suc at.place)) e ∙ at.given;
        }

-- terms go one way under two maps that agree on their unknowns
terms_agree : (g h : Unknown (List ℕ) → Texts) (terms : List Texts) → ((u : Unknown (List ℕ)) → Contains terms (unknown u) → g u ≡ h u)
    → map (term_image g) terms ≡ map (term_image h) terms
terms_agree g h [] agree = refl
terms_agree g h (constant c ∷ terms) agree =
    ap (λ rest. constant c ∷ rest) (terms_agree g h terms (λ u c'. agree u (Contains-cons (constant c) (unknown u) terms c')))
terms_agree g h (unknown w ∷ terms) agree =
    let rest = terms_agree g h terms (λ u c'. agree u (Contains-cons (unknown w) (unknown u) terms c')) in
    λ i. agree w (Contains-head (unknown w) terms) i ∷ rest i

-- arguments have one value under two bindings that agree on the first variables
values_agree : (name : ConstId → List ℕ) (f g : ℕ → Texts) (n : ℕ) (args : List Arg) → All (IsWithin n) args
    → ((v : ℕ) → v < n → f v ≡ g v) → map (value name f) args ≡ map (value name g) args
values_agree name f g n [] within agree = refl
values_agree name f g n (Const c ∷ args) within agree =
    ap (λ rest. constant (name c) ∷ rest) (values_agree name f g n args (All-tail (IsWithin n) (Const c) args within) agree)
values_agree name f g n (Var v ∷ args) within agree =
    let rest = values_agree name f g n args (All-tail (IsWithin n) (Var v) args within) agree in
    λ i. agree v (All-head (IsWithin n) (Var v) args within) i ∷ rest i

-- unknowns that are equal as terms
abbrev unknown_or : Unknown (List ℕ) → Texts → Unknown (List ℕ)
unknown_or w (constant c) = w
unknown_or w (unknown u) = u

same_unknown : (u w : Unknown (List ℕ)) → ◌≡◌ {A = Texts} (unknown u) (unknown w) → u ≡ w
same_unknown u w e = ap (unknown_or u) e

text_apart : IsAntisymmetric text_cmp
text_apart = slice_cmp-IsAntisymmetric nat_cmp-IsAntisymmetric

-- what becomes of unknowns is a replacement
is_replacement : (r : Replacement (List ℕ)) → IsReplacement r.gone r.by (becomes text_cmp r)
is_replacement r w = by (unknown_cmp text_cmp w r.gone) refl
  where
    by : (o : Ordering) → unknown_cmp text_cmp w r.gone ≡ o
        → ((w ≡ r.gone) × (if_equal o r.by (unknown w) ≡ r.by)) ⊎ (if_equal o r.by (unknown w) ≡ unknown w)
    by Less e = inr refl
    by Equal e = inl (same_unknown w r.gone (term_cmp-IsAntisymmetric text_cmp text_apart (unknown w) (unknown r.gone) e), refl)
    by Greater e = inr refl

-- the two terms are an unknown and what it becomes
abbrev AreReplaced : Texts → Texts → Replacement (List ℕ) → Type 0
AreReplaced a b r = ((a ≡ unknown r.gone) × (b ≡ r.by)) ⊎ ((a ≡ r.by) × (b ≡ unknown r.gone))

are_replaced : (a b : Texts) (r : Replacement (List ℕ)) → replacement_of text_cmp a b ≡ Some r → AreReplaced a b r
are_replaced (constant c) (constant d) r e = absurd cc
are_replaced (constant c) (unknown w) r e =
    let same = ap (λ (o : Option (Replacement (List ℕ))). unwrap_or o r) e in
    subst (AreReplaced (constant c) (unknown w)) same (inr (refl, refl))
are_replaced (unknown u) (constant d) r e =
    let same = ap (λ (o : Option (Replacement (List ℕ))). unwrap_or o r) e in
    subst (AreReplaced (unknown u) (constant d)) same (inl (refl, refl))
are_replaced (unknown u) (unknown w) r e = by (unknown_cmp text_cmp u w) e
  where
    by : (o : Ordering) → of_unknowns text_cmp u w o ≡ Some r → AreReplaced (unknown u) (unknown w) r
    by Less f =
        let same = ap (λ (o : Option (Replacement (List ℕ))). unwrap_or o r) f in
        subst (AreReplaced (unknown u) (unknown w)) same (inr (refl, refl))
    by Equal f = absurd cc
    by Greater f =
        let same = ap (λ (o : Option (Replacement (List ℕ))). unwrap_or o r) f in
        subst (AreReplaced (unknown u) (unknown w)) same (inl (refl, refl))

-- stages that are equal as outcomes
abbrev stage_or : Stage → Outcome → Stage
stage_or stage (goes next) = next
stage_or stage (stops why) = stage

same_stage : (a b : Stage) → goes a ≡ goes b → a ≡ b
same_stage a b e = ap (stage_or a) e

module _ (name : ConstId → List ℕ) (rules : RuleSet) (valid : IsValid rules) (source target : List (FactOf (List ℕ)))
    (ground : All (λ fact. All (λ term. (c : List ℕ) × (term ≡ constant c)) fact.terms) source) (solution : IsSolution name rules source target) where
  -- the facts of the state go into the solution, and their unknowns have numbers that tgds gave
  record Goes (held : Instance) : Type 0 where
    of_unknown : Unknown (List ℕ) → Texts
    into : (fact : FactOf (List ℕ)) → Contains held.facts fact → Contains target (fact_image of_unknown fact)
    known : (fact : FactOf (List ℕ)) → Contains held.facts fact → (u : Unknown (List ℕ)) → Contains fact.terms (unknown u)
        → (n : ℕ) × (u ≡ numbered n) × Contains held.used n

  -- a tgd's step
  module _ (held : Instance) (tgd : Tgd) (binding : List Bound) (there : Contains rules.tgds tgd) (before : Goes held)
      (fits : FitsTgd tgd binding) (matches : Matches name (bound_to (terms_in binding)) tgd.body source)
      (new : AreNew held.used (given_numbers tgd binding)) where
    abbrev bound : ℕ → Texts
    bound = bound_to (terms_in binding)

    abbrev numbers : List ℕ
    numbers = given_numbers tgd binding

    is : IsTgd rules.sources rules.targets tgd
    is = All-contains (IsTgd rules.sources rules.targets) rules.tgds tgd valid.rules.tgds there

    holds : TgdHolds name tgd source target
    holds = All-contains (λ t. TgdHolds name t source target) rules.tgds tgd solution.tgds there

    abbrev extended : ℕ → Texts
    extended = (holds bound matches).0

    as_many : length binding ≡ length tgd.vars
    as_many = sym (length-map binding (λ (b : Bound). b.name)) ∙ ap length fits.0

    first : (v : ℕ) → v < tgd.body_vars → (c : List ℕ) × (bound v ≡ constant c)
    first v l =
        let fact = bound_term name bound tgd.body source v (occurs_from tgd.body v ((is.body_vars.same v).1 l)) matches in
        All-contains (λ term. (c : List ℕ) × (term ≡ constant c)) fact.0.terms (bound v)
        (All-contains (λ f. All (λ term. (c : List ℕ) × (term ≡ constant c)) f.terms) source fact.0 ground fact.1) fact.2

    other : (v : ℕ) → tgd.body_vars ≤ v → v < length tgd.vars → GivesNumber binding tgd.body_vars v
    other v le l = gives_number binding tgd.body_vars v fits.1 le (omega (arith, l, as_many))

    abbrev onward : Unknown (List ℕ) → Texts
    onward (numbered n) = given_to numbers tgd.body_vars extended (λ m. before.of_unknown (numbered m)) n
    onward (named r f v) = before.of_unknown (named r f v)

    goes_to_extended : (v : ℕ) → v < length tgd.vars → term_image onward (bound v) ≡ extended v
    goes_to_extended v l = elim (cases_lt v tgd.body_vars) [
      | inl low ↦
          let c = first v low in
          ap (term_image onward) c.1 ∙ sym c.1 ∙ sym ((holds bound matches).1 v low)
      | inr le ↦
          let g = other v le l in
          ap (term_image onward) g.bound
          ∙ number_at numbers tgd.body_vars extended (λ m. before.of_unknown (numbered m)) g.number g.place new.0 g.given
          ∙ ap extended g.at
    ]

    old_stays : (fact : FactOf (List ℕ)) → Contains held.facts fact → (u : Unknown (List ℕ)) → Contains fact.terms (unknown u)
        → onward u ≡ before.of_unknown u
    old_stays fact c (numbered n) d =
        other_number numbers tgd.body_vars extended (λ m. before.of_unknown (numbered m)) n (λ given.
        let k = before.known fact c (numbered n) d in
        let same : n ≡ k.0 = ap number_or k.1 in
        All-contains (λ m. ¬ (Contains held.used m)) numbers n new.1 given (subst (Contains held.used) (sym same) k.2))
      where
        number_or : Unknown (List ℕ) → ℕ
        number_or (numbered m) = m
        number_or (named r f v) = n
    old_stays fact c (named r f v) d = refl

    into_head : (atom : Atom) → Contains tgd.head atom → Contains target (fact_image onward (image name bound atom))
    into_head atom c =
        let goes_there = All-contains (λ a. Contains target (image name extended a)) tgd.head atom (holds bound matches).2 c in
        let within = All-contains (λ a. All (IsWithin (length tgd.vars)) a.args) tgd.head atom is.safe c in
        let same = values_agree name (λ v. term_image onward (bound v)) extended (length tgd.vars) atom.args within goes_to_extended in
        subst (Contains target) (sym (image_after name onward bound atom ∙ (λ i. record { relation = atom.relation; terms = same i }))) goes_there

    known_head : (atom : Atom) → Contains tgd.head atom → (u : Unknown (List ℕ)) → Contains (map (value name bound) atom.args) (unknown u)
        → (n : ℕ) × (u ≡ numbered n) × Contains numbers n
    known_head atom c u d =
        let from = Contains-from_map (value name bound) atom.args (unknown u) d in
        let within = All-contains (λ a. All (IsWithin (length tgd.vars)) a.args) tgd.head atom is.safe c in
        by from.0 from.1 (All-contains (IsWithin (length tgd.vars)) atom.args from.0 within from.1) from.2
      where
        stands : (xs : List ℕ) (j n : ℕ) → slice_get xs j ≡ Some n → Contains xs n
        stands [] j n f = absurd cc
        stands (x ∷ xs) zero n f = (zero, omega arith, ap (λ (o : Option ℕ). unwrap_or o n) f)
        stands (x ∷ xs) (suc j) n f = Contains-cons x n xs (stands xs j n f)

        by : (arg : Arg) → Contains atom.args arg → IsWithin (length tgd.vars) arg → value name bound arg ≡ unknown u
            → (n : ℕ) × (u ≡ numbered n) × Contains numbers n
        by (Const k) e within same = absurd cc
        by (Var v) e within same = elim (cases_lt v tgd.body_vars) [
          | inl low ↦ let b = first v low in let clash : constant b.0 ≡ unknown u = sym b.1 ∙ same in absurd cc
          | inr le ↦
              let g = other v le within in
              (g.number, same_unknown u (numbered g.number) (sym same ∙ g.bound), stands numbers g.place g.number g.given)
        ]

    fired : Goes (with_head name tgd binding held)
    fired = record {
      of_unknown = onward;
      into = λ fact c. elim (either_part held.facts (map (image name bound) tgd.head) fact c) [
        | inl old ↦
            let same = terms_agree before.of_unknown onward fact.terms (λ u d. sym (old_stays fact old u d)) in
            subst (Contains target) (λ i. record { relation = fact.relation; terms = same i }) (before.into fact old)
        | inr made ↦
            let from = Contains-from_map (image name bound) tgd.head fact made in
            subst (λ f. Contains target (fact_image onward f)) from.2 (into_head from.0 from.1)
      ];
      known = λ fact c u d. elim (either_part held.facts (map (image name bound) tgd.head) fact c) [
        | inl old ↦ let k = before.known fact old u d in (k.0, k.1, in_front held.used numbers k.0 k.2)
        | inr made ↦
            let from = Contains-from_map (image name bound) tgd.head fact made in
            let k = known_head from.0 from.1 u (subst (λ (f : FactOf (List ℕ)). Contains f.terms (unknown u)) (sym from.2) d) in
            (k.0, k.1, behind held.used numbers k.0 k.2)
      ];
    }

  -- an egd's step
  module _ (held : Instance) (egd : Egd) (binding : List Bound) (there : Contains rules.egds egd) (before : Goes held)
      (matches : Matches name (bound_to (terms_in binding)) egd.body held.facts) where
    egd_holds : EgdHolds name egd target
    egd_holds = All-contains (λ e. EgdHolds name e target) rules.egds egd solution.egds there

    egd_is : IsEgd rules.targets egd
    egd_is = All-contains (IsEgd rules.targets) rules.egds egd valid.rules.egds there

    -- an unknown that is a side is a known one
    side_known : (v : ℕ) → v < length egd.vars → (u : Unknown (List ℕ)) → bound_to (terms_in binding) v ≡ unknown u
        → (n : ℕ) × (u ≡ numbered n) × Contains held.used n
    side_known v l u e =
        let fact = bound_term name (bound_to (terms_in binding)) egd.body held.facts v (occurs_from egd.body v ((egd_is.body_vars.same v).1 l)) matches in
        before.known fact.0 fact.1 u (subst (Contains fact.0.terms) e fact.2)

    sides_are : (r : Replacement (List ℕ)) → AreReplaced (left_side egd binding) (right_side egd binding) r
        → AreSides name egd held.facts (unknown r.gone) r.by
    sides_are r sides = (bound_to (terms_in binding), matches, sides)

    by_known : (r : Replacement (List ℕ)) → AreReplaced (left_side egd binding) (right_side egd binding) r
        → (u : Unknown (List ℕ)) → r.by ≡ unknown u → (n : ℕ) × (u ≡ numbered n) × Contains held.used n
    by_known r (inl e) u same = side_known egd.right egd_is.right u (e.1 ∙ same)
    by_known r (inr e) u same = side_known egd.left egd_is.left u (e.0 ∙ same)

    equated : (r : Replacement (List ℕ)) → replacement_of text_cmp (left_side egd binding) (right_side egd binding) ≡ Some r
        → Goes (record held { facts = map (replaced_fact text_cmp r) held.facts })
    equated r e = record {
      of_unknown = before.of_unknown;
      into = replaced_goes name egd held.facts target egd_holds before.of_unknown before.into r.gone r.by (becomes text_cmp r)
          (sides_are r sides) (is_replacement r);
      known = λ fact c u d.
          let from = Contains-from_map (replaced_fact text_cmp r) held.facts fact c in
          let inside = subst (λ (f : FactOf (List ℕ)). Contains f.terms (unknown u)) (sym from.2) d in
          let term = Contains-from_map (term_image (becomes text_cmp r)) from.0.terms (unknown u) inside in
          of_term from.0 from.1 u term.0 term.1 term.2;
    }
      where
        sides : AreReplaced (left_side egd binding) (right_side egd binding) r
        sides = are_replaced (left_side egd binding) (right_side egd binding) r e

        of_term : (fact : FactOf (List ℕ)) → Contains held.facts fact → (u : Unknown (List ℕ)) → (term : Texts) → Contains fact.terms term
            → term_image (becomes text_cmp r) term ≡ unknown u → (n : ℕ) × (u ≡ numbered n) × Contains held.used n
        of_term fact c u (constant k) d same = absurd cc
        of_term fact c u (unknown w) d same = elim (is_replacement r w) [
          | inl x ↦ by_known r sides u (sym x.1 ∙ same)
          | inr x ↦
              let k = before.known fact c w d in
              (k.0, sym (same_unknown w u (sym x ∙ same)) ∙ k.1, k.2)
        ]

    clashing : (a b : Texts) → left_side egd binding ≡ a → right_side egd binding ≡ b → ¬ (AreClashing a b)
    clashing (constant c) (constant d) e f different =
        clash_has_no_map name egd held.facts target c d different (bound_to (terms_in binding), matches, inl (e, f)) egd_holds
        (record { of_unknown = before.of_unknown; into = before.into })
    clashing (constant c) (unknown w) e f different = different
    clashing (unknown u) b e f different = different

  -- so no steps lead to a clash
  step_leads : (held : Instance) (step : TraceStep) (next : Stage) → Goes held
      → kind_tests name rules source step.kind held step (goes next)
      → (Later : (more : Instance) → next ≡ going more → Goes more → ⊥) → ⊥
  step_leads held step next before tests later = by step.kind tests
    where
      by : (kind : StepKind) → kind_tests name rules source kind held step (goes next) → ⊥
      by TgdStep (inl (tgd, there, _, inl (fits, inl (matches, inl (new, e))))) =
          later (with_head name tgd step.binding held) (same_stage next (going (with_head name tgd step.binding held)) e)
          (fired held tgd step.binding there before fits matches new)
      by TgdStep (inl (tgd, there, _, inl (fits, inl (matches, inr (_, e))))) = absurd cc
      by TgdStep (inl (tgd, there, _, inl (fits, inr (_, e)))) = absurd cc
      by TgdStep (inl (tgd, there, _, inr (_, e))) = absurd cc
      by TgdStep (inr (_, e)) = absurd cc
      by EgdStep (inl (egd, there, _, inl (fits, inl (matches, x)))) =
          replaced egd there matches (replacement_of text_cmp (left_side egd step.binding) (right_side egd step.binding)) refl x
        where
          replaced : (egd : Egd) → Contains rules.egds egd → Matches name (bound_to (terms_in step.binding)) egd.body held.facts
              → (r : Option (Replacement (List ℕ)))
              → replacement_of text_cmp (left_side egd step.binding) (right_side egd step.binding) ≡ r
              → MatchOption r (goes next ≡ stops K5)
              (λ x. goes next ≡ goes (going (record held { facts = map (replaced_fact text_cmp x) held.facts }))) → ⊥
          replaced egd there matches None e f = absurd cc
          replaced egd there matches (Some r) e f =
              later (record held { facts = map (replaced_fact text_cmp r) held.facts })
              (same_stage next (going (record held { facts = map (replaced_fact text_cmp r) held.facts })) f)
              (equated held egd step.binding there before matches r e)
      by EgdStep (inl (egd, there, _, inl (fits, inr (_, e)))) = absurd cc
      by EgdStep (inl (egd, there, _, inr (_, e))) = absurd cc
      by EgdStep (inr (_, e)) = absurd cc
      by ClashStep (inl (egd, there, _, inl (fits, inl (matches, inl (different, e))))) =
          clashing held egd step.binding there before matches (left_side egd step.binding) (right_side egd step.binding) refl refl different
      by ClashStep (inl (egd, there, _, inl (fits, inl (matches, inr (_, e))))) = absurd cc
      by ClashStep (inl (egd, there, _, inl (fits, inr (_, e)))) = absurd cc
      by ClashStep (inl (egd, there, _, inr (_, e))) = absurd cc
      by ClashStep (inr (_, e)) = absurd cc

  no_clash : (held : Instance) (steps : List TraceStep) → Goes held → ¬ (Pass name rules source (going held) steps clashed)
  no_clash held [] before pass = absurd cc
  no_clash held (step ∷ steps) before pass =
      step_leads held step pass.0 before pass.1 (λ more e after.
      no_clash more steps after (subst (λ s. Pass name rules source s steps clashed) e pass.2))

  pub starts_nowhere : (steps : List TraceStep) → ¬ (Pass name rules source (going (record { facts = []; used = [] })) steps clashed)
  starts_nowhere steps = no_clash (record { facts = []; used = [] }) steps (record {
    of_unknown = unknown;
    into = λ fact c. absurd (omega (arith, c.1));
    known = λ fact c u d. absurd (omega (arith, c.1));
  })
