-- Solutions, and where the firing facts of a source go.
use mathlib.Core.List.{map-map}
use Rattle.std.proofs.Common.{◌≡◌, ◌↔◌, ℕ, zero, suc, ◌+◌, ◌-◌, ◌<◌, ◌≤◌, ◌==◌, cond, ltb, Option, Some, None, List, [], ◌∷◌}
use Rattle.std.proofs.Common.{length, map, get_or, refl, sym, ap, ◌∙◌, subst, inl, inr, arith, All, Contains}
use Rattle.std.specs.declared.cmp.Ordering.{Ordering}
use Rattle.std.specs.Cmp.{IsTotalOrder}
use Rattle.std.specs.FinMap.{IsAntisymmetric}
use Rattle.std.specs.Prelude.{IsSomeAnd, slice_get}
use Rattle.std.specs.List.{position_or_len}
use Rattle.std.specs.Option.{IfSome, option_map, option_and_then, option_map_or}
use Rattle.std.proofs.lemmas.Bool.{cases_lt, lt-ltb, le-ltb, eqb-true, eq-eqb, both_ways, cond-true, cond-false}
use Rattle.std.proofs.lemmas.List.Elements.{All-head, All-tail, All-contains, Contains-get_or}
use Rattle.std.proofs.lemmas.List.Sums.{fails_before_first, passes_at_first}
use Rattle.std.proofs.lemmas.Option.{slice_get-map, slice_get-get_or}
use Rattle.term_core.specs.declared.const_id.ConstId.{ConstId}
use Rattle.rule_core.specs.declared.rules.Arg.{Arg}
use Rattle.rule_core.specs.declared.rules.Arg.TheVariants.{Var, Const}
use Rattle.rule_core.specs.declared.rules.Atom.{Atom}
use Rattle.rule_core.specs.declared.rules.Tgd.{Tgd}
use Rattle.rule_core.specs.Terms.{Unknown, numbered, named, TermOf, constant, unknown, FactOf}
use Rattle.rule_core.specs.Mapping.{RuleSet}
use Rattle.rule_core.specs.Match.{value, image, Matches}
use Rattle.rule_core.specs.Homomorphism.{term_image, fact_image, Homomorphism}
use Rattle.rule_core.specs.Solution.{Extends, TgdHolds, EgdHolds, IsSolution}
use Rattle.rule_core.specs.Firing.{frontier_of, frontier_value, fired_term, Fires, fired_facts, IsFiringFact}
use Rattle.rule_core.specs.Validity.{occurrences, AreNumbered, IsValid}
use Rattle.rule_core.proofs.ListLemmas.{Contains-map, Contains-from_map}
use Rattle.rule_core.proofs.FiringLemmas.{frontier_is}
use Rattle.tgd_chase.specs.Fired.{IsGround}
use Rattle.tgd_chase.proofs.DecisionLemmas.{IsDecided}
use Rattle.tgd_chase.proofs.FiringSearchLemmas.{map_agree, matches_agree, value_in, fires_decided}

-- the values of the frontier

module _ (xs : List ℕ) (v : ℕ) where
  -- the first place of the variable, or the length where there is none
  abbrev here : ℕ
  here = position_or_len (λ w. w == v) xs

  here_is : here < length xs → get_or xs here v ≡ v
  here_is l = eqb-true (get_or xs here v) v (passes_at_first (λ w. w == v) xs v l)

  here_within : Contains xs v → here < length xs
  here_within c = elim (cases_lt here (length xs)) [
    | inl l ↦ l
    | inr past ↦
        let fails = fails_before_first (λ w. w == v) xs c.0 v (omega (arith, c.1)) in
        absurd (both_ways (get_or xs c.0 v == v) fails (eq-eqb (get_or xs c.0 v) v c.2))
  ]

  -- a variable of the list has its value
  pub frontier_value-there : {C : Type 0} (f : ℕ → C) → Contains xs v → frontier_value xs (map f xs) v ≡ Some (f v)
  frontier_value-there {C} f c =
      let l = here_within c in
      let n = length xs in
      ap (option_and_then (λ place. slice_get (map f xs) place)) (cond-true (ltb here n) (Some here) None (lt-ltb here n l))
      ∙ slice_get-map f xs here
      ∙ ap (λ o. option_map f o) (slice_get-get_or xs here v l)
      ∙ ap (λ w. Some (f w)) (here_is l)

  -- any other variable has none
  pub frontier_value-none : {C : Type 0} (values : List C) → ¬ (Contains xs v) → frontier_value xs values v ≡ None
  frontier_value-none {C} values n = elim (cases_lt here (length xs)) [
    | inl l ↦ absurd (n (here, l, here_is l))
    | inr past ↦ let n = length xs in
        ap (option_and_then (λ place. slice_get values place)) (cond-false (ltb here n) (Some here) None (le-ltb here n past))
  ]

-- what holds of each element holds of the one at a place, if there is one
IfSome-from_All : {X : Type 0} (P : X → Type 0) (xs : List X) → All P xs → (k : ℕ) → IfSome (slice_get xs k) P
IfSome-from_All P [] h k = tt
IfSome-from_All P (x ∷ xs) h zero = All-head P x xs h
IfSome-from_All P (x ∷ xs) h (suc k) = IfSome-from_All P xs (All-tail P x xs h) k

-- terms that are constants

-- the constant, or the given one for an unknown
constant_or : {C : Type 0} → C → TermOf C → C
constant_or base (constant c) = c
constant_or base (unknown u) = base

-- the term is a constant
abbrev IsConstant : {C : Type 0} → TermOf C → Type 0
IsConstant {C} term = (c : C) × (term ≡ constant c)

constant_is : {C : Type 0} (base : C) (term : TermOf C) → IsConstant term → term ≡ constant (constant_or base term)
unfolding constant_or
constant_is base term h = h.1 ∙ ap constant (sym (ap (constant_or base) h.1))

module _ {C : Type 0} (name : ConstId → C) where
  -- one fired fact

  -- a binding that gives the body's variables their values, and each other variable what its unknown goes to
  module _ (place : ℕ) (tgd : Tgd) (f : ℕ → C) (values : List C) (are : map f (frontier_of tgd) ≡ values)
      (h : Unknown C → TermOf C) (e : ℕ → TermOf C) (first : (v : ℕ) → v < tgd.body_vars → e v ≡ constant (f v))
      (others : (v : ℕ) → tgd.body_vars ≤ v → e v ≡ h (named place values (v - tgd.body_vars))) where
    -- where a variable's term goes, by what the frontier has for it
    abbrev goes_to : ℕ → Option C → TermOf C
    goes_to v o = term_image h (option_map_or constant o (unknown (named place values (v - tgd.body_vars))))

    fired_first : (v : ℕ) → Contains (frontier_of tgd) v → term_image h (fired_term place tgd values v) ≡ e v
    fired_first v c =
        let vs = frontier_of tgd in
        let found = subst (λ l. frontier_value vs l v ≡ Some (f v)) are (frontier_value-there vs v f c) in
        ap (goes_to v) found ∙ sym (first v (((frontier_is tgd).same v).0 c).0)

    fired_other : (v : ℕ) → tgd.body_vars ≤ v → term_image h (fired_term place tgd values v) ≡ e v
    fired_other v le =
        let none = frontier_value-none (frontier_of tgd) v values (λ c. omega (arith, le, (((frontier_is tgd).same v).0 c).0)) in
        ap (goes_to v) none ∙ sym (others v le)

    fired_argument : (atom : Atom) → Contains tgd.head atom → (arg : Arg) → Contains atom.args arg
        → term_image h (value name (fired_term place tgd values) arg) ≡ value name e arg
    fired_argument atom there (Const k) c = refl
    fired_argument atom there (Var v) c = elim (cases_lt v tgd.body_vars) [
      | inl l ↦ fired_first v (((frontier_is tgd).same v).1 (l, (there.0, atom, there.1, there.2, c)))
      | inr le ↦ fired_other v le
    ]

    -- a fact that the tgd makes goes to the image of its atom under this binding
    pub fact_image-fired : (atom : Atom) → Contains tgd.head atom
        → fact_image h (image name (fired_term place tgd values) atom) ≡ image name e atom
    fact_image-fired atom there =
        let made = value name (fired_term place tgd values) in
        let terms = map-map (term_image h) made atom.args
        ∙ map_agree (λ arg. term_image h (made arg)) (value name e) atom.args (fired_argument atom there) in
        λ i. record { relation = atom.relation; terms = terms i }

  -- from a homomorphism to a solution

  -- the tgd at the place makes the fact from the source
  abbrev Makes : List (FactOf C) → ℕ → FactOf C → Tgd → Type 0
  Makes source place fact tgd = (values : List C) × Fires name tgd source values × Contains (fired_facts name place tgd values) fact

  module _ (base : C) (source target : List (FactOf C)) (ground : IsGround source) where
    -- a variable of atoms that match in the source stands for a constant
    ground_value : (atoms : List Atom) (b : ℕ → TermOf C) → Matches name b atoms source → (v : ℕ) → Contains (occurrences atoms) v
        → b v ≡ constant (constant_or base (b v))
    ground_value atoms b m v c =
        let at = value_in name atoms source b m v c in
        let terms = All-contains (λ (fact : FactOf C). All IsConstant fact.terms) source at.0 ground at.1 in
        constant_is base (b v) (All-contains IsConstant at.0.terms (b v) terms at.2)

    -- a match of a tgd's body in the source, which extends to the head
    module _ (place : ℕ) (tgd : Tgd) (counted : AreNumbered tgd.body_vars (occurrences tgd.body)) (h : Unknown C → TermOf C)
        (b : ℕ → TermOf C) (m : Matches name b tgd.body source) where
      -- the constants of the body's variables, and those of the frontier
      abbrev body_value : ℕ → C
      body_value v = constant_or base (b v)

      abbrev frontier_values : List C
      frontier_values = map body_value (frontier_of tgd)

      abbrev null : ℕ → TermOf C
      null v = h (named place frontier_values (v - tgd.body_vars))

      -- the variables of the body stand for what the match gives them, and the others for what their unknowns go to
      abbrev extended : ℕ → TermOf C
      extended v = cond (ltb v tgd.body_vars) (b v) (null v)

      is_constant : (v : ℕ) → v < tgd.body_vars → b v ≡ constant (body_value v)
      is_constant v l = ground_value tgd.body b m v ((counted.same v).1 l)

      extends : Extends tgd.body_vars b extended
      extends v l = cond-true (ltb v tgd.body_vars) (b v) (null v) (lt-ltb v tgd.body_vars l)

      others : (v : ℕ) → tgd.body_vars ≤ v → extended v ≡ null v
      others v le = cond-false (ltb v tgd.body_vars) (b v) (null v) (le-ltb v tgd.body_vars le)

      fires : Fires name tgd source frontier_values
      fires = (
        body_value,
        matches_agree name tgd.body source b (λ v. constant (body_value v)) (λ v c. sym (is_constant v ((counted.same v).0 c))) m,
        refl,
      )

      head_atom_in : (atom : Atom) → Contains tgd.head atom
          → ((fact : FactOf C) → Contains (fired_facts name place tgd frontier_values) fact → Contains target (fact_image h fact))
          → Contains target (image name extended atom)
      head_atom_in atom there into =
          let made = image name (fired_term place tgd frontier_values) in
          let first : (v : ℕ) → v < tgd.body_vars → extended v ≡ constant (body_value v) = λ v l. extends v l ∙ is_constant v l in
          subst (λ g. Contains target g)
          (fact_image-fired place tgd body_value frontier_values refl h extended first others atom there)
          (into (made atom) (Contains-map made tgd.head atom there))

    -- a tgd holds where all facts that it makes go into the target
    tgd_holds : (place : ℕ) (tgd : Tgd) → AreNumbered tgd.body_vars (occurrences tgd.body) → (h : Unknown C → TermOf C)
        → ((values : List C) → Fires name tgd source values → (fact : FactOf C) → Contains (fired_facts name place tgd values) fact
        → Contains target (fact_image h fact))
        → TgdHolds name tgd source target
    tgd_holds place tgd counted h into b m = (
      extended place tgd counted h b m,
      extends place tgd counted h b m,
      λ k d l. head_atom_in place tgd counted h b m (get_or tgd.head k d) (Contains-get_or tgd.head k d l)
          (into (frontier_values place tgd counted h b m) (fires place tgd counted h b m)),
    )

    pub solution_from_homomorphism : (rules : RuleSet) → IsValid rules → All (λ egd. EgdHolds name egd target) rules.egds
        → Homomorphism (IsFiringFact name rules source) target → IsSolution name rules source target
    solution_from_homomorphism rules valid egds h = record {
      tgds = λ place d l.
          let tgd = get_or rules.tgds place d in
          let is_tgd = valid.rules.tgds place d l in
          let is_there = sym (slice_get-get_or rules.tgds place d l) in
          tgd_holds place tgd is_tgd.body_vars h.of_unknown (λ values fires fact c.
          h.into fact (place, subst (λ o. IsSomeAnd o (Makes source place fact)) is_there (values, fires, c)));
      egds = egds;
    }

  -- from a solution to a homomorphism

  module _ (source target : List (FactOf C))
      (decided : (tgd : Tgd) → AreNumbered tgd.body_vars (occurrences tgd.body) → (values : List C)
      → IsDecided (Fires name tgd source values)) where
    -- what the homomorphism needs of a tgd
    record IsMet (tgd : Tgd) : Type 0 where
      counted : AreNumbered tgd.body_vars (occurrences tgd.body)
      holds : TgdHolds name tgd source target

    -- where the unknown goes that the tgd names for a list of frontier values
    chosen : (tgd : Tgd) → IsMet tgd → (values : List C) → IsDecided (Fires name tgd source values) → ℕ → TermOf C
    chosen tgd met values (inl fires) k = (met.holds (λ v. constant (fires.0 v)) fires.1).0 (tgd.body_vars + k)
    chosen tgd met values (inr n) k = unknown (numbered k)

    -- where an unknown of the tgd goes, if there is one
    sent : (o : Option Tgd) → IfSome o IsMet → List C → ℕ → TermOf C
    sent (Some tgd) met values k = chosen tgd met values (decided tgd met.counted values) k
    sent None met values k = unknown (numbered k)

    -- a fact of a tgd goes into the target where its unknowns go as chosen
    chosen_into : (place : ℕ) (tgd : Tgd) (met : IsMet tgd) (values : List C) (d : IsDecided (Fires name tgd source values))
        → Fires name tgd source values → (h : Unknown C → TermOf C) → ((k : ℕ) → h (named place values k) ≡ chosen tgd met values d k)
        → (fact : FactOf C) → Contains (fired_facts name place tgd values) fact → Contains target (fact_image h fact)
    unfolding chosen
    chosen_into place tgd met values (inr n) fires h is fact c = absurd (n fires)
    chosen_into place tgd met values (inl found) fires h is fact c =
        let extension = met.holds (λ v. constant (found.0 v)) found.1 in
        let from = Contains-from_map (image name (fired_term place tgd values)) tgd.head fact c in
        let others : (v : ℕ) → tgd.body_vars ≤ v → extension.0 v ≡ h (named place values (v - tgd.body_vars)) =
        λ v le. ap extension.0 (omega arith) ∙ sym (is (v - tgd.body_vars)) in
        subst (λ g. Contains target (fact_image h g)) from.2
        (subst (λ g. Contains target g)
        (sym (fact_image-fired place tgd found.0 values found.2 h extension.0 extension.1 others from.0 from.1))
        (All-contains (λ atom. Contains target (image name extension.0 atom)) tgd.head from.0 extension.2 from.1))

    sent_into : (place : ℕ) (o : Option Tgd) (met : IfSome o IsMet) (h : Unknown C → TermOf C)
        → ((values : List C) (k : ℕ) → h (named place values k) ≡ sent o met values k) → (fact : FactOf C)
        → IsSomeAnd o (Makes source place fact)
        → Contains target (fact_image h fact)
    unfolding sent
    sent_into place None met h is fact k = absurd k
    sent_into place (Some tgd) met h is fact k =
        chosen_into place tgd met k.0 (decided tgd met.counted k.0) k.1 h (is k.0) fact k.2

    module _ (rules : RuleSet) (met : (place : ℕ) → IfSome (slice_get rules.tgds place) IsMet) where
      -- a numbered unknown stays, and a named one goes where its tgd sends it
      of_unknown : Unknown C → TermOf C
      of_unknown (numbered n) = unknown (numbered n)
      of_unknown (named place values k) = sent (slice_get rules.tgds place) (met place) values k

      homomorphism : Homomorphism (IsFiringFact name rules source) target
      unfolding of_unknown
      homomorphism = record {
        of_unknown = of_unknown;
        into = λ fact k. sent_into k.0 (slice_get rules.tgds k.0) (met k.0) of_unknown (λ values j. refl) fact k.1;
      }

    pub homomorphism_from_solution : (rules : RuleSet) → IsValid rules → IsSolution name rules source target
        → Homomorphism (IsFiringFact name rules source) target
    homomorphism_from_solution rules valid solution = homomorphism rules (λ place. IfSome-from_All IsMet rules.tgds met place)
      where
        met : All IsMet rules.tgds
        met k d l = record { counted = (valid.rules.tgds k d l).body_vars; holds = solution.tgds k d l }

  -- both ways

  module _ (cmp : C → C → Ordering) (o : IsTotalOrder cmp) (apart : IsAntisymmetric cmp) (base : C) where
    pub solutions_are : (rules : RuleSet) → IsValid rules → (source target : List (FactOf C)) → IsGround source
        → IsSolution name rules source target
        ↔ (All (λ egd. EgdHolds name egd target) rules.egds × Homomorphism (IsFiringFact name rules source) target)
    solutions_are rules valid source target ground = (
      λ solution. (
        solution.egds,
        homomorphism_from_solution source target
            (λ tgd counted values. fires_decided name base cmp o apart tgd counted source values) rules valid solution,
      ),
      λ k. solution_from_homomorphism base source target ground rules valid k.0 k.1,
    )
