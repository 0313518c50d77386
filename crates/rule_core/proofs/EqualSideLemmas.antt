-- What a match of an egd makes equal, each homomorphism into an instance in which the egd holds sends to one term.
use Rattle.std.proofs.Common.{◌≡◌, ◌≢◌, ◌⊎◌, List, [], ◌∷◌, map, refl, sym, ap, ◌∙◌, subst, inl, inr, Contains}
use Rattle.term_core.specs.declared.const_id.ConstId.{ConstId}
use Rattle.rule_core.specs.declared.rules.Egd.{Egd}
use Rattle.rule_core.specs.Terms.{Unknown, TermOf, constant, unknown, FactOf}
use Rattle.rule_core.specs.Homomorphism.{term_image, fact_image, Homomorphism}
use Rattle.rule_core.specs.Solution.{EgdHolds}
use Rattle.rule_core.specs.Laws.{IsReplacement, AreSides}
use Rattle.rule_core.proofs.ListLemmas.{Contains-from_map}
use Rattle.rule_core.proofs.HomomorphismLemmas.{both, fact_image-both}
use Rattle.rule_core.proofs.ToldLemmas.{Matches-after}

-- facts stay where each unknown does
terms_stay : {C : Type 0} (terms : List (TermOf C)) → map (term_image unknown) terms ≡ terms
terms_stay [] = refl
terms_stay (constant c ∷ terms) = ap (λ rest. constant c ∷ rest) (terms_stay terms)
terms_stay (unknown u ∷ terms) = ap (λ rest. unknown u ∷ rest) (terms_stay terms)

pub fact_image-unknown : {C : Type 0} (fact : FactOf C) → fact_image unknown fact ≡ fact
fact_image-unknown fact = λ i. record { relation = fact.relation; terms = terms_stay fact.terms i }

-- the constant that a term is, or else the other one
constant_or : {C : Type 0} → C → TermOf C → C
constant_or other (constant c) = c
constant_or other (unknown u) = other

module _ {C : Type 0} (name : ConstId → C) (egd : Egd) (facts instance : List (FactOf C)) (holds : EgdHolds name egd instance)
    (h : Unknown C → TermOf C) (goes : (fact : FactOf C) → Contains facts fact → Contains instance (fact_image h fact)) where
  -- the sides of a match go to one term
  pub sides_meet : (one other : TermOf C) → AreSides name egd facts one other → term_image h one ≡ term_image h other
  sides_meet one other sides = by sides.2
    where
      equal : term_image h (sides.0 egd.left) ≡ term_image h (sides.0 egd.right)
      equal = holds (λ v. term_image h (sides.0 v)) (Matches-after name h sides.0 egd.body facts instance goes sides.1)

      by : ((sides.0 egd.left ≡ one) × (sides.0 egd.right ≡ other)) ⊎ ((sides.0 egd.left ≡ other) × (sides.0 egd.right ≡ one))
          → term_image h one ≡ term_image h other
      by (inl e) = ap (term_image h) (sym e.0) ∙ equal ∙ ap (term_image h) e.1
      by (inr e) = ap (term_image h) (sym e.1) ∙ sym equal ∙ ap (term_image h) e.0

  -- so the map does not see that the one replaces the other
  module _ (u : Unknown C) (term : TermOf C) (by : Unknown C → TermOf C) (sides : AreSides name egd facts (unknown u) term)
      (replaces : IsReplacement u term by) where
    not_seen : (w : Unknown C) → both by h w ≡ h w
    not_seen w = in_case (replaces w)
      where
        in_case : ((w ≡ u) × (by w ≡ term)) ⊎ (by w ≡ unknown w) → both by h w ≡ h w
        in_case (inl e) = ap (term_image h) e.1 ∙ sym (sides_meet (unknown u) term sides) ∙ ap h (sym e.0)
        in_case (inr e) = ap (term_image h) e

    pub replaced_goes : (fact : FactOf C) → Contains (map (fact_image by) facts) fact → Contains instance (fact_image h fact)
    replaced_goes fact c =
        let from = Contains-from_map (fact_image by) facts fact c in
        let same : fact_image h (fact_image by from.0) ≡ fact_image h from.0 =
        fact_image-both by h from.0 ∙ (λ i. fact_image (λ w. not_seen w i) from.0) in
        subst (λ f. Contains instance (fact_image h f)) from.2 (subst (Contains instance) (sym same) (goes from.0 from.1))

-- two different constants meet nowhere
pub clash_has_no_map : {C : Type 0} (name : ConstId → C) (egd : Egd) (facts instance : List (FactOf C)) (c d : C)
    → c ≢ d → AreSides name egd facts (constant c) (constant d) → EgdHolds name egd instance
    → ¬ (Homomorphism (Contains facts) instance)
unfolding constant_or
clash_has_no_map name egd facts instance c d different sides holds map =
    different (ap (constant_or c) (sides_meet name egd facts instance holds map.of_unknown map.into (constant c) (constant d) sides))
