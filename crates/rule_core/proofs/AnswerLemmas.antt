-- Answers as homomorphisms carry them, and what is certain.
use Rattle.std.proofs.Common.{◌≡◌, ◌↔◌, ℕ, List, [], ◌∷◌, map, refl, ap, ◌∙◌, Contains}
use Rattle.term_core.specs.declared.const_id.ConstId.{ConstId}
use Rattle.rule_core.specs.declared.rules.Query.{Query}
use Rattle.rule_core.specs.Terms.{Unknown, TermOf, constant, unknown, FactOf}
use Rattle.rule_core.specs.Mapping.{RuleSet}
use Rattle.rule_core.specs.Homomorphism.{term_image, fact_image}
use Rattle.rule_core.specs.Solution.{IsUniversal}
use Rattle.rule_core.specs.Renaming.{AreToldApart}
use Rattle.rule_core.specs.Answers.{IsAnswer, IsCertain}
use Rattle.rule_core.proofs.ToldLemmas.{Matches-after, comes_back}
use Rattle.rule_core.proofs.ListLemmas.{Contains-map}

module _ {C : Type 0} (h : Unknown C → TermOf C) where
  -- the values of head variables, as a map carries them
  columns_after : (binding : ℕ → TermOf C) (columns : List ℕ)
      → map (λ v. term_image h (binding v)) columns ≡ map (term_image h) (map binding columns)
  columns_after binding [] = refl
  columns_after binding (v ∷ columns) = ap (λ rest. term_image h (binding v) ∷ rest) (columns_after binding columns)

  -- constants stay
  constants_stay : (constants : List C) → map (term_image h) (map constant constants) ≡ map constant constants
  constants_stay [] = refl
  constants_stay (c ∷ constants) = ap (λ rest. constant c ∷ rest) (constants_stay constants)

  -- where each fact goes into the other instance, answers of constants stay answers
  pub answer-after : (name : ConstId → C) (query : Query) (one two : List (FactOf C)) (constants : List C)
      → ((fact : FactOf C) → Contains one fact → Contains two (fact_image h fact))
      → IsAnswer name query one (map constant constants) → IsAnswer name query two (map constant constants)
  answer-after name query one two constants goes a = (
    a.0,
    a.1,
    a.2,
    a.3,
    (
      λ v. term_image h (a.4.0 v),
      Matches-after name h a.4.0 a.1.body one two goes a.4.1,
      columns_after a.4.0 a.1.columns ∙ ap (map (term_image h)) a.4.2 ∙ constants_stay constants,
    ),
  )

-- on a universal instance, certain is answered
pub certain_is_answered : {C : Type 0} (name : ConstId → C) (rules : RuleSet) (query : Query) (source target : List (FactOf C))
    (constants : List C) → IsUniversal name rules source target
    → IsCertain name rules query source constants ↔ IsAnswer name query target (map constant constants)
certain_is_answered name rules query source target constants universal = (
  λ certain. certain target universal.solution,
  λ answer other solution.
      let maps = universal.maps other solution in
      answer-after maps.of_unknown name query target other constants maps.into answer,
)

-- answers of constants are told by the instance however its unknowns are told
pub answers_retold : {C : Type 0} (told back : Unknown C → Unknown C) (instance : List (FactOf C)) → AreToldApart instance told back
    → (name : ConstId → C) (query : Query) (constants : List C) → IsAnswer name query instance (map constant constants)
    ↔ IsAnswer name query (map (fact_image (λ u. unknown (told u))) instance) (map constant constants)
answers_retold told back instance apart name query constants =
    let otherwise = map (fact_image (λ u. unknown (told u))) instance in (
      answer-after (λ u. unknown (told u)) name query instance otherwise constants (Contains-map (fact_image (λ u. unknown (told u))) instance),
      answer-after (λ u. unknown (back u)) name query otherwise instance constants (comes_back told back instance apart),
    )
