-- Maps of unknowns to terms that carry a set of facts into an instance. Constants are fixed.
use Rattle.std.specs.Prelude.{List, map, Contains}
use Rattle.rule_core.specs.Terms.{Unknown, TermOf, constant, unknown, FactOf}

-- where a term goes
abbrev pub term_image : {C : Type 0} → (Unknown C → TermOf C) → TermOf C → TermOf C
term_image h (constant c) = constant c
term_image h (unknown u) = h u

-- where a fact goes
abbrev pub fact_image : {C : Type 0} → (Unknown C → TermOf C) → FactOf C → FactOf C
fact_image h fact = record { relation = fact.relation; terms = map (term_image h) fact.terms }

-- a map of unknowns under which the image of each fact is in the instance
pub record Homomorphism {C : Type 0} (facts : FactOf C → Type 0) (instance : List (FactOf C)) : Type 0 where
  pub of_unknown : Unknown C → TermOf C
  pub into : (fact : FactOf C) → facts fact → Contains instance (fact_image of_unknown fact)
