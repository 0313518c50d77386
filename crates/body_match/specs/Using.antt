-- The matches that use a row, as they are put together from the plans. No public clause cites this module.
use Rattle.std.specs.Prelude.{◌≡◌, ◌≢◌, ◌⊎◌, ◌<◌, ℕ, List, [], ◌∷◌, Option, Some, AllPairs, Contains, length, slice_get}
use Rattle.fact_table.specs.Rows.{SeenRow}
use Rattle.body_match.specs.declared.found.Match.{Match}
use Rattle.body_match.specs.declared.plan.Plan.{Plan}
use Rattle.body_match.specs.Matches.{StandsBefore}
use Rattle.body_match.specs.Plans.{IsBack, task_in}
use Rattle.body_match.specs.Search.{IsListedFrom}

-- to a list come those matches of which it is so, and no others, with their rows put back from an order
pub record AddsBack (order : List ℕ) (IsSo : Match → Type 0) (old new : List Match) : Type 0 where
  pub kept : (back : Match) → Contains old back → Contains new back
  pub all : (found : Match) → IsSo found → (back : Match) × IsBack order found back × Contains new back
  pub only : (back : Match) → Contains new back → Contains old back ⊎ ((found : Match) × IsSo found × IsBack order found back)

-- the match is one of the plan with the row at its first atom, its rows put back into the order of the body
abbrev pub IsOfPlan : Plan → List (Option SeenRow) → ℕ → Match → Type 0
IsOfPlan plan source row back =
    (found : Match) × IsListedFrom (task_in plan source) (row ∷ []) found × IsBack plan.order.items found back

-- the list has those of the first plans
pub record AreOfPlans (plans : List Plan) (source : List (Option SeenRow)) (row first : ℕ) (list : List Match) : Type 0 where
  pub only : (back : Match) → Contains list back → (plan : Plan) × Contains plans plan × IsOfPlan plan source row back
  pub all : (k : ℕ) (plan : Plan) → k < first → slice_get plans k ≡ Some plan → (found : Match)
      → IsListedFrom (task_in plan source) (row ∷ []) found → (back : Match) × IsBack plan.order.items found back × Contains list back

-- the first of two stands before the other, or has the same rows and is another match
abbrev pub AreInOrder : Match → Match → Type 0
AreInOrder a b = StandsBefore a b ⊎ ((a.rows ≡ b.rows) × (a ≢ b))

-- the list has those of all plans, in order
pub record AreAllInOrder (plans : List Plan) (source : List (Option SeenRow)) (row : ℕ) (list : List Match) : Type 0 where
  pub each : AreOfPlans plans source row (length plans) list
  pub order : AllPairs AreInOrder list
