-- In the atoms so far the variable stands at the place at most.
use Rattle.std.proofs.Common.{◌≡◌, ◌<◌, ℕ}
use Rattle.body_match.specs.Equality.{StandsAt}
use Rattle.body_match.proofs.looked.stands_elsewhere.Given as goal

abbrev pub invariant-loop-at : goal.invariant-loop-at
invariant-loop-at l = (other other_column : ℕ) → other < l.at → StandsAt l.body l.variable other other_column
    → (other ≡ l.place.atom) × (other_column ≡ l.place.column)
