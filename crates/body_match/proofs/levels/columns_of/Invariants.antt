-- The columns so far are bound.
use Rattle.body_match.specs.Keys.{AreBound}
use Rattle.body_match.proofs.levels.columns_of.Given as goal

abbrev pub invariant-loop-column : goal.invariant-loop-column
invariant-loop-column l = AreBound l.places l.before l.atom l.columns.items
