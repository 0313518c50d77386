-- The cells so far are visited.
use Rattle.target_cut.specs.Search.{VisitsBelow}
use Rattle.target_cut.proofs.sharing.visit.Given as goal

abbrev pub invariant-loop-column : goal.invariant-loop-column
invariant-loop-column g l = VisitsBelow l.store l.row l.column l.initial.rows.keys l.rows.keys l.initial.pieces.keys l.pieces.keys
