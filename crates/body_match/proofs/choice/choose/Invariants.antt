-- Those of the rows so far that are needed are shown.
use Rattle.body_match.specs.Choice.{AreChosen}
use Rattle.body_match.proofs.choice.choose.Given as goal

abbrev pub invariant-loop-row : goal.invariant-loop-row
invariant-loop-row g l =
    AreChosen l.body l.looked (g.F.FactSource.rows l.source) l.rows l.fn.choice.shown.items l.choice.shown.items l.row-index
