-- The rows so far are listed.
use Rattle.body_match.specs.Keys.{ListsRows}
use Rattle.body_match.proofs.levels.entries_of.Given as goal

abbrev pub invariant-loop-row : goal.invariant-loop-row
invariant-loop-row g l = ListsRows (g.F.FactSource.rows l.source) l.atom l.columns l.row l.entries.items
