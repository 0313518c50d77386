-- The values of the first columns.
use Rattle.std.proofs.Common.{take}
use Rattle.certain_answers.specs.Collected.{IsShown}
use Rattle.certain_answers.proofs.collecting.row_of.Given as goal

abbrev pub invariant-loop-column : goal.invariant-loop-column
invariant-loop-column l = IsShown (take l.column-index l.columns) l.values l.row
