-- The cells of the first terms.
use Rattle.std.proofs.Common.{◌≡◌, map, take}
use Rattle.certain_answers.specs.Shown.{cell_for}
use Rattle.certain_answers.proofs.table_rows.cells_of.Given as goal

abbrev pub invariant-loop-term : goal.invariant-loop-term
invariant-loop-term l = l.cells ≡ map (cell_for l.nulls) (take l.term-index l.terms)
