-- The cells of the rows so far.
use Rattle.std.proofs.Common.{◌≡◌, take}
use Rattle.null_store.specs.Splits.{cells_of}
use Rattle.target_cut.proofs.cutting.cells_in.Given as goal

abbrev pub invariant-loop-row : goal.invariant-loop-row
invariant-loop-row l = l.cells ≡ cells_of l.store.rows (take l.row-index l.rows)
