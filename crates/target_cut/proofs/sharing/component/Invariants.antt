-- So many rows are visited, and at most all rows are found.
use Rattle.std.proofs.Common.{◌-◌, length}
use Rattle.target_cut.specs.Search.{Finds}
use Rattle.target_cut.proofs.sharing.component.Given as goal

abbrev pub invariant-loop-done : goal.invariant-loop-done
invariant-loop-done g l = Finds l.store l.row l.done l.rows.keys l.pieces.keys

abbrev pub decreases-loop-done : goal.decreases-loop-done
decreases-loop-done g l = length l.store.rows - l.done
