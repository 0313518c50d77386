-- The cells of the columns so far are gone, and those of the others are in place.
use Rattle.std.proofs.Common.{◌≡◌, ◌+◌}
use Rattle.slab.specs.Slab.{slab_len}
use Rattle.row_arena.specs.Layout.{AreInPlace, TakesCells}
use Rattle.row_arena.proofs.arena.take_cells.Given as goal

abbrev pub invariant-loop-column : goal.invariant-loop-column
invariant-loop-column l = record {
  takes : TakesCells l.fn.cells.slots l.cells.slots l.held.ids l.column;
  places : AreInPlace l.cells.slots l.held l.column;
  len : slab_len l.cells + l.column ≡ slab_len l.fn.cells;
  capacity : l.cells.capacity ≡ l.fn.cells.capacity;
}
