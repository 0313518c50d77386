-- The cells for the columns so far are there, in the room that was there.
use Rattle.std.proofs.Common.{◌≡◌, ◌+◌, length}
use Rattle.slab.specs.Slab.{slab_len}
use Rattle.row_arena.specs.declared.held.TheConstants.{MOST_COLUMNS}
use Rattle.row_arena.specs.Layout.{AddsCells}
use Rattle.row_arena.proofs.arena.add_cells.Given as goal

abbrev pub invariant-loop-column : goal.invariant-loop-column
invariant-loop-column l = record {
  adds : AddsCells l.fn.cells.slots l.cells.slots l.row l.values l.ids l.column;
  size : length l.ids ≡ MOST_COLUMNS;
  len : slab_len l.cells ≡ slab_len l.fn.cells + l.column;
  capacity : l.cells.capacity ≡ l.fn.cells.capacity;
}
