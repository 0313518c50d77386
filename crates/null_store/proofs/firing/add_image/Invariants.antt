-- The row so far has the cells of the arguments so far, and constants behind.
use Rattle.std.proofs.Common.{◌≡◌, ◌≢◌, ◌+◌, ◌*◌, ◌≤◌, ℕ, Some, length}
use Rattle.fact_table.specs.Rows.{row_at}
use Rattle.null_store.specs.Lists.{rows_seen}
use Rattle.null_store.proofs.RowLemmas.{filled}
use Rattle.null_store.proofs.firing.add_image.Given as goal

abbrev pub invariant-loop-column : goal.invariant-loop-column
invariant-loop-column g l = record {
  here : row_at (rows_seen l.rows.arena) l.row ≡ Some (record {
    relation = l.atom.relation;
    cells = filled l.values l.column l.atom.args;
    span = l.fn.span;
  });
  others : (other : ℕ) → other ≢ l.row → row_at (rows_seen l.rows.arena) other ≡ row_at (rows_seen l.fn.rows.arena) other;
  pieces : l.rows.pieces ≡ l.fn.rows.pieces;
  room : l.rows.arena.spare_rows + 1 ≡ l.fn.rows.arena.spare_rows;
  cell_room : l.rows.arena.spare_cells + length l.atom.args ≡ l.fn.rows.arena.spare_cells;
  piece_room : l.rows.room ≡ l.fn.rows.room;
  steps : l.steps ≤ l.fn.steps + 2 * l.column;
}
