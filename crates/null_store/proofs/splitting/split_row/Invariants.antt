-- The first cells of the copy are there, with the twins of their pieces, which are cut; the others can be cut.
use Rattle.std.proofs.Common.{◌≡◌, ◌+◌, ◌*◌, ◌≤◌, Some, length}
use Rattle.fact_table.specs.Rows.{SeenRow, row_at}
use Rattle.null_store.specs.Lists.{rows_seen}
use Rattle.null_store.proofs.CopyLemmas.{CopySoFar}
use Rattle.null_store.proofs.splitting.split_row.Given as goal

abbrev pub invariant-loop-column : goal.invariant-loop-column
invariant-loop-column g l = record {
  size : (row : SeenRow) → row_at (rows_seen l.fn.rows.arena) l.fn.number ≡ Some row → length row.cells ≡ l.column-end;
  copied : (row : SeenRow) → row_at (rows_seen l.fn.rows.arena) l.fn.number ≡ Some row
      → CopySoFar l.m l.fn.number l.copy l.column row l.fn.rows l.rows;
  steps : l.steps ≤ l.fn.steps + 3 * l.column;
}
