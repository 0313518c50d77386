-- The rows so far are those for the atoms so far, in the room that was there.
use Rattle.std.proofs.Common.{◌≡◌, ◌+◌, ◌*◌, ◌≤◌, length, map, take}
use Rattle.std.specs.Prelude.{flat_map}
use Rattle.null_store.specs.Lists.{rows_seen}
use Rattle.null_store.specs.Layout.{row_for, AddsRows}
use Rattle.null_store.proofs.firing.add_rows.Given as goal

abbrev pub invariant-loop-atom : goal.invariant-loop-atom
invariant-loop-atom g l = record {
  rows : AddsRows (rows_seen l.fn.rows.arena) (rows_seen l.rows.arena) (map (row_for l.values l.span) (take l.atom-index l.head));
  pieces : l.rows.pieces ≡ l.fn.rows.pieces;
  room : l.rows.arena.spare_rows + l.atom-index ≡ l.fn.rows.arena.spare_rows;
  cell_room : l.rows.arena.spare_cells + length (flat_map (λ atom. atom.args) (take l.atom-index l.head)) ≡ l.fn.rows.arena.spare_cells;
  piece_room : l.rows.room ≡ l.fn.rows.room;
  steps : l.steps ≤ l.fn.steps + 2 * length (flat_map (λ atom. atom.args) (take l.atom-index l.head));
}
