-- The rows of the cells so far are there, and the next cell is the one that stands there in the list.
use Rattle.std.proofs.Common.{◌≡◌, ◌≤◌, ℕ, List, ◌+◌, length}
use Rattle.std.specs.Prelude.{slice_get, vec_capacity}
use Rattle.row_arena.specs.Arena.{cell_in}
use Rattle.null_store.specs.Layout.{IsWalk, HasRowsBelow}
use Rattle.null_store.proofs.lists.rows_of.Given as goal

abbrev pub invariant-loop : goal.invariant-loop
invariant-loop g l = record {
  next : (ids : List ℕ) → IsWalk (cell_in l.arena) l.fn.list ids → l.next ≡ slice_get ids l.counter;
  rows : (ids : List ℕ) → IsWalk (cell_in l.arena) l.fn.list ids → HasRowsBelow (cell_in l.arena) ids l.counter l.rows.items;
  room : l.fn.list.count ≤ vec_capacity l.rows;
  steps : l.steps ≡ l.fn.steps + length l.rows.items;
}
