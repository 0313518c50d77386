-- The cells so far are written, and the next is the one that stands there in the list.
use Rattle.std.proofs.Common.{◌≡◌, ℕ, List, ◌+◌, ◌*◌}
use Rattle.std.specs.Prelude.{slice_get}
use Rattle.row_arena.specs.Arena.{cell_in}
use Rattle.null_store.specs.Layout.{IsWalk, IsRewritten, KeepsRows}
use Rattle.null_store.proofs.lists.rewrite.Given as goal

abbrev pub invariant-loop : goal.invariant-loop
invariant-loop g l = record {
  next : (ids : List ℕ) → IsWalk (cell_in l.fn.arena) l.fn.list ids → l.next ≡ slice_get ids l.counter;
  written : (ids : List ℕ) → IsWalk (cell_in l.fn.arena) l.fn.list ids
      → IsRewritten (cell_in l.fn.arena) (cell_in l.arena) ids l.counter l.by l.last;
  keeps : KeepsRows l.fn.arena l.arena;
  steps : l.steps ≡ l.fn.steps + 2 * l.counter;
}
