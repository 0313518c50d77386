-- The rows so far are cut, in the room that was there.
use Rattle.std.proofs.Common.{◌+◌, ◌*◌, ◌≤◌, length, take}
use Rattle.null_store.specs.Splits.{cells_of}
use Rattle.null_store.specs.Lists.{rows_seen}
use Rattle.null_store.specs.Layout.{CutsAll}
use Rattle.null_store.proofs.splitting.split_all.Given as goal

abbrev pub invariant-loop-number : goal.invariant-loop-number
invariant-loop-number g l = record {
  cuts : CutsAll l.m (take l.number-index l.numbers) l.made.items l.fn.rows l.rows;
  room : length l.numbers ≤ l.made.room + l.number-index;
  steps : l.steps ≤ l.fn.steps + 3 * cells_of (rows_seen l.fn.rows.arena) (take l.number-index l.numbers);
}
