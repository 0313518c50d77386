use Rattle.std.proofs.Common.{◌≡◌, ◌+◌, ◌<◌, length, take, drop}
use Rattle.coalescer.proofs.SweepSteps.{SweptRows}
use Rattle.coalescer.proofs.coalescing.sweep.Given as goal

abbrev pub invariant-loop-at : goal.invariant-loop-at
invariant-loop-at l = record {
  order : l.last < l.at;
  size : length l.rows.items ≡ length l.initial.rows.items;
  swept : SweptRows (take (l.last + 1) l.rows.items) (drop l.at l.rows.items) l.initial.rows.items;
}
