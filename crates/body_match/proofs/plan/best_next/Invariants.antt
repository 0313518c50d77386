-- The place is one of those.
use Rattle.std.proofs.Common.{◌≤◌, ◌<◌, length}
use Rattle.body_match.proofs.plan.best_next.Given as goal

abbrev pub invariant-loop-other : goal.invariant-loop-other
invariant-loop-other l = record {
  from : l.at ≤ l.best;
  within : l.best < length l.order;
}
