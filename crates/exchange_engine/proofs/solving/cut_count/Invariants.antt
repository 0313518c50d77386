-- The count so far is that of the steps so far.
use Rattle.std.proofs.Common.{◌≡◌, length, take, sum_by}
use Rattle.exchange_engine.proofs.solving.cut_count.Given as goal

abbrev pub invariant-loop-step : goal.invariant-loop-step
invariant-loop-step l = l.count ≡ sum_by (λ step. length step.cuts) (take l.step-index l.journal)
