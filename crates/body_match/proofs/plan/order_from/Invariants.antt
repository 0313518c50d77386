-- All places, each once, and the first is kept.
use Rattle.std.proofs.Common.{length}
use Rattle.body_match.specs.Plans.{IsOrder}
use Rattle.body_match.proofs.plan.order_from.Given as goal

abbrev pub invariant-loop-at : goal.invariant-loop-at
invariant-loop-at l = IsOrder (length l.body) l.first l.order.items
