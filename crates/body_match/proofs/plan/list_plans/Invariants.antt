-- The row is listed for the plans so far.
use Rattle.body_match.proofs.IndexLemmas.{AreListedFor}
use Rattle.body_match.proofs.plan.list_plans.Given as goal

abbrev pub invariant-loop-at : goal.invariant-loop-at
invariant-loop-at g l = AreListedFor (g.F.FactSource.rows l.source) l.row l.fn.plans.items l.plans.items l.at
