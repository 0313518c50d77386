-- The plans so far are renewed.
use Rattle.body_match.proofs.RenewalLemmas.{AreRenewedFor}
use Rattle.body_match.proofs.plan.renew_plans.Given as goal

abbrev pub invariant-loop-at : goal.invariant-loop-at
invariant-loop-at g l = AreRenewedFor (g.F.FactSource.rows l.source) l.gone l.fresh l.fn.plans.items l.plans.items l.at
