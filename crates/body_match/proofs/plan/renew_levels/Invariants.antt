-- The levels so far are renewed.
use Rattle.std.proofs.Common.{◌-◌}
use Rattle.body_match.proofs.RenewalLemmas.{AreRenewedIn}
use Rattle.body_match.proofs.plan.renew_levels.Given as goal

abbrev pub invariant-loop-before : goal.invariant-loop-before
invariant-loop-before g l =
    AreRenewedIn l.body (g.F.FactSource.rows l.source) l.gone l.fresh l.fn.levels.items l.levels.items (l.before - 1)
