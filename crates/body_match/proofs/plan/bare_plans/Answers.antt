use Rattle.body_match.proofs.RenewalLemmas.{one_bare_more}
use Rattle.body_match.proofs.plan.bare_plans.Goals as goal

pub loop-first-preserved : goal.loop-first-preserved
loop-first-preserved c =
    one_bare_more c.args.body.now c.args.vars c.loop-first.plans.items c.push.new.self.items c.loop-first.first c.in_ok-bare.field-0
    c.in_ok-push.ensures.items c.in_ok-bare.ensures c.loop-first.invariant
