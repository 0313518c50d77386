use Rattle.body_match.proofs.IndexLemmas.{one_plan_more}
use Rattle.body_match.proofs.index.plans_of.Goals as goal

pub loop-first-preserved : goal.loop-first-preserved
loop-first-preserved g c =
    one_plan_more c.args.body.now c.args.vars (g.F.FactSource.rows c.args.source.now) c.loop-first.plans.items c.push.new.self.items
    c.loop-first.first c.in_ok-make.field-0 c.in_ok-push.ensures.items c.in_ok-make.ensures.plan c.in_ok-make.ensures.lists
    c.loop-first.invariant
