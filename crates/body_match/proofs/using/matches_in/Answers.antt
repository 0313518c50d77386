use Rattle.std.proofs.Common.{List, length, refl, arith}
use Rattle.std.proofs.lemmas.Option.{slice_get_read}
use Rattle.body_match.specs.declared.plan.Plan.{Plan}
use Rattle.body_match.proofs.UsingLemmas.{of_one_plan, of_all_plans}
use Rattle.body_match.proofs.using.matches_in.Goals as goal

pub add_from-requires-clause-search : goal.add_from-requires-clause-search
add_from-requires-clause-search g c = c.requires.search c.loop-plan.plan-index c.plan-item.result
    (slice_get_read c.args.plans.now (length c.args.plans.now) c.loop-plan.plan-index c.plan-item.result refl c.loop-plan-test.true c.plan-item.is)

pub add_from-requires-clause-lists : goal.add_from-requires-clause-lists
add_from-requires-clause-lists g c = c.requires.lists c.loop-plan.plan-index c.plan-item.result
    (slice_get_read c.args.plans.now (length c.args.plans.now) c.loop-plan.plan-index c.plan-item.result refl c.loop-plan-test.true c.plan-item.is)

pub loop-plan-preserved : goal.loop-plan-preserved
loop-plan-preserved g c =
    of_one_plan c.args.plans.now (g.F.FactSource.rows c.args.source.now) c.args.row c.loop-plan.plan-index c.plan-item.result
    c.loop-plan.list.items c.add_from.new.list.items
    (slice_get_read c.args.plans.now (length c.args.plans.now) c.loop-plan.plan-index c.plan-item.result refl c.loop-plan-test.true c.plan-item.is)
    c.in_ok-add_from.ensures c.loop-plan.invariant

pub returns : goal.returns
returns g c =
    let plans : List Plan = c.args.plans.now in
    record {
      each = of_all_plans plans (g.F.FactSource.rows c.args.source.now) c.args.row c.loop-plan.plan-index c.loop-plan.list.items c.in_order.result
          (omega (arith, c.loop-plan-test.false)) c.in_order.ensures.same c.loop-plan.invariant;
      order = c.in_order.ensures.order;
    }
