use Rattle.std.proofs.Common.{Contains, List, length, refl, subst}
use Rattle.std.proofs.lemmas.Option.{slice_get_read}
use Rattle.body_match.specs.declared.found.Match.{Match}
use Rattle.body_match.proofs.UnequalLemmas.{unequal_of_more}
use Rattle.body_match.proofs.unequal.unequal_of.Goals as goal

pub add_unequal-requires-clause-search : goal.add_unequal-requires-clause-search
add_unequal-requires-clause-search g c = c.requires.search c.loop-plan.plan-index c.plan-item.result
    (slice_get_read c.args.plans.now (length c.args.plans.now) c.loop-plan.plan-index c.plan-item.result refl c.loop-plan-test.true c.plan-item.is)

pub loop-plan-preserved : goal.loop-plan-preserved
loop-plan-preserved g c =
    unequal_of_more c.args.plans.now (g.F.FactSource.rows c.args.source.now) c.args.wanted.row c.args.wanted.left c.args.wanted.right
    c.loop-plan.plan-index c.plan-item.result c.loop-plan.list.items c.add_unequal.new.list.items
    (slice_get_read c.args.plans.now (length c.args.plans.now) c.loop-plan.plan-index c.plan-item.result refl c.loop-plan-test.true c.plan-item.is)
    c.in_ok-add_unequal.ensures.each c.in_ok-add_unequal.ensures.none c.loop-plan.invariant

pub returns-clause-each : goal.returns-clause-each
returns-clause-each g c = λ m there.
    c.loop-plan.invariant.each m (subst (λ (l : List Match). Contains l m) c.from_vec.ensures there)
