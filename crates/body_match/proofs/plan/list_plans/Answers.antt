use Rattle.std.proofs.Common.{◌≡◌, Some, length, refl, sym, ◌∙◌, arith}
use Rattle.std.specs.Prelude.{slice_get}
use Rattle.std.proofs.lemmas.Option.{slice_get_read}
use Rattle.body_match.proofs.IndexLemmas.{one_plan_listed, one_plan_same}
use Rattle.body_match.proofs.plan.list_plans.Given.{Over}
use Rattle.body_match.proofs.plan.list_plans.Goals as goal
use Rattle.body_match.proofs.plan.list_plans.Goals.{After-index_mut-plan}

-- the plan, as it is read
plan_read : (g : Over) (c : After-index_mut-plan g) → slice_get c.loop-at.plans.items c.loop-at.at ≡ Some c.index_mut-plan.result.now
plan_read g c =
    let size = c.loop-at.invariant.same.size in
    slice_get_read c.loop-at.plans.items (length c.loop-at.plans.items) c.loop-at.at c.index_mut-plan.result.now refl
    (omega (arith, size, c.loop-at-test.true, c.len-at-end.ensures, c.args.plans.now.ok)) c.index_mut-plan.ensures.value

pub list_row-requires : goal.list_row-requires
list_row-requires g c =
    c.requires c.loop-at.at c.index_mut-plan.result.now
    (sym (c.loop-at.invariant.later c.loop-at.at (omega arith)) ∙ plan_read g (goal.at.list_row-requires g c).After-index_mut-plan)

pub loop-at-preserved : goal.loop-at-preserved
loop-at-preserved g c =
    one_plan_listed (g.F.FactSource.rows c.args.source.now) c.args.row c.args.plans.now.items c.loop-at.plans.items c.loop-at.at
    c.index_mut-plan.result.now c.list_row.new.self (plan_read g (goal.at.loop-at-preserved g c).After-index_mut-plan)
    c.in_ok-list_row.ensures.same c.in_ok-list_row.ensures.kept c.in_ok-list_row.ensures.listed c.loop-at.invariant

pub returns-in_err-list_row-clause-same : goal.returns-in_err-list_row-clause-same
returns-in_err-list_row-clause-same g c =
    one_plan_same (g.F.FactSource.rows c.args.source.now) c.args.row c.args.plans.now.items c.loop-at.plans.items c.loop-at.at
    c.index_mut-plan.result.now c.list_row.new.self (plan_read g (goal.at.returns-in_err-list_row-clause-same g c).After-index_mut-plan)
    c.list_row.ensures.same c.loop-at.invariant
