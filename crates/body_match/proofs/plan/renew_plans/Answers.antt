use Rattle.std.proofs.Common.{◌≡◌, Some, length, refl, sym, ◌∙◌, arith}
use Rattle.std.specs.Prelude.{slice_get}
use Rattle.std.proofs.lemmas.Option.{slice_get_read}
use Rattle.body_match.proofs.ListLemmas.{within_from_at}
use Rattle.body_match.proofs.RenewalLemmas.{one_plan_renewed, renewed_plan_same}
use Rattle.body_match.proofs.plan.renew_plans.Given.{Over}
use Rattle.body_match.proofs.plan.renew_plans.Goals as goal
use Rattle.body_match.proofs.plan.renew_plans.Goals.{After-index_mut-plan}

-- the plan, as it is read
plan_read : (g : Over) (c : After-index_mut-plan g) → slice_get c.loop-at.plans.items c.loop-at.at ≡ Some c.index_mut-plan.result.now
plan_read g c =
    let size = c.loop-at.invariant.size in
    slice_get_read c.loop-at.plans.items (length c.loop-at.plans.items) c.loop-at.at c.index_mut-plan.result.now refl
    (omega (arith, size, c.loop-at-test.true, c.len-at-end.ensures, c.args.plans.now.ok)) c.index_mut-plan.ensures.value

pub renew-requires : goal.renew-requires
renew-requires g c =
    c.requires c.loop-at.at c.index_mut-plan.result.now
    (sym (c.loop-at.invariant.later c.loop-at.at (omega arith)) ∙ plan_read g (goal.at.renew-requires g c).After-index_mut-plan)

pub loop-at-preserved : goal.loop-at-preserved
loop-at-preserved g c =
    one_plan_renewed (g.F.FactSource.rows c.args.source.now) c.args.gone.now c.args.fresh.now c.args.plans.now.items c.loop-at.plans.items
    c.loop-at.at c.index_mut-plan.result.now c.renew.new.self (plan_read g (goal.at.loop-at-preserved g c).After-index_mut-plan)
    c.in_ok-renew.ensures.same c.in_ok-renew.ensures.kept c.in_ok-renew.ensures.listed c.loop-at.invariant

pub returns-in_err-renew-clause-same : goal.returns-in_err-renew-clause-same
returns-in_err-renew-clause-same g c =
    renewed_plan_same (g.F.FactSource.rows c.args.source.now) c.args.gone.now c.args.fresh.now c.args.plans.now.items c.loop-at.plans.items
    c.loop-at.at c.index_mut-plan.result.now c.renew.new.self
    (plan_read g (goal.at.returns-in_err-renew-clause-same g c).After-index_mut-plan) c.renew.ensures.same c.loop-at.invariant

pub returns-clause-listed : goal.returns-clause-listed
returns-clause-listed g c = λ k plan e.
    let within = within_from_at c.loop-at.plans.items k plan e in
    let size = c.loop-at.invariant.size in
    c.loop-at.invariant.each k plan (omega (arith, within, size, c.loop-at-test.false, c.len-at-end.ensures, c.args.plans.now.ok)) e
