use Rattle.std.proofs.Common.{◌≡◌, ℕ, ◌+◌, ◌-◌, List, Some, length, refl, sym, ap, ◌∙◌, subst, arith}
use Rattle.std.specs.Prelude.{slice_get, slice_set}
use Rattle.std.proofs.lemmas.Option.{slice_get_read}
use Rattle.body_match.specs.declared.levels.Level.{Level}
use Rattle.body_match.proofs.SearchLemmas.{next_atom}
use Rattle.body_match.proofs.RenewalLemmas.{AreRenewedIn, one_renewed, renewed_same, all_renewed}
use Rattle.body_match.proofs.plan.renew_levels.Given.{Over}
use Rattle.body_match.proofs.plan.renew_levels.Goals as goal
use Rattle.body_match.proofs.plan.renew_levels.Goals.{After-index-body-before}

-- the atom and its level, as they are read
atom_read : (g : Over) (c : After-index-body-before g) → slice_get c.args.body.now c.loop-before.before ≡ Some c.index-body-before.result
atom_read g c =
    next_atom c.args.body.now c.args.body.now c.loop-before.before c.index-body-before.result refl c.loop-before-test.true c.index-body-before.is

level_read : (g : Over) (c : After-index-body-before g)
    → slice_get c.loop-before.levels.items (c.loop-before.before - 1) ≡ Some c.index_mut-level.result.now
level_read g c =
    let size = c.loop-before.invariant.size in
    slice_get_read c.loop-before.levels.items (length c.loop-before.levels.items) (c.loop-before.before - 1) c.index_mut-level.result.now refl
    (omega (arith, size, c.requires.size, c.loop-before-test.true, c.loop-before.auto.before)) c.index_mut-level.ensures.value

pub renew_in-requires : goal.renew_in-requires
renew_in-requires g c =
    let read = level_read g (goal.at.renew_in-requires g c).After-index-body-before in
    c.requires.within c.loop-before.before c.index-body-before.result c.index_mut-level.result.now c.loop-before.auto.before
    (atom_read g (goal.at.renew_in-requires g c).After-index-body-before)
    (sym (c.loop-before.invariant.later (c.loop-before.before - 1) (omega arith)) ∙ read)

pub loop-before-preserved : goal.loop-before-preserved
loop-before-preserved g c =
    let rows = g.F.FactSource.rows c.args.source.now in
    let before = c.loop-before.before in
    let step : before - 1 + 1 ≡ before = omega (arith, c.loop-before.auto.before) in
    let next : before - 1 + 1 ≡ before + 1 - 1 = omega (arith, c.loop-before.auto.before) in
    let new : List Level = slice_set c.loop-before.levels.items (before - 1) c.renew_in.new.level in
    subst (λ (n : ℕ). AreRenewedIn c.args.body.now rows c.args.gone.now c.args.fresh.now c.args.levels.now.items new n) next
    (one_renewed c.args.body.now rows c.args.gone.now c.args.fresh.now c.args.levels.now.items c.loop-before.levels.items (before - 1)
    c.index_mut-level.result.now c.renew_in.new.level c.index-body-before.result
    (level_read g (goal.at.loop-before-preserved g c).After-index-body-before)
    (ap (slice_get c.args.body.now) step ∙ atom_read g (goal.at.loop-before-preserved g c).After-index-body-before)
    c.in_ok-renew_in.ensures.columns c.in_ok-renew_in.ensures.kept c.in_ok-renew_in.ensures.listed c.loop-before.invariant)

pub returns-in_err-renew_in-clause-same : goal.returns-in_err-renew_in-clause-same
returns-in_err-renew_in-clause-same g c =
    renewed_same c.args.body.now (g.F.FactSource.rows c.args.source.now) c.args.gone.now c.args.fresh.now c.args.levels.now.items
    c.loop-before.levels.items (c.loop-before.before - 1) c.index_mut-level.result.now c.renew_in.new.level
    (level_read g (goal.at.returns-in_err-renew_in-clause-same g c).After-index-body-before) c.renew_in.ensures.columns
    c.loop-before.invariant

pub returns-clause-listed : goal.returns-clause-listed
returns-clause-listed g c =
    all_renewed c.args.body.now (g.F.FactSource.rows c.args.source.now) c.args.gone.now c.args.fresh.now c.args.levels.now.items
    c.loop-before.levels.items (c.loop-before.before - 1) (omega (arith, c.loop-before-test.false, c.loop-before.auto.before))
    c.loop-before.invariant
