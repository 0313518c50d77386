use Rattle.std.proofs.Common.{◌≢◌, ◌∙◌, subst, All, Contains, w64}
use Rattle.std.proofs.lemmas.Int.{to_z-of_z}
use Rattle.std.proofs.lemmas.Result.{IfOk-weaker}
use Rattle.rule_core.specs.declared.rules.Tgd.{Tgd}
use Rattle.rule_core.specs.Snapshot.{snapshot_at}
use Rattle.failure_trace.specs.Projected.{pool_text}
use Rattle.trace_checker.specs.Checked.{source_of}
use Rattle.trace_checker.specs.States.{ComesTo, TgdTests}
use Rattle.trace_checker.proofs.RuleLemmas.{tgd_known}
use Rattle.trace_checker.proofs.StepLemmas.{named_rule, no_rule}
use Rattle.trace_checker.proofs.state.tgd_step.Goals as goal

pub fire-requires-clause-known : goal.fire-requires-clause-known
fire-requires-clause-known c =
    tgd_known c.args.pool.now c.args.rules.now c.args.table.now c.is_kept.ensures c.requires c.in-Some.tgd.now
    (subst (λ l. Contains l c.in-Some.tgd.now) (c.as_slice.ensures ∙ c.tgds.ensures) c.in-Some.ensures.found.0)

pub returns-in_default : goal.returns-in_default
returns-in_default c = λ held is.
    let tests = λ (tgd : Tgd). TgdTests (pool_text c.args.pool.now) tgd c.args.step.now.binding
    (snapshot_at (source_of c.args.pool.now c.args.table.now) c.args.t) held in
    no_rule (λ (tgd : Tgd). tgd.name) c.args.rules.now.tgds c.args.step.now.rule tests
    (subst (All (λ tgd. tgd.name ≢ c.args.step.now.rule)) (c.as_slice.ensures ∙ c.tgds.ensures) c.in_default.ensures.none)

pub returns : goal.returns
returns c =
    let name = pool_text c.args.pool.now in
    let source = source_of c.args.pool.now c.args.table.now in
    let tgd = c.in-Some.tgd.now in
    rw (← c.as_slice-2.ensures) (IfOk-weaker c.fire.result _ _ (λ next h held is.
    let tests = λ (tgd : Tgd). TgdTests name tgd c.as_slice-2.result.now (snapshot_at source c.args.t) held in
    named_rule (λ (tgd : Tgd). tgd.name) c.args.rules.now.tgds c.args.step.now.rule tests tgd next
    (subst (λ l. Contains l tgd) (c.as_slice.ensures ∙ c.tgds.ensures) c.in-Some.ensures.found.0)
    c.in-Some.ensures.found.1
    (subst (λ u. ComesTo (TgdTests name tgd c.as_slice-2.result.now (snapshot_at source u) held) next) (to_z-of_z w64 c.args.t c.ranges.t)
    (h held is))) c.fire.ensures)
