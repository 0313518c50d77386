use Rattle.std.proofs.Common.{◌≢◌, ◌∙◌, subst, All, Contains}
use Rattle.std.proofs.lemmas.Result.{IfOk-weaker}
use Rattle.rule_core.specs.declared.rules.Egd.{Egd}
use Rattle.failure_trace.specs.Projected.{pool_text}
use Rattle.trace_checker.specs.States.{EgdTests, ClashesSides}
use Rattle.trace_checker.proofs.RuleLemmas.{egd_known}
use Rattle.trace_checker.proofs.StepLemmas.{named_rule, no_rule}
use Rattle.trace_checker.proofs.state.clash_step.Goals as goal

pub clash-requires : goal.clash-requires
clash-requires c =
    egd_known c.args.pool.now c.args.rules.now c.args.table.now c.is_kept.ensures c.requires c.in-Some.egd.now
    (subst (λ l. Contains l c.in-Some.egd.now) (c.as_slice.ensures ∙ c.egds.ensures) c.in-Some.ensures.found.0)

pub returns-in_default : goal.returns-in_default
returns-in_default c = λ held is.
    let binding = c.args.step.now.binding in
    let tests = λ (egd : Egd). EgdTests (pool_text c.args.pool.now) egd binding held (ClashesSides egd binding) in
    no_rule (λ (egd : Egd). egd.name) c.args.rules.now.egds c.args.step.now.rule tests
    (subst (All (λ egd. egd.name ≢ c.args.step.now.rule)) (c.as_slice.ensures ∙ c.egds.ensures) c.in_default.ensures.none)

pub returns : goal.returns
returns c =
    let egd = c.in-Some.egd.now in
    let binding = c.as_slice-2.result.now in
    rw (← c.as_slice-2.ensures) (IfOk-weaker c.clash.result _ _ (λ next h held is.
    let tests = λ (egd : Egd). EgdTests (pool_text c.args.pool.now) egd binding held (ClashesSides egd binding) in
    named_rule (λ (egd : Egd). egd.name) c.args.rules.now.egds c.args.step.now.rule tests egd next
    (subst (λ l. Contains l egd) (c.as_slice.ensures ∙ c.egds.ensures) c.in-Some.ensures.found.0)
    c.in-Some.ensures.found.1 (h held is)) c.clash.ensures)
