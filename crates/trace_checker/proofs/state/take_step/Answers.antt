use Rattle.std.proofs.Common.{sym, subst, w64}
use Rattle.std.proofs.lemmas.Int.{to_z-of_z}
use Rattle.std.proofs.lemmas.Result.{IfOk-weaker}
use Rattle.rule_core.specs.Snapshot.{snapshot_at}
use Rattle.failure_trace.specs.Projected.{pool_text}
use Rattle.failure_trace.specs.TraceRun.{tgd_tests, egd_tests, clash_tests, kind_tests}
use Rattle.trace_checker.specs.Checked.{source_of}
use Rattle.trace_checker.specs.States.{ComesTo}
use Rattle.trace_checker.proofs.state.take_step.Goals as goal

pub returns-in-Tgd : goal.returns-in-Tgd
returns-in-Tgd c =
    let name = pool_text c.args.pool.now in
    let source = source_of c.args.pool.now c.args.table.now in
    let step = c.args.step.now in
    IfOk-weaker c.tgd_step.result _ _ (λ next h held is.
    subst (λ kind. ComesTo (kind_tests name c.args.rules.now (snapshot_at source c.args.t) kind held step) next) (sym c.in-Tgd.is)
    (subst (λ u. ComesTo (tgd_tests name c.args.rules.now (snapshot_at source u) held step) next) (to_z-of_z w64 c.args.t c.ranges.t)
    (h held is))) c.tgd_step.ensures

pub returns-in-Egd : goal.returns-in-Egd
returns-in-Egd c =
    let name = pool_text c.args.pool.now in
    let source = source_of c.args.pool.now c.args.table.now in
    let step = c.args.step.now in
    IfOk-weaker c.egd_step.result _ _ (λ next h held is.
    subst (λ kind. ComesTo (kind_tests name c.args.rules.now (snapshot_at source c.args.t) kind held step) next) (sym c.in-Egd.is)
    (subst (λ u. ComesTo (egd_tests name c.args.rules.now (snapshot_at source u) held step) next) (to_z-of_z w64 c.args.t c.ranges.t)
    (h held is))) c.egd_step.ensures

pub returns-in-Clash : goal.returns-in-Clash
returns-in-Clash c =
    let name = pool_text c.args.pool.now in
    let source = source_of c.args.pool.now c.args.table.now in
    let step = c.args.step.now in
    IfOk-weaker c.clash_step.result _ _ (λ next h held is.
    subst (λ kind. ComesTo (kind_tests name c.args.rules.now (snapshot_at source c.args.t) kind held step) next) (sym c.in-Clash.is)
    (subst (λ u. ComesTo (clash_tests name c.args.rules.now (snapshot_at source u) held step) next) (to_z-of_z w64 c.args.t c.ranges.t)
    (h held is))) c.clash_step.ensures
