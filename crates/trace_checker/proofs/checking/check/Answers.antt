use Rattle.std.proofs.Common.{◌≡◌, ◌∙◌, FitsSigned, w64, to_z, of_z, subst}
use Rattle.std.specs.Prelude.{IfOk}
use Rattle.std.proofs.lemmas.Int.{to_z-of_z}
use Rattle.std.proofs.lemmas.Result.{IfOk-weaker}
use Rattle.failure_trace.specs.declared.trace.Trace.{Trace}
use Rattle.failure_trace.specs.Projected.{pool_text}
use Rattle.trace_checker.specs.Checked.{source_of, IsVerdict, Shows}
use Rattle.trace_checker.proofs.CheckLemmas.{constants_only, verdict_shows}
use Rattle.trace_checker.proofs.checking.check.Goals as goal

pub returns-clause-exact : goal.returns-clause-exact
returns-clause-exact c =
    let fits : FitsSigned w64 c.instant_of.result = record { sfits = c.instant_of.type_inv } in
    let instant = to_z-of_z w64 c.instant_of.result fits ∙ c.instant_of.ensures in
    let same : ◌≡◌ {A = Trace} (record { instant = to_z w64 (of_z w64 c.instant_of.result); steps = c.as_slice.result.now }) c.args.trace.now =
    λ i. record { instant = instant i; steps = c.as_slice.ensures i } in
    subst (λ trace. IfOk c.try_steps.result (IsVerdict (pool_text c.args.pool.now) c.args.rules.now (source_of c.args.pool.now c.args.table.now) trace))
    same c.try_steps.ensures

pub returns-clause-shows : goal.returns-clause-shows
returns-clause-shows c =
    let name = pool_text c.args.pool.now in
    let rules = c.args.rules.now in
    let source = source_of c.args.pool.now c.args.table.now in
    let trace = c.args.trace.now in
    IfOk-weaker c.try_steps.result (IsVerdict name rules source trace) (Shows name rules source trace)
    (λ verdict. verdict_shows name rules source trace verdict (λ accepted.
    c.an_accepted_trace_has_no_solution_at_its_instant.ensures.none name rules source trace c.is_kept.ensures
    (constants_only c.args.pool.now c.args.table.now) accepted))
    (returns-clause-exact c)
