use Rattle.std.proofs.Common.{◌+◌, length, refl, subst, to_z, of_z, w64}
use Rattle.std.proofs.lemmas.Int.{to_z-of_z}
use Rattle.rule_core.specs.Snapshot.{snapshot_at}
use Rattle.failure_trace.specs.Projected.{pool_text}
use Rattle.failure_trace.specs.declared.why.Why.TheVariants.{K7}
use Rattle.trace_checker.specs.declared.state.Next.TheVariants.{Goes, Clashes, Stops}
use Rattle.trace_checker.specs.declared.verdict.Verdict.TheVariants.{Refused}
use Rattle.trace_checker.specs.Checked.{source_of, IsVerdict}
use Rattle.trace_checker.proofs.CheckLemmas.{tried, goes_on, stops_here, ends_here, ends_open}
use Rattle.trace_checker.proofs.checking.try_steps.Goals as goal

pub loop-at-preserved : goal.loop-at-preserved
loop-at-preserved c =
    let name = pool_text c.args.pool.now in
    let rules = c.args.rules.now in
    let source = source_of c.args.pool.now c.args.table.now in
    let step = c.index-steps-at.result in
    let t = to_z w64 (of_z w64 c.args.t) in
    goes_on name rules (snapshot_at source t) c.args.steps.now c.loop-at.at step c.loop-at-test.true c.index-steps-at.is
    c.loop-at.state c.in-Goes.next c.loop-at.invariant
    (tried name rules source step c.loop-at.state t c.in_ok-next.field-0 (Goes c.in-Goes.next) c.in-Goes.is c.in_ok-next.ensures)

pub returns-in-Stops : goal.returns-in-Stops
returns-in-Stops c =
    let name = pool_text c.args.pool.now in
    let rules = c.args.rules.now in
    let source = source_of c.args.pool.now c.args.table.now in
    let step = c.index-steps-at.result in
    let t = to_z w64 (of_z w64 c.args.t) in
    subst (λ u. IsVerdict name rules source (record { instant = u; steps = c.args.steps.now }) (Refused (c.loop-at.at + 1) c.in-Stops.why))
    (to_z-of_z w64 c.args.t c.ranges.t)
    (stops_here name rules (snapshot_at source t) c.args.steps.now c.loop-at.at step c.loop-at-test.true c.index-steps-at.is
    c.loop-at.state c.in-Stops.why c.loop-at.invariant
    (tried name rules source step c.loop-at.state t c.in_ok-next.field-0 (Stops c.in-Stops.why) c.in-Stops.is c.in_ok-next.ensures))

pub returns-in-Clashes : goal.returns-in-Clashes
returns-in-Clashes c =
    let name = pool_text c.args.pool.now in
    let rules = c.args.rules.now in
    let source = source_of c.args.pool.now c.args.table.now in
    let step = c.index-steps-at.result in
    let t = to_z w64 (of_z w64 c.args.t) in
    subst (λ u. IsVerdict name rules source (record { instant = u; steps = c.args.steps.now }) c.end.result)
    (to_z-of_z w64 c.args.t c.ranges.t)
    (ends_here name rules (snapshot_at source t) c.args.steps.now c.loop-at.at step c.loop-at-test.true c.index-steps-at.is
    c.loop-at.state source t c.end.result c.loop-at.invariant
    (tried name rules source step c.loop-at.state t c.in_ok-next.field-0 Clashes c.in-Clashes.is c.in_ok-next.ensures) refl c.end.ensures)

pub returns : goal.returns
returns c =
    let name = pool_text c.args.pool.now in
    let rules = c.args.rules.now in
    let source = source_of c.args.pool.now c.args.table.now in
    let t = to_z w64 (of_z w64 c.args.t) in
    subst (λ u. IsVerdict name rules source (record { instant = u; steps = c.args.steps.now }) (Refused (length c.args.steps.now + 1) K7))
    (to_z-of_z w64 c.args.t c.ranges.t)
    (ends_open name rules (snapshot_at source t) c.args.steps.now c.loop-at.at c.loop-at.state c.loop-at-test.false c.loop-at.invariant)
