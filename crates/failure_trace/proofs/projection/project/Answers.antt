use Rattle.std.proofs.Common.{Some, All, IsPermutation, sym, subst, to_z, of_z, w64}
use Rattle.std.specs.List.{AllZip}
use Rattle.std.proofs.lemmas.Int.{to_z-of_z}
use Rattle.std.proofs.lemmas.List.Elements.{All-push}
use Rattle.time_line.specs.Span.{IsWithinInstants}
use Rattle.failure_trace.specs.declared.trace.StepKind.TheVariants.{Egd as EgdStep, Clash as ClashStep}
use Rattle.failure_trace.specs.Printed.{IsWritableStep}
use Rattle.failure_trace.specs.Projected.{firings_at, steps_at, unknowns_at, TellsFiring, TellsStep}
use Rattle.failure_trace.proofs.ProjectLemmas.{whole}
use Rattle.failure_trace.proofs.projection.project.Goals as goal

pub returns-clause-trace : goal.returns-clause-trace
returns-clause-trace c =
    let rules = c.args.rules.now in
    let pool = c.args.pool.now in
    let firings = c.args.firings.now in
    let journal = c.args.journal.now in
    let fixed = to_z w64 (of_z w64 c.args.t) in
    let t = c.args.t in
    let at = to_z-of_z w64 t c.ranges.t in
    let sorted = c.in_ok-unknowns.unknowns.items in
    let told = c.in_ok-add_journal.ensures.told in
    let fired = c.in_ok-steps.steps in
    let same = subst (λ u. IsPermutation (unknowns_at rules firings u) sorted) at
    (subst (λ fs. IsPermutation (unknowns_at rules fs fixed) sorted) c.as_slice.ensures c.in_ok-unknowns.ensures.same) in
    let f = subst (λ u. AllZip (TellsFiring rules pool sorted u) (firings_at firings u) fired) at
    (subst (λ fs. AllZip (TellsFiring rules pool sorted fixed) (firings_at fs fixed) fired) c.as_slice-2.ensures
    (subst (λ us. AllZip (TellsFiring rules pool us fixed) (firings_at c.as_slice-2.result.now fixed) fired) c.deref.ensures.value
    c.in_ok-steps.ensures.told)) in
    let j = subst (λ u. AllZip (TellsStep rules pool sorted EgdStep) (steps_at journal u) told.0) at
    (subst (λ js. AllZip (TellsStep rules pool sorted EgdStep) (steps_at js fixed) told.0) c.as_slice-3.ensures
    (subst (λ us. AllZip (TellsStep rules pool us EgdStep) (steps_at c.as_slice-3.result.now fixed) told.0) c.deref-2.ensures.value told.2)) in
    let l = subst (λ us. TellsStep rules pool us ClashStep c.args.last.now c.in_ok-journal_step.field-0) c.deref-3.ensures.value
    c.in_ok-journal_step.ensures.told in
    whole rules pool firings journal c.args.last.now t sorted same fixed fired c.add_journal.new.steps told.0 c.push.new.self
    c.in_ok-journal_step.field-0 at told.1 c.in_ok-push.ensures.ok f j l

pub returns-clause-writable : goal.returns-clause-writable
returns-clause-writable c =
    let at = to_z-of_z w64 c.args.t c.ranges.t in
    let steps = c.in_ok-add_journal.ensures.writable c.in_ok-steps.ensures.writable in
    λ within. record {
      instant = subst (λ u. IsWithinInstants (Some u)) (sym at) within;
      steps = subst (All IsWritableStep) (sym c.in_ok-push.ensures.ok)
          (All-push IsWritableStep c.add_journal.new.steps c.in_ok-journal_step.field-0 steps c.in_ok-journal_step.ensures.writable);
    }
