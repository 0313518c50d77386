use Rattle.std.proofs.Common.{◌∷◌, [], ◌++◌, All, take, ap, sym, subst, ◌∙◌, to_z, of_z, w64}
use Rattle.std.specs.List.{AllZip}
use Rattle.std.proofs.lemmas.List.{append_assoc}
use Rattle.std.proofs.lemmas.List.Elements.{All-push}
use Rattle.failure_trace.specs.declared.journal.JournalStep.{JournalStep}
use Rattle.failure_trace.specs.declared.trace.StepKind.TheVariants.{Egd as EgdStep}
use Rattle.failure_trace.specs.Printed.{IsWritableStep}
use Rattle.failure_trace.specs.Projected.{steps_at, TellsStep}
use Rattle.failure_trace.proofs.ProjectLemmas.{zip_push}
use Rattle.failure_trace.proofs.NumberLemmas.{one_kept, none_kept}
use Rattle.failure_trace.proofs.projection.add_journal.Goals.{then-has+in_ok-journal_step+in_ok-push, else-has}
use Rattle.failure_trace.proofs.projection.add_journal.Goals as goal

pub loop-step-preserved : goal.loop-step-preserved
loop-step-preserved c =
    let journal = c.args.journal.now in
    let t = to_z w64 (of_z w64 c.args.t) in
    let i = c.loop-step.step-index in
    let s = c.step-item.result in
    let so_far = c.loop-step.invariant in
    let settled = so_far.told.0 in
    let old = c.args.steps.now in
    let R = TellsStep c.args.rules.now c.args.pool.now c.args.unknowns.now EgdStep in
    elim c.if-has.branch [
      | then-has+in_ok-journal_step+in_ok-push w ↦
          let step = w.in_ok-journal_step.field-0 in
          let is = w.steps-is ∙ w.in_ok-push.ensures.ok in
          record {
            told = (
              settled ++ step ∷ [],
              is ∙ ap (λ l. l ++ step ∷ []) so_far.told.1 ∙ append_assoc old settled (step ∷ []),
              subst (λ ss. AllZip R ss (settled ++ step ∷ []))
                  (sym (one_kept (λ (g : JournalStep). g.span) t journal i s c.loop-step-test.true c.step-item.is (c.has.ensures.0 w.if-has.true)))
                  (zip_push R (steps_at (take i journal) t) settled s step so_far.told.2 w.in_ok-journal_step.ensures.told),
            );
            writable = λ all. subst (All IsWritableStep) (sym is)
                (All-push IsWritableStep c.loop-step.steps step (so_far.writable all) w.in_ok-journal_step.ensures.writable);
          }
      | else-has w ↦ record {
        told = (
          settled,
          w.steps-is ∙ so_far.told.1,
          subst (λ ss. AllZip R ss settled)
              (sym (none_kept (λ (g : JournalStep). g.span) t journal i s c.loop-step-test.true c.step-item.is
              (λ h. let yes = c.has.ensures.1 h in let no = w.if-has.false in absurd cc)))
              so_far.told.2,
        );
        writable = λ all. subst (All IsWritableStep) (sym w.steps-is) (so_far.writable all);
      }
    ]
