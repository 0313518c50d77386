use Rattle.std.proofs.Common.{◌+◌, ◌∷◌, [], ◌++◌, All, take, sym, subst, ◌∙◌, to_z, of_z, w64}
use Rattle.std.specs.List.{AllZip}
use Rattle.std.proofs.lemmas.List.Elements.{All-push}
use Rattle.failure_trace.specs.declared.firing.Firing.{Firing}
use Rattle.failure_trace.specs.Printed.{IsWritableStep}
use Rattle.failure_trace.specs.Projected.{firings_at, TellsFiring}
use Rattle.failure_trace.proofs.ProjectLemmas.{zip_push}
use Rattle.failure_trace.proofs.NumberLemmas.{one_kept, none_kept}
use Rattle.failure_trace.proofs.projection.firing_steps.Goals.{then-has+in_ok-firing_step+in_ok-push, else-has}
use Rattle.failure_trace.proofs.projection.firing_steps.Goals as goal

pub loop-firing-preserved : goal.loop-firing-preserved
loop-firing-preserved c =
    let firings = c.args.firings.now in
    let t = to_z w64 (of_z w64 c.args.t) in
    let i = c.loop-firing.firing-index in
    let f = c.firing-item.result in
    let so_far = c.loop-firing.invariant in
    let steps = c.loop-firing.steps in
    let R = TellsFiring c.args.rules.now c.args.pool.now c.args.unknowns.now t in
    elim c.if-has.branch [
      | then-has+in_ok-firing_step+in_ok-push w ↦
          let step = w.in_ok-firing_step.field-0 in
          let is = w.steps-is ∙ w.in_ok-push.ensures.ok in
          record {
            told = subst (AllZip R (firings_at (take (i + 1) firings) t)) (sym is)
                (subst (λ fs. AllZip R fs (steps ++ step ∷ []))
                (sym (one_kept (λ (g : Firing). g.span) t firings i f c.loop-firing-test.true c.firing-item.is (c.has.ensures.0 w.if-has.true)))
                (zip_push R (firings_at (take i firings) t) steps f step so_far.told w.in_ok-firing_step.ensures.told));
            writable = subst (All IsWritableStep) (sym is) (All-push IsWritableStep steps step so_far.writable w.in_ok-firing_step.ensures.writable);
          }
      | else-has w ↦ record {
        told = subst (AllZip R (firings_at (take (i + 1) firings) t)) (sym w.steps-is)
            (subst (λ fs. AllZip R fs steps)
            (sym (none_kept (λ (g : Firing). g.span) t firings i f c.loop-firing-test.true c.firing-item.is
            (λ h. let yes = c.has.ensures.1 h in let no = w.if-has.false in absurd cc)))
            so_far.told);
        writable = subst (All IsWritableStep) (sym w.steps-is) so_far.writable;
      }
    ]
