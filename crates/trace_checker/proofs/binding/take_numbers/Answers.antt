use Rattle.std.proofs.Common.{◌∙◌, ◌++◌, take, sym, ap, subst}
use Rattle.std.proofs.lemmas.Bool.{OnFalse_at}
use Rattle.std.proofs.lemmas.List.{take_all, append_assoc}
use Rattle.failure_trace.specs.declared.trace.Bound.{Bound}
use Rattle.failure_trace.specs.Trace.{numbers_in, numbers_of}
use Rattle.failure_trace.specs.TraceRun.{AreNew}
use Rattle.trace_checker.proofs.NewLemmas.{flat_more, new_more, new_here}
use Rattle.trace_checker.proofs.binding.take_numbers.Goals as goal

pub loop-bound-preserved : goal.loop-bound-preserved
loop-bound-preserved c =
    let f = λ (b : Bound). numbers_of b.value in
    let used = c.args.used.now.keys in
    let binding = c.args.binding.now in
    let i = c.loop-bound.bound-index in
    let x = c.bound-item.result in
    let so_far = c.loop-bound.invariant in (
      new_more f used binding i x c.loop-bound-test.true c.bound-item.is so_far.0
          (subst (λ u. AreNew u (f x)) so_far.1 (c.in_ok-new.ensures.new c.if-not-new.false)),
      c.in_ok-new.ensures.taken c.if-not-new.false ∙ ap (λ l. l ++ f x) so_far.1 ∙ append_assoc used (numbers_in (take i binding)) (f x)
          ∙ ap (λ l. used ++ l) (flat_more f binding i x c.loop-bound-test.true c.bound-item.is),
    )

pub returns-then-not-new-clause-used : goal.returns-then-not-new-clause-used
returns-then-not-new-clause-used c = λ a.
    let f = λ (b : Bound). numbers_of b.value in
    OnFalse_at c.if-not-new.true c.in_ok-new.ensures.used
    (subst (λ u. AreNew u (f c.bound-item.result)) (sym c.loop-bound.invariant.1)
    (new_here f c.args.used.now.keys c.args.binding.now c.loop-bound.bound-index c.bound-item.result c.loop-bound-test.true c.bound-item.is a))

pub returns-clause-new : goal.returns-clause-new
returns-clause-new c = λ _.
    subst (λ l. AreNew c.args.used.now.keys (numbers_in l)) (take_all c.loop-bound.bound-index c.args.binding.now c.loop-bound-test.false)
    c.loop-bound.invariant.0
