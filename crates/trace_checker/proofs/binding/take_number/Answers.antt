use Rattle.std.proofs.Common.{◌≡◌, ◌∙◌, Bool, true, false, true≢false, not, ℕ, [], refl, sym, subst, Contains}
use Rattle.std.specs.Prelude.{nat_eq}
use Rattle.std.proofs.lemmas.Bool.{OnFalse_from, eqb-true}
use Rattle.std.proofs.lemmas.List.Elements.{All-head}
use Rattle.indexmap.proofs.CallerLemmas.{Contains-list_any}
use Rattle.failure_trace.specs.Trace.{numbers_of}
use Rattle.failure_trace.specs.TraceRun.{AreNew}
use Rattle.trace_checker.proofs.binding.take_number.Goals as goal

-- what isn't new is there
there : (held new : Bool) → new ≡ not held → new ≡ false → held ≡ true
there true new e old = refl
there false new e old = absurd (true≢false (sym e ∙ old))

pub returns-in_ok-insert-in-Null-clause-used : goal.returns-in_ok-insert-in-Null-clause-used
returns-in_ok-insert-in-Null-clause-used c =
    let used = c.args.used.now.keys in
    let number = c.in-Null.number in
    OnFalse_from c.in_ok-insert-in-Null.field-0 _ (λ old new.
    let numbers = subst (λ v. AreNew used (numbers_of v)) c.in-Null.is new in
    All-head (λ (n : ℕ). ¬ (Contains used n)) number [] numbers.1
    (Contains-list_any nat_eq eqb-true used number (there _ c.in_ok-insert-in-Null.field-0 c.in_ok-insert-in-Null.ensures.added old)))
