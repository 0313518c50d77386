use Rattle.std.proofs.Common.{◌≡◌, ◌+◌, ℕ, ℤ, List, drop, refl, sym, Err, rules, subst, SFits, w64}
use Rattle.std.proofs.lemmas.Int.{to_z-of_z}
use Rattle.std.proofs.lemmas.List.{take_rest, drop-drop}
use Rattle.failure_trace.specs.TraceText.{BeginsInstant}
use Rattle.failure_trace.proofs.LineLemmas.{text_fails}
use Rattle.failure_trace.proofs.trace_text.read_trace.Goals as goal

pub returns-in_default-instant_of-clause-fault : goal.returns-in_default-instant_of-clause-fault
returns-in_default-instant_of-clause-fault c =
    let none = simp take_rest at c.in_default-instant_of.ensures.none in
    (drop c.in-Some.first c.args.bytes.now, c.in-Some.ensures.line, refl, none)

pub returns-in_err-steps-clause-fault : goal.returns-in_err-steps-clause-fault
returns-in_err-steps-clause-fault c =
    let second : List ℕ = drop c.in-Some.first c.args.bytes.now in
    let third : List ℕ = drop (c.in-Some.first + c.in-Some-instant_of.second.len) c.args.bytes.now in
    let line = simp (take_rest, drop-drop) at c.in-Some-instant_of.ensures.line in
    let fails = simp take_rest at c.in_err-steps.ensures.fault in
    let answer : c.from_residual.result ≡ Err c.in_err-steps.field-0.0 = search rules in
    rw answer (text_fails c.in_err-steps.field-0.0 c.args.bytes.now second third c.in-Some-instant_of.second.instant c.in-Some.ensures.line
    line fails)

pub returns-clause-trace : goal.returns-clause-trace
returns-clause-trace c =
    let t : ℤ = c.in-Some-instant_of.second.instant in
    let fits : SFits w64 t = search rules in
    let second : List ℕ = drop c.in-Some.first c.args.bytes.now in
    let third : List ℕ = drop (c.in-Some.first + c.in-Some-instant_of.second.len) c.args.bytes.now in
    let line = simp (take_rest, drop-drop) at c.in-Some-instant_of.ensures.line in
    let steps = simp take_rest at c.in_ok-steps.ensures.steps in
    record {
      second = second;
      third = third;
      first_line = c.in-Some.ensures.line;
      second_line = subst (λ m. BeginsInstant second m third) (sym (to_z-of_z w64 t fits)) line;
      steps = steps;
    }
