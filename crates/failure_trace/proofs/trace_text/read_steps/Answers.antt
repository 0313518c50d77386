use Rattle.std.proofs.Common.{◌≡◌, ◌+◌, ℕ, List, [], take, drop, length, refl, sym, Err, rules, arith}
use Rattle.failure_trace.proofs.LineLemmas.{steps_so_far, steps_fail}
use Rattle.failure_trace.proofs.trace_text.read_steps.Goals as goal

pub returns-in_err-read_step-clause-fault : goal.returns-in_err-read_step-clause-fault
returns-in_err-read_step-clause-fault c =
    let rest : List ℕ = c.loop-line.rest.now in
    let answer : c.from_residual.result ≡ Err c.in_err-read_step.field-0.0 = search rules in
    let number : c.len-number.result + 3 ≡ length c.loop-line.steps + 3 = omega arith in
    rw answer (steps_fail c.in_err-read_step.field-0.0 c.args.bytes.now rest (take c.in-Some.line.len rest) (drop c.in-Some.line.end rest)
    c.loop-line.steps (c.len-number.result + 3)
    (steps_so_far c.args.bytes.now rest c.loop-line.steps rest c.loop-line.invariant.leads refl)
    c.in-Some.ensures.line number c.in_err-read_step.ensures.fault c.in_err-read_step.ensures.line)

pub returns-clause-steps : goal.returns-clause-steps
returns-clause-steps c =
    let none : c.loop-line.rest.now ≡ [] = search rules in
    steps_so_far c.args.bytes.now c.loop-line.rest.now c.loop-line.steps [] c.loop-line.invariant.leads (sym none)
