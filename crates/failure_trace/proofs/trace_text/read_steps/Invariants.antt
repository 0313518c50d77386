use Rattle.std.proofs.Common.{ℕ, ◌+◌, ◌≤◌, List, ◌++◌, length}
use Rattle.failure_trace.specs.declared.trace.TraceStep.{TraceStep}
use Rattle.failure_trace.specs.TraceText.{Steps}
use Rattle.failure_trace.proofs.trace_text.read_steps.Given as goal

-- steps that the rest begins with stand behind those that were read, each of which has a byte at least
abbrev pub invariant-loop-line : goal.invariant-loop-line
invariant-loop-line l = record {
  size : length l.steps + length l.rest ≤ length l.fn.bytes;
  leads : (more : List TraceStep) (end : List ℕ) → Steps l.rest more end → Steps l.fn.bytes (l.steps ++ more) end;
}

abbrev pub decreases-loop-line : goal.decreases-loop-line
decreases-loop-line l = length l.rest
