use Rattle.std.proofs.Common.{ℕ, ◌≤◌, List, ◌++◌, length}
use Rattle.failure_trace.specs.declared.trace.Bound.{Bound}
use Rattle.failure_trace.specs.TraceText.{EndsPart, Bind}
use Rattle.failure_trace.proofs.step_text.read_binding.Given as goal

-- bindings that the rest begins with stand behind those that were read
abbrev pub invariant-loop-rest : goal.invariant-loop-rest
invariant-loop-rest l = record {
  ends : EndsPart l.rest;
  most : length l.binding ≤ 32;
  leads : (more : List Bound) (end : List ℕ) → Bind l.rest more end → Bind l.fn.bytes (l.binding ++ more) end;
}

abbrev pub decreases-loop-rest : goal.decreases-loop-rest
decreases-loop-rest l = length l.rest
