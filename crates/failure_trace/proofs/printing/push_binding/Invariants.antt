use Rattle.std.proofs.Common.{◌≡◌, ◌++◌, take}
use Rattle.std.specs.List.{flat_map}
use Rattle.failure_trace.specs.Printed.{bound_text}
use Rattle.failure_trace.proofs.printing.push_binding.Given as goal

abbrev pub invariant-loop-bound : goal.invariant-loop-bound
invariant-loop-bound l = l.text ≡ l.fn.text ++ flat_map bound_text (take l.bound-index l.binding)
