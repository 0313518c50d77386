-- The names so far are the variables so far.
use Rattle.std.proofs.Common.{◌≡◌, take}
use Rattle.failure_trace.specs.Trace.{names_in}
use Rattle.trace_checker.proofs.binding.has_names.Given as goal

abbrev pub invariant-loop-at : goal.invariant-loop-at
invariant-loop-at l = names_in (take l.at l.binding) ≡ take l.at l.vars
