-- The numbers so far were new, and are used now.
use Rattle.std.proofs.Common.{◌≡◌, ◌++◌, take}
use Rattle.failure_trace.specs.Trace.{numbers_in}
use Rattle.failure_trace.specs.TraceRun.{AreNew}
use Rattle.trace_checker.proofs.binding.take_numbers.Given as goal

abbrev pub invariant-loop-bound : goal.invariant-loop-bound
invariant-loop-bound l =
    AreNew l.fn.used.keys (numbers_in (take l.bound-index l.binding)) × (l.used.keys ≡ l.fn.used.keys ++ numbers_in (take l.bound-index l.binding))
