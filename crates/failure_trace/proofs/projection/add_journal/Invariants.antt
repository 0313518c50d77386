-- The steps so far are told.
use Rattle.std.proofs.Common.{◌≡◌, ◌++◌, List, take, All}
use Rattle.std.specs.List.{AllZip}
use Rattle.failure_trace.specs.declared.trace.TraceStep.{TraceStep}
use Rattle.failure_trace.specs.declared.trace.StepKind.TheVariants.{Egd as EgdStep}
use Rattle.failure_trace.specs.Printed.{IsWritableStep}
use Rattle.failure_trace.specs.Projected.{steps_at, TellsStep}
use Rattle.failure_trace.proofs.projection.add_journal.Given as goal

abbrev pub invariant-loop-step : goal.invariant-loop-step
invariant-loop-step l = record {
  told : (settled : List TraceStep) × (l.steps ≡ l.fn.steps ++ settled)
      × AllZip (TellsStep l.rules l.pool l.unknowns EgdStep) (steps_at (take l.step-index l.journal) l.t) settled;
  writable : All IsWritableStep l.fn.steps → All IsWritableStep l.steps;
}
