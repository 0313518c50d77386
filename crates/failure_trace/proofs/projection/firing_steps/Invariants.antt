-- The firings so far are told.
use Rattle.std.proofs.Common.{take, All}
use Rattle.std.specs.List.{AllZip}
use Rattle.failure_trace.specs.Printed.{IsWritableStep}
use Rattle.failure_trace.specs.Projected.{firings_at, TellsFiring}
use Rattle.failure_trace.proofs.projection.firing_steps.Given as goal

abbrev pub invariant-loop-firing : goal.invariant-loop-firing
invariant-loop-firing l = record {
  told : AllZip (TellsFiring l.rules l.pool l.unknowns l.t) (firings_at (take l.firing-index l.firings) l.t) l.steps;
  writable : All IsWritableStep l.steps;
}
