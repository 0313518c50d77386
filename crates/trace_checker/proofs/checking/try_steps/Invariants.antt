-- The steps so far are allowed, and lead to an instance that has the facts of the state.
use Rattle.std.proofs.Common.{take}
use Rattle.rule_core.specs.Snapshot.{snapshot_at}
use Rattle.failure_trace.specs.TraceRun.{Instance, going, start, Pass}
use Rattle.failure_trace.specs.Projected.{pool_text}
use Rattle.trace_checker.specs.Checked.{source_of}
use Rattle.trace_checker.specs.States.{IsState}
use Rattle.trace_checker.proofs.checking.try_steps.Given as goal

abbrev pub invariant-loop-at : goal.invariant-loop-at
invariant-loop-at l = (held : Instance)
    × Pass (pool_text l.pool) l.rules (snapshot_at (source_of l.pool l.table) l.t) start (take l.at l.steps) (going held)
    × IsState l.state held
