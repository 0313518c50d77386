-- The atoms so far match.
use Rattle.std.proofs.Common.{take}
use Rattle.rule_core.specs.Match.{Matches}
use Rattle.rule_core.specs.Snapshot.{snapshot_at}
use Rattle.failure_trace.specs.Equating.{bound_to}
use Rattle.failure_trace.specs.Trace.{terms_in}
use Rattle.failure_trace.specs.Projected.{pool_text}
use Rattle.trace_checker.specs.Checked.{source_of}
use Rattle.trace_checker.proofs.matching.matches_at.Given as goal

abbrev pub invariant-loop-atom : goal.invariant-loop-atom
invariant-loop-atom l =
    Matches (pool_text l.pool) (bound_to (terms_in l.binding)) (take l.atom-index l.atoms) (snapshot_at (source_of l.pool l.table) l.t)
