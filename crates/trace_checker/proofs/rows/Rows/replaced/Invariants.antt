-- The listed facts so far have become what they become.
use Rattle.std.proofs.Common.{drop}
use Rattle.failure_trace.specs.Equating.{replaced_fact}
use Rattle.failure_trace.specs.TraceRun.{text_cmp}
use Rattle.trace_checker.specs.States.{replacement}
use Rattle.trace_checker.specs.Listed.{facts_of}
use Rattle.trace_checker.proofs.PartwayLemmas.{IsPartway}
use Rattle.trace_checker.proofs.rows.Rows.replaced.Given as goal

abbrev pub invariant-loop-row : goal.invariant-loop-row
invariant-loop-row l =
    IsPartway (replaced_fact text_cmp (replacement l.gone l.by)) l.fn.self (facts_of l.rows.keys) l.holders (facts_of (drop l.row-index l.before))
