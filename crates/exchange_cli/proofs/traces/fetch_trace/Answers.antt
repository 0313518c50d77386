-- The trace that the command names is the one that is answered.
use Rattle.exchange_cli.proofs.TraceStepLemmas.{answers_trace}
use Rattle.exchange_cli.proofs.traces.fetch_trace.Goals as goal

pub returns-in_ok-fetch_named-in-Check-clause-reads : goal.returns-in_ok-fetch_named-in-Check-clause-reads
returns-in_ok-fetch_named-in-Check-clause-reads g c =
    rw c.in-Check.is (answers_trace (g.S.Shelf.holds c.args.shelf.now) c.in-Check.name.now c.in_ok-fetch_named-in-Check.field-0
    c.in_ok-fetch_named-in-Check.ensures.reads)
