-- A trace that could not be fetched, or has a fault, ends the run.
use Rattle.std.proofs.Common.{refl}
use Rattle.std.proofs.lemmas.Result.{err_from_is_err_and}
use Rattle.exchange_cli.specs.Work.{RefusesTrace, trace_limit}
use Rattle.exchange_cli.specs.Run.{device}
use Rattle.exchange_cli.specs.declared.ending.Ending.TheVariants.{Trace}
use Rattle.exchange_cli.proofs.StepLemmas.{fetch_stops, fault_stops}
use Rattle.exchange_cli.proofs.traces.fetch_named.Goals as goal

pub returns-in_err-bytes-clause-stops : goal.returns-in_err-bytes-clause-stops
returns-in_err-bytes-clause-stops g c =
    let p = err_from_is_err_and c.from_residual-in_err-bytes.result c.from_residual-in_err-bytes.ensures.1 in
    rw (p.1, p.2) (fetch_stops (g.S.Shelf.holds c.args.shelf.now) (g.S.Shelf.faults c.args.shelf.now)
    (device (g.S.Shelf.holds c.fetch.new.shelf) (g.S.Shelf.faults c.fetch.new.shelf)) c.args.name.now trace_limit RefusesTrace
    c.in_err-bytes.field-0.0 (rw c.in_ok-name.ensures at c.in_err-bytes.ensures.fails))

pub returns-in-Err-Fault-clause-stops : goal.returns-in-Err-Fault-clause-stops
returns-in-Err-Fault-clause-stops g c =
    fault_stops (g.S.Shelf.holds c.args.shelf.now) (g.S.Shelf.faults c.args.shelf.now)
    (device (g.S.Shelf.holds c.fetch.new.shelf) (g.S.Shelf.faults c.fetch.new.shelf)) c.args.name.now c.in_ok-bytes.bytes trace_limit
    RefusesTrace (Trace c.in-Err-Fault.fault) (rw c.in_ok-name.ensures at c.in_ok-bytes.ensures.gives)
    (c.in_ok-bytes.bytes, refl, rw (c.as_slice.ensures, c.in-Err-Fault.field-0-is) at c.in-Err-Fault.ensures.fault) (λ n e. cc)
