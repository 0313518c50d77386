-- What is read before the first store, or where the run stops.
use Rattle.std.proofs.lemmas.Result.{err_from_is_err_and}
use Rattle.exchange_cli.specs.Commands.{command_of}
use Rattle.exchange_cli.specs.Run.{device}
use Rattle.exchange_cli.specs.Steps.{read_of}
use Rattle.exchange_cli.proofs.TraceStepLemmas.{origin_stops, trace_stops, reads_all}
use Rattle.exchange_cli.proofs.inputs.read_inputs.Goals as goal

pub returns-in_err-mapping-clause-stops : goal.returns-in_err-mapping-clause-stops
returns-in_err-mapping-clause-stops g c =
    let holds = g.S.Shelf.holds in
    let faults = g.S.Shelf.faults in
    let p = err_from_is_err_and c.from_residual.result c.from_residual.ensures.1 in
    rw (p.1, p.2) (origin_stops (device (holds c.args.shelf.now) (faults c.args.shelf.now))
    (device (holds c.read_source.new.shelf) (faults c.read_source.new.shelf)) (command_of c.args.command.now)
    c.in_err-mapping.field-0.0 c.in_err-mapping.ensures.stops)

pub returns-in_err-trace-clause-stops : goal.returns-in_err-trace-clause-stops
returns-in_err-trace-clause-stops g c =
    let holds = g.S.Shelf.holds in
    let faults = g.S.Shelf.faults in
    let before = device (holds c.args.shelf.now) (faults c.args.shelf.now) in
    let middle = device (holds c.read_source.new.shelf) (faults c.read_source.new.shelf) in
    let after = device (holds c.fetch_trace.new.shelf) (faults c.fetch_trace.new.shelf) in
    let p = err_from_is_err_and c.from_residual-in_err-trace.result c.from_residual-in_err-trace.ensures.1 in
    rw (p.1, p.2) (trace_stops before middle after (command_of c.args.command.now) c.in_ok-mapping.field-0.mapping
    c.in_ok-mapping.field-0.tables c.in_err-trace.field-0.0 c.in_ok-mapping.ensures.keeps c.in_err-trace.ensures.keeps
    c.in_ok-mapping.ensures.reads c.in_err-trace.ensures.stops)

pub returns-clause-reads : goal.returns-clause-reads
returns-clause-reads g c =
    reads_all (g.S.Shelf.holds c.args.shelf.now) (command_of c.args.command.now)
    (read_of (record {
      mapping = c.in_ok-mapping.field-0.mapping;
      tables = c.in_ok-mapping.field-0.tables;
      trace = c.in_ok-trace.trace;
    })) c.in_ok-mapping.ensures.reads
    (rw c.in_ok-mapping.ensures.keeps.same at c.in_ok-trace.ensures.reads)
