-- The mapping and its tables are read, or the run stops there.
use Rattle.std.proofs.Common.{ap}
use Rattle.std.proofs.lemmas.Result.{err_from_is_err_and}
use Rattle.exchange_cli.specs.Words.{Origin}
use Rattle.exchange_cli.specs.Commands.{command_of}
use Rattle.exchange_cli.specs.Run.{device}
use Rattle.exchange_cli.proofs.StepLemmas.{mapping_stops, tables_stop, reads_origin, stops_since}
use Rattle.exchange_cli.proofs.inputs.read_source.Goals as goal

pub returns-in_err-mapping-clause-stops : goal.returns-in_err-mapping-clause-stops
returns-in_err-mapping-clause-stops g c =
    let holds = g.S.Shelf.holds in
    let faults = g.S.Shelf.faults in
    let p = err_from_is_err_and c.from_residual.result c.from_residual.ensures.1 in
    rw (p.1, p.2) (mapping_stops (device (holds c.args.shelf.now) (faults c.args.shelf.now))
    (device (holds c.fetch_mapping.new.shelf) (faults c.fetch_mapping.new.shelf)) (command_of c.args.command.now)
    c.origin-origin.result.mapping.now c.in_err-mapping.field-0.0 (ap (λ (o : Origin). o.mapping) c.origin-origin.ensures)
    c.in_err-mapping.ensures.stops)

pub returns-in_err-tables-clause-stops : goal.returns-in_err-tables-clause-stops
returns-in_err-tables-clause-stops g c =
    let holds = g.S.Shelf.holds in
    let faults = g.S.Shelf.faults in
    let command = command_of c.args.command.now in
    let before = device (holds c.args.shelf.now) (faults c.args.shelf.now) in
    let middle = device (holds c.fetch_mapping.new.shelf) (faults c.fetch_mapping.new.shelf) in
    let after = device (holds c.fetch_tables.new.shelf) (faults c.fetch_tables.new.shelf) in
    let p = err_from_is_err_and c.from_residual-in_err-tables.result c.from_residual-in_err-tables.ensures.1 in
    rw (p.1, p.2) (tables_stop before after command c.origin-origin.result.mapping.now c.origin-origin.result.source.now
    c.in_ok-mapping.mapping c.in_err-tables.field-0.0 (ap (λ (o : Origin). o.mapping) c.origin-origin.ensures)
    (ap (λ (o : Origin). o.source) c.origin-origin.ensures)
    c.in_ok-mapping.ensures.reads
    (stops_since before middle after c.origin-origin.result.source.now c.in_ok-mapping.mapping.rules.sources c.in_err-tables.field-0.0
    c.in_ok-mapping.ensures.keeps c.in_err-tables.ensures.keeps c.in_err-tables.ensures.stops))

pub returns-clause-reads : goal.returns-clause-reads
returns-clause-reads g c =
    let command = command_of c.args.command.now in
    reads_origin (g.S.Shelf.holds c.args.shelf.now) command c.origin-origin.result.mapping.now c.origin-origin.result.source.now
    c.in_ok-mapping.mapping c.in_ok-tables.tables (ap (λ (o : Origin). o.mapping) c.origin-origin.ensures)
    (ap (λ (o : Origin). o.source) c.origin-origin.ensures)
    c.in_ok-mapping.ensures.reads
    (rw c.in_ok-mapping.ensures.keeps.same at c.in_ok-tables.ensures.reads)
