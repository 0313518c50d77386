-- A table that could not be fetched, or has a fault, is the first failure.
use Rattle.std.proofs.Common.{refl}
use Rattle.std.proofs.lemmas.Result.{err_from_is_err_and}
use Rattle.exchange_cli.specs.Names.{table_name}
use Rattle.exchange_cli.specs.Work.{RefusesTable}
use Rattle.exchange_cli.specs.Run.{device}
use Rattle.exchange_cli.specs.declared.ending.Ending.TheVariants.{Table}
use Rattle.exchange_cli.proofs.SizeLemmas.{table_is_wide, table_has_few_cells}
use Rattle.exchange_cli.proofs.StepLemmas.{fetch_stops, fault_stops}
use Rattle.exchange_cli.proofs.inputs.fetch_table.Goals as goal

pub returns-in_err-bytes-clause-stops : goal.returns-in_err-bytes-clause-stops
returns-in_err-bytes-clause-stops g c =
    let p = err_from_is_err_and c.from_residual-in_err-bytes.result c.from_residual-in_err-bytes.ensures.1 in
    let prefix = c.args.source.now in
    let relation = c.args.relation.now in
    rw (p.1, p.2) (fetch_stops (g.S.Shelf.holds c.args.shelf.now) (g.S.Shelf.faults c.args.shelf.now)
    (device (g.S.Shelf.holds c.fetch.new.shelf) (g.S.Shelf.faults c.fetch.new.shelf)) (table_name prefix relation.name) c.args.limit
    (RefusesTable prefix relation) c.in_err-bytes.field-0.0 (rw c.in_ok-name.ensures at c.in_err-bytes.ensures.fails))

pub returns-in-Err-Fault-clause-stops : goal.returns-in-Err-Fault-clause-stops
returns-in-Err-Fault-clause-stops g c =
    let prefix = c.args.source.now in
    let relation = c.args.relation.now in
    fault_stops (g.S.Shelf.holds c.args.shelf.now) (g.S.Shelf.faults c.args.shelf.now)
    (device (g.S.Shelf.holds c.fetch.new.shelf) (g.S.Shelf.faults c.fetch.new.shelf)) (table_name prefix relation.name) c.in_ok-bytes.bytes
    c.args.limit (RefusesTable prefix relation) (Table c.in_ok-name.name c.in-Err-Fault.fault)
    (rw c.in_ok-name.ensures at c.in_ok-bytes.ensures.gives) (
      c.in_ok-bytes.bytes,
      refl,
      (c.in_ok-name.ensures, rw (c.as_slice.ensures, c.in-Err-Fault.field-0-is) at c.in-Err-Fault.ensures.fault),
    )
    (λ n e. cc)

pub returns-in-Ok-clause-reads : goal.returns-in-Ok-clause-reads
returns-in-Ok-clause-reads g c = (
  c.in_ok-bytes.bytes,
  rw c.in_ok-name.ensures at c.in_ok-bytes.ensures.gives,
  rw c.as_slice-in-Ok.ensures refl,
  rw c.as_slice.ensures at c.in-Ok.ensures.table,
)

pub returns-in-Ok-clause-wide : goal.returns-in-Ok-clause-wide
returns-in-Ok-clause-wide g c = table_is_wide c.args.relation.now c.as_slice.result.now c.in-Ok.facts c.in-Ok.ensures.table

pub returns-in-Ok-clause-few : goal.returns-in-Ok-clause-few
returns-in-Ok-clause-few g c =
    table_has_few_cells c.args.relation.now c.as_slice.result.now c.in-Ok.facts c.in-Ok.ensures.table c.requires
