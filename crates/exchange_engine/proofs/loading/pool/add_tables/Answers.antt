use Rattle.std.proofs.Common.{Any, Contains, length, sum_by, refl, subst, arith}
use Rattle.std.proofs.lemmas.Option.{slice_get_read}
use Rattle.exchange_engine.specs.Gathered.{Gains}
use Rattle.exchange_engine.proofs.GatheredLemmas.{Gains-element, Gains-elements}
use Rattle.exchange_engine.proofs.loading.pool.add_tables.Goals as goal

pub loop-table-preserved : goal.loop-table-preserved
loop-table-preserved c =
    let tables = c.args.tables.now in
    let i = c.loop-table.table-index in
    let here = slice_get_read tables (length tables) i c.table-item.result refl (omega (arith, c.loop-table-test.true)) c.table-item.is in
    Gains-element c.args.gathered.now c.loop-table.gathered c.add_rows.new.gathered
    (λ table text. Any (λ fact. Contains fact.row text) table) (λ table. sum_by (λ fact. length fact.row) table) tables i
    c.table-item.result here c.loop-table.invariant
    (subst (λ table. Gains c.loop-table.gathered c.add_rows.new.gathered (λ text. Any (λ fact. Contains fact.row text) table)
    (sum_by (λ fact. length fact.row) table)) c.as_slice.ensures c.in_ok-add_rows.ensures)

pub returns : goal.returns
returns c =
    Gains-elements c.args.gathered.now c.loop-table.gathered
    (λ table text. Any (λ fact. Contains fact.row text) table) (λ table. sum_by (λ fact. length fact.row) table) c.args.tables.now
    c.loop-table.table-index c.loop-table-test.false c.loop-table.invariant
