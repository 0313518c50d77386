use Rattle.std.proofs.Common.{◌≡◌, Contains, length, refl, subst, arith}
use Rattle.std.proofs.lemmas.Option.{slice_get_read}
use Rattle.exchange_engine.specs.Gathered.{Gains}
use Rattle.exchange_engine.proofs.GatheredLemmas.{Gains-element, Gains-elements}
use Rattle.exchange_engine.proofs.loading.pool.add_rows.Goals as goal

pub loop-fact-preserved : goal.loop-fact-preserved
loop-fact-preserved c =
    let table = c.args.table.now in
    let i = c.loop-fact.fact-index in
    let here = slice_get_read table (length table) i c.fact-item.result refl (omega (arith, c.loop-fact-test.true)) c.fact-item.is in
    let same : c.as_slice.result.now ≡ c.fact-item.result.row = cc in
    Gains-element c.args.gathered.now c.loop-fact.gathered c.add_cells.new.gathered (λ fact. Contains fact.row) (λ fact. length fact.row) table i
    c.fact-item.result here c.loop-fact.invariant
    (subst (λ cells. Gains c.loop-fact.gathered c.add_cells.new.gathered (Contains cells) (length cells)) same c.in_ok-add_cells.ensures)

pub returns : goal.returns
returns c =
    Gains-elements c.args.gathered.now c.loop-fact.gathered (λ fact. Contains fact.row) (λ fact. length fact.row) c.args.table.now
    c.loop-fact.fact-index c.loop-fact-test.false c.loop-fact.invariant
