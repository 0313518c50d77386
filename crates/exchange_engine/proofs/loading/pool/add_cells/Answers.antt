use Rattle.std.proofs.Common.{◌∙◌, Some, length, ap, sym, refl, arith}
use Rattle.std.proofs.lemmas.Option.{slice_get_read}
use Rattle.exchange_engine.proofs.GatheredLemmas.{Gains-text, Gains-texts}
use Rattle.exchange_engine.proofs.loading.pool.add_cells.Goals as goal

pub loop-cell-preserved : goal.loop-cell-preserved
loop-cell-preserved c =
    let cells = c.args.cells.now in
    let i = c.loop-cell.cell-index in
    let here = slice_get_read cells (length cells) i c.cell-item.result refl (omega (arith, c.loop-cell-test.true)) c.cell-item.is in
    Gains-text c.args.gathered.now c.loop-cell.gathered c.add.new.self cells i c.as_str.result.now
    (here ∙ ap Some (sym c.as_str.ensures)) c.loop-cell.invariant c.in_ok-add.ensures

pub returns : goal.returns
returns c =
    Gains-texts c.args.gathered.now c.loop-cell.gathered c.args.cells.now c.loop-cell.cell-index (omega arith) c.loop-cell.invariant
