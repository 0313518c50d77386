use Rattle.std.proofs.Common.{length, refl, sym, subst, arith, Contains}
use Rattle.std.proofs.lemmas.Option.{slice_get_read}
use Rattle.exchange_engine.proofs.GatheredLemmas.{All-at}
use Rattle.exchange_engine.proofs.loading.facts.numbers_of.Goals as goal

pub number_near-requires : goal.number_near-requires
number_near-requires c =
    let cells = c.args.cells.now in
    let i = c.loop-cell.cell-index in
    let here = slice_get_read cells (length cells) i c.cell-item.result refl (omega (arith, c.loop-cell-test.true)) c.cell-item.is in
    subst (Contains c.args.pool.now) (sym c.as_str.ensures) (All-at (Contains c.args.pool.now) cells i c.cell-item.result c.requires here)
