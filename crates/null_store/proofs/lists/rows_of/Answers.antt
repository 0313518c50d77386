use Rattle.std.proofs.Common.{◌+◌, length, sym, ap, ◌∙◌, subst, arith}
use Rattle.std.proofs.lemmas.List.{length_push}
use Rattle.row_arena.specs.Arena.{cell_in}
use Rattle.row_arena.proofs.LookUpLemmas.{there_is}
use Rattle.null_store.specs.Layout.{HasRowsBelow}
use Rattle.null_store.proofs.WalkLemmas.{at_place, after_is, one_more_row}
use Rattle.null_store.proofs.lists.rows_of.Goals as goal

pub cell-cell-requires : goal.cell-cell-requires
cell-cell-requires g c =
    let f = cell_in c.args.arena.now in
    let ids = c.requires.0 in
    let walk = c.requires.1 in
    let id = c.unwrap.result in
    let cell = at_place f c.args.list ids walk c.loop.counter id (sym (c.loop.invariant.next ids walk) ∙ c.unwrap.ensures) in
    there_is (f id) cell.0 cell.1

pub loop-preserved : goal.loop-preserved
loop-preserved g c =
    let f = cell_in c.args.arena.now in
    let n = c.loop.counter in
    let id = c.unwrap.result in
    let cell = c.cell-cell.result in
    let before = c.loop.invariant in
    record {
      next = λ ids walk.
          after_is f c.args.list ids walk n id cell (sym (before.next ids walk) ∙ c.unwrap.ensures) c.cell-cell.ensures.cell;
      rows = λ ids walk.
          subst (HasRowsBelow f ids (n + 1)) (sym c.push_reserved.ensures.items)
          (one_more_row f c.args.list ids walk n c.loop.rows.items (before.rows ids walk) id cell
          (sym (before.next ids walk) ∙ c.unwrap.ensures) c.cell-cell.ensures.cell);
      room = omega (arith, before.room, c.push_reserved.ensures.capacity);
      steps = omega (
        arith,
        before.steps,
        c.cell-cell.ensures.step,
        ap length c.push_reserved.ensures.items,
        length_push c.loop.rows.items cell.row,
      );
    }
