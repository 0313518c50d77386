use Rattle.std.proofs.Common.{Some, sym, ap, ◌∙◌, arith}
use Rattle.std.specs.Option.{option_map}
use Rattle.row_arena.specs.Arena.{cell_in}
use Rattle.row_arena.proofs.LookUpLemmas.{there_is}
use Rattle.null_store.specs.Layout.{with_value}
use Rattle.null_store.proofs.WalkLemmas.{at_place, after_is, still, one_more_written, content_here, content_else, content_keeps, same_place}
use Rattle.null_store.proofs.lists.rewrite.Goals as goal

pub cell-cell-requires : goal.cell-cell-requires
cell-cell-requires g c =
    let f = cell_in c.args.arena.now in
    let ids = c.requires.0 in
    let walk = c.requires.1 in
    let n = c.loop.counter in
    let id = c.unwrap-id.result in
    let before = c.loop.invariant in
    let at = sym (before.next ids walk) ∙ c.unwrap-id.ensures in
    let cell = at_place f c.args.list ids walk n id at in
    there_is (cell_in c.loop.arena id) cell.0
    (still f c.args.list ids walk n (cell_in c.loop.arena) c.args.by c.args.last (before.written ids walk) id at ∙ cell.1)

pub loop-preserved : goal.loop-preserved
loop-preserved g c =
    let f = cell_in c.args.arena.now in
    let n = c.loop.counter in
    let id = c.unwrap-id.result in
    let cell = c.cell-cell.result in
    let w = c.rewritten-written.result in
    let old = c.loop.arena in
    let new = c.put_cell.new.self in
    let before = c.loop.invariant in
    record {
      next = λ ids walk.
          let at = sym (before.next ids walk) ∙ c.unwrap-id.ensures in
          let was = still f c.args.list ids walk n (cell_in old) c.args.by c.args.last (before.written ids walk) id at in
          after_is f c.args.list ids walk n id cell at (sym was ∙ c.cell-cell.ensures.cell);
      written = λ ids walk.
          let at = sym (before.next ids walk) ∙ c.unwrap-id.ensures in
          let was = still f c.args.list ids walk n (cell_in old) c.args.by c.args.last (before.written ids walk) id at in
          one_more_written f c.args.list ids walk n (cell_in old) c.args.by c.args.last (before.written ids walk) (cell_in new) id at
          (content_here old new id w.value w.before w.after c.put_cell.ensures.puts cell c.cell-cell.ensures.cell
          ∙ ap Some (same_place c.args.by c.args.last cell w c.rewritten-written.ensures)
          ∙ sym (ap (option_map (with_value c.args.by c.args.last)) (sym was ∙ c.cell-cell.ensures.cell)))
          (content_else old new id w.value w.before w.after c.put_cell.ensures.puts);
      keeps = content_keeps old new id w.value w.before w.after c.put_cell.ensures.puts c.args.arena.now before.keeps;
      steps = omega (arith, before.steps, c.cell-cell.ensures.step, c.put_cell.ensures.step);
    }
