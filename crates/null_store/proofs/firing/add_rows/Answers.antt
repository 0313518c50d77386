use Rattle.std.proofs.Common.{length, get_or, refl, sym, ap, ◌∙◌, subst, arith, All}
use Rattle.rule_core.specs.declared.rules.Atom.{Atom}
use Rattle.null_store.specs.Lists.{rows_seen}
use Rattle.null_store.specs.Layout.{IsThere, row_for}
use Rattle.null_store.proofs.RowLemmas.{room_for_next, rows_none, rows_more, cells_so_far}
use Rattle.null_store.proofs.firing.add_rows.Goals as goal

pub loop-atom-init : goal.loop-atom-init
loop-atom-init g c = record {
  rows = rows_none (rows_seen c.args.rows.now.arena);
  pieces = refl;
  room = omega arith;
  cell_room = omega arith;
  piece_room = refl;
  steps = omega arith;
}

pub add_image-requires-clause-room : goal.add_image-requires-clause-room
add_image-requires-clause-room g c = omega (arith, c.loop-atom.invariant.room, c.requires.room, c.loop-atom-test.true)

pub add_image-requires-clause-cell_room : goal.add_image-requires-clause-cell_room
add_image-requires-clause-cell_room g c =
    let next = room_for_next c.args.head.now c.loop-atom.atom-index c.atom-item.result c.loop-atom-test.true in
    omega (arith, next, ap (λ (atom : Atom). length atom.args) c.atom-item.is, c.loop-atom.invariant.cell_room, c.requires.cell_room)

pub add_image-requires-clause-there : goal.add_image-requires-clause-there
add_image-requires-clause-there g c =
    let d = c.atom-item.result in
    subst (λ (atom : Atom). All (IsThere c.args.values.now (length c.loop-atom.rows.pieces)) atom.args) (sym c.atom-item.is)
    (subst (λ n. All (IsThere c.args.values.now n) (get_or c.args.head.now c.loop-atom.atom-index d).args)
    (sym (ap length c.loop-atom.invariant.pieces)) (c.requires.there c.loop-atom.atom-index d c.loop-atom-test.true))

pub loop-atom-preserved : goal.loop-atom-preserved
loop-atom-preserved g c =
    let before = c.loop-atom.invariant in
    let image = c.add_image.ensures in
    let head = c.args.head.now in
    let k = c.loop-atom.atom-index in
    let d = c.atom-item.result in
    let so_far = cells_so_far head k d c.loop-atom-test.true in
    let wide = ap (λ (atom : Atom). length atom.args) c.atom-item.is in
    record {
      rows = rows_more (row_for c.args.values.now c.args.span) head k d c.atom-item.is c.loop-atom-test.true
          (rows_seen c.args.rows.now.arena) (rows_seen c.loop-atom.rows.arena) (rows_seen c.add_image.new.rows.arena) before.rows
          image.rows.0 image.rows.1;
      pieces = image.pieces ∙ before.pieces;
      room = omega (arith, image.room, before.room);
      cell_room = omega (arith, image.cell_room, before.cell_room, so_far, wide);
      piece_room = image.piece_room ∙ before.piece_room;
      steps = omega (arith, image.steps, before.steps, so_far, wide);
    }
