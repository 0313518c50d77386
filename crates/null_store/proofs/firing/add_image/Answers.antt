use Rattle.std.proofs.Common.{◌≡◌, ◌<◌, Some, List, length, sym, ap, ◌∙◌, subst, arith}
use Rattle.term_core.specs.declared.term.Seen.{Seen}
use Rattle.term_core.specs.declared.term.Seen.TheVariants.{Const, Piece}
use Rattle.fact_table.specs.Rows.{SeenRow, row_at}
use Rattle.null_store.specs.Lists.{rows_seen}
use Rattle.null_store.specs.Layout.{LinkedArena}
use Rattle.null_store.proofs.RowLemmas.{filled, blank_is, filled_long, filled_all, has_plain, fills, holds_there}
use Rattle.null_store.proofs.firing.add_image.Goals as goal
use Rattle.null_store.proofs.firing.add_image.Goals.{in-Const, in-Piece}

pub loop-column-init : goal.loop-column-init
loop-column-init g c =
    let adds = c.add_row-row.ensures.adds in
    let args = c.args.atom.now.args in
    let blank = blank_is c.args.values.now 16 (length c.as_slice-args.result.now) args (ap length c.as_slice-args.ensures) c.requires.narrow in
    let rowof : List Seen → SeenRow = λ l. record { relation = c.args.atom.now.relation; cells = l; span = c.args.span } in
    record {
      here = adds.here ∙ ap (λ (l : List Seen). Some (rowof l)) blank;
      others = adds.others;
      pieces = c.add_row-row.ensures.pieces;
      room = c.add_row-row.ensures.rows;
      cell_room = omega (arith, c.add_row-row.ensures.cells, ap length blank, filled_long c.args.values.now 0 args);
      piece_room = c.add_row-row.ensures.room;
      steps = omega arith;
    }

pub put-requires : goal.put-requires
put-requires g c =
    let size = ap length c.as_slice-args.ensures in
    has_plain c.args.values.now c.args.atom.now.args c.args.atom.now.relation c.args.span (rows_seen c.loop-column.rows.arena)
    c.add_row-row.result c.loop-column.column c.loop-column.invariant.here (omega (arith, c.loop-column-test.true, size))

pub hold-requires-clause-cell : goal.hold-requires-clause-cell
hold-requires-clause-cell g c =
    let size = ap length c.as_slice-args.ensures in
    has_plain c.args.values.now c.args.atom.now.args c.args.atom.now.relation c.args.span (rows_seen c.loop-column.rows.arena)
    c.add_row-row.result c.loop-column.column c.loop-column.invariant.here (omega (arith, c.loop-column-test.true, size))

pub hold-requires-clause-piece : goal.hold-requires-clause-piece
hold-requires-clause-piece g c =
    let size = ap length c.as_slice-args.ensures in
    let l : c.loop-column.column < length c.args.atom.now.args = omega (arith, c.loop-column-test.true, size) in
    subst (λ n. c.in-Piece.piece < n) (sym (ap length c.loop-column.invariant.pieces))
    (holds_there c.args.values.now c.args.atom.now.args c.args.atom.now.relation c.args.span c.loop-column.column _
    c.as_slice-args.result.now c.as_slice-args.ensures l c.cell_for.result c.cell_for.ensures (length c.args.rows.now.pieces)
    c.in-Piece.piece c.in-Piece.is c.requires.there)

pub loop-column-preserved : goal.loop-column-preserved
loop-column-preserved g c =
    let before = c.loop-column.invariant in
    let atom = c.args.atom.now in
    let size = ap length c.as_slice-args.ensures in
    let l : c.loop-column.column < length atom.args = omega (arith, c.loop-column-test.true, size) in
    elim c.match-cell_for.branch [
      | in-Const w ↦ record {
        here = (λ i. row_at (rows_seen (w.rows-is i).arena) c.add_row-row.result)
            ∙ fills c.args.values.now atom.args atom.relation c.args.span c.loop-column.column _ c.as_slice-args.result.now
            c.as_slice-args.ensures l c.cell_for.result c.cell_for.ensures (Const w.in-Const.constant) w.in-Const.is
            (rows_seen c.loop-column.rows.arena) (rows_seen w.put.new.self.arena) c.add_row-row.result before.here w.put.ensures.sets;
        others = λ other differ. (λ i. row_at (rows_seen (w.rows-is i).arena) other) ∙ w.put.ensures.sets.others other differ
            ∙ before.others other differ;
        pieces = (λ i. (w.rows-is i).pieces) ∙ w.put.ensures.pieces ∙ before.pieces;
        room = omega (arith, ap (λ (h : LinkedArena). h.arena.spare_rows) w.rows-is, w.put.ensures.room.rows, before.room);
        cell_room = omega (arith, ap (λ (h : LinkedArena). h.arena.spare_cells) w.rows-is, w.put.ensures.room.cells, before.cell_room);
        piece_room = (λ i. (w.rows-is i).room) ∙ w.put.ensures.room.pieces ∙ before.piece_room;
        steps = omega (arith, w.steps-is, w.put.ensures.step, before.steps);
      }
      | in-Piece w ↦ record {
        here = (λ i. row_at (rows_seen (w.rows-is i).arena) c.add_row-row.result)
            ∙ fills c.args.values.now atom.args atom.relation c.args.span c.loop-column.column _ c.as_slice-args.result.now
            c.as_slice-args.ensures l c.cell_for.result c.cell_for.ensures (Piece w.in-Piece.piece) w.in-Piece.is
            (rows_seen c.loop-column.rows.arena) (rows_seen w.hold.new.self.arena) c.add_row-row.result before.here w.hold.ensures.sets;
        others = λ other differ. (λ i. row_at (rows_seen (w.rows-is i).arena) other) ∙ w.hold.ensures.sets.others other differ
            ∙ before.others other differ;
        pieces = (λ i. (w.rows-is i).pieces) ∙ w.hold.ensures.pieces ∙ before.pieces;
        room = omega (arith, ap (λ (h : LinkedArena). h.arena.spare_rows) w.rows-is, w.hold.ensures.room.rows, before.room);
        cell_room = omega (arith, ap (λ (h : LinkedArena). h.arena.spare_cells) w.rows-is, w.hold.ensures.room.cells, before.cell_room);
        piece_room = (λ i. (w.rows-is i).room) ∙ w.hold.ensures.room.pieces ∙ before.piece_room;
        steps = omega (arith, w.steps-is, w.hold.ensures.steps, before.steps);
      }
    ]

pub returns-clause-rows : goal.returns-clause-rows
returns-clause-rows g c =
    let last : c.loop-column.column ≡ length c.args.atom.now.args =
    omega (arith, c.loop-column-test.false, c.loop-column.auto.column-end, ap length c.as_slice-args.ensures) in
    let adds = c.add_row-row.ensures.adds in
    let all = filled_all c.args.values.now c.args.atom.now.args in (
      c.add_row-row.result,
      record {
        vacant = adds.vacant;
        here = c.loop-column.invariant.here
            ∙ ap (λ n. Some (record {
              relation = c.args.atom.now.relation;
              cells = filled c.args.values.now n c.args.atom.now.args;
              span = c.args.span;
            })) last
            ∙ ap (λ (l : List Seen). Some (record { relation = c.args.atom.now.relation; cells = l; span = c.args.span })) all;
        others = c.loop-column.invariant.others;
      },
    )
