use Rattle.std.proofs.Common.{◌≡◌, ◌<◌, ◌≤◌, ◌+◌, ◌*◌, ℤ, Some, length, sym, ap, ◌∙◌, subst, take, arith, to_z, of_z, w64}
use Rattle.std.proofs.lemmas.Int.{to_z-of_z}
use Rattle.time_line.specs.Span.{Ends}
use Rattle.term_core.specs.declared.term.Seen.TheVariants.{Const, Piece}
use Rattle.fact_table.specs.Rows.{SeenRow, row_at}
use Rattle.fact_table.specs.declared.fact.RowHead.{RowHead}
use Rattle.row_arena.specs.Arena.{Arena, IsArena, row_in, cell_in}
use Rattle.null_store.specs.Splits.{part_before, part_after}
use Rattle.null_store.specs.Lists.{rows_seen}
use Rattle.null_store.specs.Layout.{HasPlain, HasTwin, CanCutRow, SetsRowSpan, AddsOne, PartsRow, CutsRow, twin_in, twin_row}
use Rattle.null_store.proofs.ListLemmas.{some_and, and_some, holds_at}
use Rattle.null_store.proofs.ViewLemmas.{few_cells}
use Rattle.null_store.proofs.RowLemmas.{blanks}
use Rattle.null_store.proofs.SplitLemmas.{twins_blank}
use Rattle.null_store.proofs.CopyLemmas.{head_found, parts_found, blanks_long, CopySoFar, copy_begins, can_read, read_is, can_write, copy_const, is_piece, is_twin, copy_piece, parts_row, cuts_row}
use Rattle.null_store.proofs.splitting.split_row.Goals as goal
use Rattle.null_store.proofs.splitting.split_row.Goals.{in-Const, in-Piece}

pub slice_bounds-blank-end : goal.slice_bounds-blank-end
slice_bounds-blank-end g c =
    let held = c.args.rows.now in
    let its = some_and (CanCutRow c.args.m held) (row_at (rows_seen held.arena) c.args.number) c.requires.row in
    let head = head_found (rows_seen held.arena) c.args.number its.0 c.head.result c.unwrap-head.result c.head.ensures c.unwrap-head.ensures its.1 in
    let few = few_cells held.arena (subst (λ (a : Arena). IsArena (row_in a) (cell_in a)) c.arena.ensures.arena c.is_kept.ensures)
    c.args.number its.0 its.1 in
    omega (arith, ap (λ (h : RowHead). h.arity) head, few)

pub slice_bounds-add_row-end : goal.slice_bounds-add_row-end
slice_bounds-add_row-end g c =
    let held = c.args.rows.now in
    let its = some_and (CanCutRow c.args.m held) (row_at (rows_seen held.arena) c.args.number) c.requires.row in
    let head = head_found (rows_seen held.arena) c.args.number its.0 c.head.result c.unwrap-head.result c.head.ensures c.unwrap-head.ensures its.1 in
    let few = few_cells held.arena (subst (λ (a : Arena). IsArena (row_in a) (cell_in a)) c.arena.ensures.arena c.is_kept.ensures)
    c.args.number its.0 its.1 in
    blanks_long 16 c.unwrap-head.result.arity (omega (arith, ap (λ (h : RowHead). h.arity) head, few))

pub loop-column-init : goal.loop-column-init
loop-column-init g c =
    let held = c.args.rows.now in
    let M = to_z w64 (of_z w64 c.args.m) in
    let at = to_z-of_z w64 c.args.m c.ranges.m in
    record {
      size = λ row is.
          let head = head_found (rows_seen held.arena) c.args.number row c.head.result c.unwrap-head.result c.head.ensures c.unwrap-head.ensures is in
          sym (ap (λ (h : RowHead). h.arity) head);
      copied = λ row is.
          let can = subst (λ (t : ℤ). CanCutRow t held row) (sym at)
          (holds_at (CanCutRow c.args.m held) (row_at (rows_seen held.arena) c.args.number) row is c.requires.row) in
          let head = head_found (rows_seen held.arena) c.args.number row c.head.result c.unwrap-head.result c.head.ensures c.unwrap-head.ensures is in
          let few = few_cells held.arena (subst (λ (a : Arena). IsArena (row_in a) (cell_in a)) c.arena.ensures.arena c.is_kept.ensures)
          c.args.number row is in
          let parts = parts_found M row c.unwrap-head.result c.cut.result c.unwrap-before.result head c.unwrap-before.ensures c.cut.ensures.parts in
          let values = take c.unwrap-head.result.arity (blanks 16) in
          let size = ap (λ (h : RowHead). h.arity) head in
          copy_begins M c.args.number c.add_row-copy.result row held c.set_span.new.self c.add_row-copy.new.self values (part_after M row.span) is can
          (subst (λ (s : Ends). SetsRowSpan (rows_seen held.arena) (rows_seen c.set_span.new.self.arena) c.args.number s) parts.0 c.set_span.ensures.sets)
          c.set_span.ensures.room c.set_span.ensures.pieces
          (subst (λ (r : SeenRow). AddsOne (rows_seen c.set_span.new.self.arena) (rows_seen c.add_row-copy.new.self.arena) c.add_row-copy.result r)
          (λ i. record { relation = (head i).relation; cells = values; span = parts.1 i }) c.add_row-copy.ensures.adds)
          (λ twin. twins_blank twin 16 c.unwrap-head.result.arity row.cells size few)
          c.add_row-copy.ensures.rows (omega (arith, c.add_row-copy.ensures.cells, size, blanks_long 16 c.unwrap-head.result.arity (omega (arith, size, few))))
          c.add_row-copy.ensures.pieces c.add_row-copy.ensures.room;
      steps = omega arith;
    }

pub cell-requires : goal.cell-requires
cell-requires g c =
    let held = c.args.rows.now in
    let its = some_and (CanCutRow c.args.m held) (row_at (rows_seen held.arena) c.args.number) c.requires.row in
    let past = c.loop-column.invariant.copied its.0 its.1 in
    can_read (to_z w64 (of_z w64 c.args.m)) c.args.number c.add_row-copy.result its.0 held c.loop-column.column c.loop-column.rows past
    (omega (arith, c.loop-column.invariant.size its.0 its.1, c.loop-column-test.true))

pub put-requires : goal.put-requires
put-requires g c =
    let held = c.args.rows.now in
    let its = some_and (CanCutRow c.args.m held) (row_at (rows_seen held.arena) c.args.number) c.requires.row in
    let past = c.loop-column.invariant.copied its.0 its.1 in
    can_write (to_z w64 (of_z w64 c.args.m)) c.args.number c.add_row-copy.result its.0 held c.loop-column.column c.loop-column.rows past
    (omega (arith, c.loop-column.invariant.size its.0 its.1, c.loop-column-test.true))

pub twin_of-twin-requires-clause-piece : goal.twin_of-twin-requires-clause-piece
twin_of-twin-requires-clause-piece g c =
    let held = c.args.rows.now in
    let M = to_z w64 (of_z w64 c.args.m) in
    let its = some_and (CanCutRow c.args.m held) (row_at (rows_seen held.arena) c.args.number) c.requires.row in
    let past = c.loop-column.invariant.copied its.0 its.1 in
    let l : c.loop-column.column < length its.0.cells = omega (arith, c.loop-column.invariant.size its.0 its.1, c.loop-column-test.true) in
    let read = read_is M c.args.number c.add_row-copy.result its.0 held c.loop-column.column c.loop-column.rows past l (Piece c.in-Piece.piece)
    (c.cell.ensures.value ∙ ap Some c.in-Piece.is) in
    is_piece M c.args.number c.add_row-copy.result its.0 held c.loop-column.column c.loop-column.rows past l c.in-Piece.piece read

pub twin_of-twin-requires-clause-room : goal.twin_of-twin-requires-clause-room
twin_of-twin-requires-clause-room g c =
    let held = c.args.rows.now in
    let M = to_z w64 (of_z w64 c.args.m) in
    let its = some_and (CanCutRow c.args.m held) (row_at (rows_seen held.arena) c.args.number) c.requires.row in
    let past = c.loop-column.invariant.copied its.0 its.1 in
    omega (arith, c.loop-column.invariant.size its.0 its.1, c.loop-column-test.true, past.room, its.2.room)

pub hold-requires-clause-cell : goal.hold-requires-clause-cell
hold-requires-clause-cell g c =
    let held = c.args.rows.now in
    let M = to_z w64 (of_z w64 c.args.m) in
    let its = some_and (CanCutRow c.args.m held) (row_at (rows_seen held.arena) c.args.number) c.requires.row in
    let past = c.loop-column.invariant.copied its.0 its.1 in
    let l : c.loop-column.column < length its.0.cells = omega (arith, c.loop-column.invariant.size its.0 its.1, c.loop-column-test.true) in
    subst (λ (a : Arena). HasPlain (rows_seen a) c.add_row-copy.result c.loop-column.column) (sym c.twin_of-twin.ensures.arena)
    (can_write M c.args.number c.add_row-copy.result its.0 held c.loop-column.column c.loop-column.rows past l)

pub hold-requires-clause-piece : goal.hold-requires-clause-piece
hold-requires-clause-piece g c =
    let held = c.args.rows.now in
    let M = to_z w64 (of_z w64 c.args.m) in
    let its = some_and (CanCutRow c.args.m held) (row_at (rows_seen held.arena) c.args.number) c.requires.row in
    let past = c.loop-column.invariant.copied its.0 its.1 in
    let l : c.loop-column.column < length its.0.cells = omega (arith, c.loop-column.invariant.size its.0 its.1, c.loop-column-test.true) in
    let read = read_is M c.args.number c.add_row-copy.result its.0 held c.loop-column.column c.loop-column.rows past l (Piece c.in-Piece.piece)
    (c.cell.ensures.value ∙ ap Some c.in-Piece.is) in
    let head = head_found (rows_seen held.arena) c.args.number its.0 c.head.result c.unwrap-head.result c.head.ensures c.unwrap-head.ensures its.1 in
    let parts = parts_found M its.0 c.unwrap-head.result c.cut.result c.unwrap-before.result head c.unwrap-before.ensures c.cut.ensures.parts in
    let mid = c.loop-column.rows in
    let part = c.twin_of-twin.new.rows in
    is_twin M c.args.number c.add_row-copy.result its.0 held c.loop-column.column mid past l c.in-Piece.piece read part c.twin_of-twin.result
    (subst (λ (s : Ends). HasTwin mid.pieces part.pieces c.in-Piece.piece M s (part_after M its.0.span) c.twin_of-twin.result) parts.0
    (subst (λ (s : Ends). HasTwin mid.pieces part.pieces c.in-Piece.piece M c.unwrap-before.result.0 s c.twin_of-twin.result) parts.1
    c.twin_of-twin.ensures.twin)) c.twin_of-twin.ensures.arena

pub loop-column-preserved : goal.loop-column-preserved
loop-column-preserved g c =
    let held = c.args.rows.now in
    let M = to_z w64 (of_z w64 c.args.m) in
    let before = c.loop-column.invariant in
    let k = c.loop-column.column in
    let mid = c.loop-column.rows in
    elim c.match-cell.branch [
      | in-Const w ↦ record {
        size = before.size;
        copied = λ row is.
            let past = before.copied row is in
            let l : k < length row.cells = omega (arith, before.size row is, c.loop-column-test.true) in
            let read = read_is M c.args.number c.add_row-copy.result row held k mid past l (Const w.in-Const.constant)
            (c.cell.ensures.value ∙ ap Some w.in-Const.is) in
            subst (CopySoFar M c.args.number c.add_row-copy.result (k + 1) row held) (sym w.rows-is)
            (copy_const M c.args.number c.add_row-copy.result row held k mid past l w.in-Const.constant w.put.new.self read
            w.put.ensures.sets w.put.ensures.room w.put.ensures.pieces);
        steps = omega (arith, w.steps-is, w.put.ensures.step, c.cell.ensures.step, before.steps);
      }
      | in-Piece w ↦ record {
        size = before.size;
        copied = λ row is.
            let past = before.copied row is in
            let l : k < length row.cells = omega (arith, before.size row is, c.loop-column-test.true) in
            let read = read_is M c.args.number c.add_row-copy.result row held k mid past l (Piece w.in-Piece.piece)
            (c.cell.ensures.value ∙ ap Some w.in-Piece.is) in
            let head = head_found (rows_seen held.arena) c.args.number row c.head.result c.unwrap-head.result c.head.ensures c.unwrap-head.ensures is in
            let parts = parts_found M row c.unwrap-head.result c.cut.result c.unwrap-before.result head c.unwrap-before.ensures c.cut.ensures.parts in
            let part = w.twin_of-twin.new.rows in
            let has = subst (λ (s : Ends). HasTwin mid.pieces part.pieces w.in-Piece.piece M s (part_after M row.span) w.twin_of-twin.result) parts.0
            (subst (λ (s : Ends). HasTwin mid.pieces part.pieces w.in-Piece.piece M c.unwrap-before.result.0 s w.twin_of-twin.result) parts.1
            w.twin_of-twin.ensures.twin) in
            subst (CopySoFar M c.args.number c.add_row-copy.result (k + 1) row held) (sym w.rows-is)
            (copy_piece M c.args.number c.add_row-copy.result row held k mid past l w.in-Piece.piece read part w.twin_of-twin.result has
            w.twin_of-twin.ensures.arena w.hold.new.self w.twin_of-twin.ensures.room w.hold.ensures.sets w.hold.ensures.room w.hold.ensures.pieces);
        steps = omega (arith, w.steps-is, w.hold.ensures.steps, c.cell.ensures.step, before.steps);
      }
    ]

pub returns-clause-rows : goal.returns-clause-rows
returns-clause-rows g c =
    let held = c.args.rows.now in
    let new = c.loop-column.rows in
    let at = to_z-of_z w64 c.args.m c.ranges.m in
    let its = some_and (CanCutRow c.args.m held) (row_at (rows_seen held.arena) c.args.number) c.requires.row in
    let past = subst (λ (t : ℤ). CopySoFar t c.args.number c.add_row-copy.result c.loop-column.column its.0 held new) at
    (c.loop-column.invariant.copied its.0 its.1) in
    let all : c.loop-column.column ≡ length its.0.cells =
    omega (arith, c.loop-column-test.false, c.loop-column.auto.column-end, c.loop-column.invariant.size its.0 its.1) in
    and_some (λ (row : SeenRow). PartsRow (rows_seen held.arena) (rows_seen new.arena) c.args.number c.add_row-copy.result
    (part_before c.args.m row.span) (twin_row (twin_in new.pieces) (part_after c.args.m row.span) row))
    (row_at (rows_seen held.arena) c.args.number) its.0 its.1
    (parts_row c.args.m c.args.number c.add_row-copy.result its.0 held c.loop-column.column new past all its.1)

pub returns-clause-pieces : goal.returns-clause-pieces
returns-clause-pieces g c =
    let held = c.args.rows.now in
    let new = c.loop-column.rows in
    let at = to_z-of_z w64 c.args.m c.ranges.m in
    let its = some_and (CanCutRow c.args.m held) (row_at (rows_seen held.arena) c.args.number) c.requires.row in
    let past = subst (λ (t : ℤ). CopySoFar t c.args.number c.add_row-copy.result c.loop-column.column its.0 held new) at
    (c.loop-column.invariant.copied its.0 its.1) in
    let all : c.loop-column.column ≡ length its.0.cells =
    omega (arith, c.loop-column-test.false, c.loop-column.auto.column-end, c.loop-column.invariant.size its.0 its.1) in
    and_some (λ (row : SeenRow). CutsRow c.args.m row held.pieces new.pieces) (row_at (rows_seen held.arena) c.args.number) its.0 its.1
    (cuts_row c.args.m c.args.number c.add_row-copy.result its.0 held c.loop-column.column new past all)

pub returns-clause-row_room : goal.returns-clause-row_room
returns-clause-row_room g c =
    let held = c.args.rows.now in
    let its = some_and (CanCutRow c.args.m held) (row_at (rows_seen held.arena) c.args.number) c.requires.row in
    (c.loop-column.invariant.copied its.0 its.1).row_room

pub returns-clause-room : goal.returns-clause-room
returns-clause-room g c =
    let held = c.args.rows.now in
    let new = c.loop-column.rows in
    let its = some_and (CanCutRow c.args.m held) (row_at (rows_seen held.arena) c.args.number) c.requires.row in
    let past = c.loop-column.invariant.copied its.0 its.1 in
    let all : c.loop-column.column ≡ length its.0.cells =
    omega (arith, c.loop-column-test.false, c.loop-column.auto.column-end, c.loop-column.invariant.size its.0 its.1) in
    and_some (λ (row : SeenRow). (new.arena.spare_cells + length row.cells ≡ held.arena.spare_cells) × (held.room ≤ new.room + length row.cells))
    (row_at (rows_seen held.arena) c.args.number) its.0 its.1 (past.cell_room, omega (arith, past.room, all))

pub returns-clause-steps : goal.returns-clause-steps
returns-clause-steps g c =
    let held = c.args.rows.now in
    let its = some_and (CanCutRow c.args.m held) (row_at (rows_seen held.arena) c.args.number) c.requires.row in
    let all : c.loop-column.column ≡ length its.0.cells =
    omega (arith, c.loop-column-test.false, c.loop-column.auto.column-end, c.loop-column.invariant.size its.0 its.1) in
    and_some (λ (row : SeenRow). c.loop-column.steps ≤ c.args.steps.now + 3 * length row.cells)
    (row_at (rows_seen held.arena) c.args.number) its.0 its.1 (omega (arith, c.loop-column.invariant.steps, all))
