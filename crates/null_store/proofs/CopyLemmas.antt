-- A row that is cut, while its copy is filled.
use Rattle.std.proofs.Common.{◌≡◌, ◌≢◌, ℤ, ℕ, zero, suc, ◌+◌, ◌<◌, ◌≤◌, Option, Some, None, List, length, take, refl, sym, ap, ◌∙◌, subst, arith}
use Rattle.std.specs.Prelude.{slice_get}
use Rattle.std.specs.Option.{IfSome, option_and_then, option_map}
use Rattle.std.proofs.lemmas.Option.{slice_get_within}
use Rattle.time_line.specs.Span.{Ends, AreParts}
use Rattle.term_core.specs.declared.const_id.ConstId.{ConstId}
use Rattle.term_core.specs.declared.term.Seen.{Seen}
use Rattle.term_core.specs.declared.term.Seen.TheVariants.{Const, Piece}
use Rattle.fact_table.specs.Rows.{SeenRow, row_at, HasCell, head_of, head_at, cell_at}
use Rattle.fact_table.specs.declared.fact.RowHead.{RowHead}
use Rattle.row_arena.specs.Arena.{Arena}
use Rattle.null_store.specs.declared.piece.NamedPiece.{NamedPiece}
use Rattle.null_store.specs.Splits.{part_before, part_after, row_over}
use Rattle.null_store.specs.Lists.{rows_seen}
use Rattle.null_store.specs.Layout.{LinkedArena, HasSameRoom, HasPlain, AddsOne, SetsCell, SetsRowSpan, HasTwin, PartsRow, CanCutRow, CutsRow, twin_in, twin_row}
use Rattle.null_store.proofs.ListLemmas.{some_and, and_some, same_some, contains_from_at}
use Rattle.null_store.proofs.RowLemmas.{blanks}
use Rattle.null_store.proofs.SplitLemmas.{CanBeCut, HalfCut, TakesTwin, none_half, half_const, half_piece, whole_cut, copy_so_far, twins_all, copy_plain, copy_fills, twin_stays}

-- the head that was found is that of the row
pub head_found : (rows : List (Option SeenRow)) (number : ℕ) (row : SeenRow) (found : Option RowHead) (head : RowHead)
    → found ≡ head_at rows number → found ≡ Some head → row_at rows number ≡ Some row → head ≡ head_of row
head_found rows number row found head e h is = same_some found head (head_of row) h (e ∙ ap (option_map head_of) is)

-- the spans that were found are the parts of the row's span
pub parts_found : (m : ℤ) (row : SeenRow) (head : RowHead) (found : Option (Ends × Ends)) (parts : Ends × Ends) → head ≡ head_of row
    → found ≡ Some parts → IfSome found (λ (p : Ends × Ends). AreParts head.span p.0 p.1 m)
    → (parts.0 ≡ part_before m row.span) × (parts.1 ≡ part_after m row.span)
parts_found m row head found parts e h are =
    let its = subst (λ o. IfSome o (λ (p : Ends × Ends). AreParts head.span p.0 p.1 m)) h are in (
      its.first_ends ∙ ap (λ (w : RowHead). part_before m w.span) e,
      its.second_ends ∙ ap (λ (w : RowHead). part_after m w.span) e,
    )

-- constants for all columns are not too few
pub blanks_long : (m n : ℕ) → n ≤ m → n ≡ length (take n (blanks m))
blanks_long m zero l = refl
blanks_long zero (suc n) l = absurd (omega (arith, l))
blanks_long (suc m) (suc n) l = ap suc (blanks_long m n (omega (arith, l)))

-- the row has the part of its span before the instant, and the first k cells of its copy are there
pub record CopySoFar (m : ℤ) (number copy k : ℕ) (row : SeenRow) (old new : LinkedArena) : Type 0 where
  pub here : row_at (rows_seen new.arena) number ≡ Some (row_over (part_before m) row)
  pub there : row_at (rows_seen new.arena) copy ≡ Some (copy_so_far (twin_in new.pieces) (part_after m row.span) k row)
  pub vacant : row_at (rows_seen old.arena) copy ≡ None
  pub differ : number ≢ copy
  pub others : (n : ℕ) → n ≢ number → n ≢ copy → row_at (rows_seen new.arena) n ≡ row_at (rows_seen old.arena) n
  pub pieces : HalfCut m row k old.pieces new.pieces
  pub row_room : new.arena.spare_rows + 1 ≡ old.arena.spare_rows
  pub cell_room : new.arena.spare_cells + length row.cells ≡ old.arena.spare_cells
  pub room : old.room ≤ new.room + k

module _ (m : ℤ) (number copy : ℕ) (row : SeenRow) (old : LinkedArena) where
  -- no cell is there yet
  pub copy_begins : (mid new : LinkedArena) (values : List Seen) (span : Ends) → row_at (rows_seen old.arena) number ≡ Some row
      → CanCutRow m old row → SetsRowSpan (rows_seen old.arena) (rows_seen mid.arena) number (part_before m row.span)
      → HasSameRoom old mid → mid.pieces ≡ old.pieces
      → AddsOne (rows_seen mid.arena) (rows_seen new.arena) copy (record { relation = row.relation; cells = values; span = part_after m row.span })
      → ((twin : ℕ → ℕ) → values ≡ (copy_so_far twin span zero row).cells)
      → new.arena.spare_rows + 1 ≡ mid.arena.spare_rows → new.arena.spare_cells + length row.cells ≡ mid.arena.spare_cells
      → new.pieces ≡ mid.pieces → new.room ≡ mid.room → CopySoFar m number copy zero row old new
  copy_begins mid new values span is can sets same kept adds blank rows cells pieces room =
      let whole = pieces ∙ kept in
      let over : row_at (rows_seen mid.arena) number ≡ Some (row_over (part_before m) row) =
      sets.here ∙ ap (option_map (λ (r : SeenRow). record { relation = r.relation; cells = r.cells; span = part_before m row.span })) is in
      let differ : number ≢ copy = λ same.
      let clash : None ≡ Some (row_over (part_before m) row) = sym adds.vacant ∙ sym (ap (row_at (rows_seen mid.arena)) same) ∙ over in cc in
      record {
        here = adds.others number differ ∙ over;
        there = adds.here
            ∙ (λ i. Some (record { relation = row.relation; cells = blank (twin_in new.pieces) i; span = part_after m row.span }));
        vacant = sym (sets.others copy (λ same. differ (sym same))) ∙ adds.vacant;
        differ = differ;
        others = λ n a b. adds.others n b ∙ sets.others n a;
        pieces = subst (HalfCut m row zero old.pieces) (sym whole) (none_half m row old.pieces can.pieces);
        row_room = omega (arith, rows, same.rows);
        cell_room = omega (arith, cells, same.cells);
        room = omega (arith, room, same.pieces);
      }

  module _ (k : ℕ) (mid : LinkedArena) (past : CopySoFar m number copy k row old mid) (l : k < length row.cells) where
    -- a cell of the row can be read, and one of the copy written
    pub can_read : HasCell (rows_seen mid.arena) number k
    can_read = and_some (λ (r : SeenRow). k < length r.cells) (row_at (rows_seen mid.arena) number) (row_over (part_before m) row) past.here l

    pub read_is : (v : Seen) → cell_at (rows_seen mid.arena) number k ≡ Some v → slice_get row.cells k ≡ Some v
    read_is v e = sym (ap (option_and_then (λ (r : SeenRow). slice_get r.cells k)) past.here) ∙ e

    pub can_write : HasPlain (rows_seen mid.arena) copy k
    can_write = copy_plain row (part_after m row.span) (twin_in mid.pieces) (rows_seen mid.arena) copy k past.there l

    -- a constant is written
    pub copy_const : (c : ConstId) (now : LinkedArena) → slice_get row.cells k ≡ Some (Const c)
        → SetsCell (rows_seen mid.arena) (rows_seen now.arena) copy k (Const c) → HasSameRoom mid now → now.pieces ≡ mid.pieces
        → CopySoFar m number copy (k + 1) row old now
    copy_const c now at sets same kept =
        record {
          here = sets.others number past.differ ∙ past.here;
          there = subst (λ (ps : List NamedPiece). row_at (rows_seen now.arena) copy
              ≡ Some (copy_so_far (twin_in ps) (part_after m row.span) (k + 1) row)) (sym kept)
              (copy_fills row (part_after m row.span) (twin_in mid.pieces) (twin_in mid.pieces) k (λ j p b e. refl) (Const c) (Const c) at refl
              (rows_seen mid.arena) (rows_seen now.arena) copy past.there sets);
          vacant = past.vacant;
          differ = past.differ;
          others = λ n a b. sets.others n b ∙ past.others n a b;
          pieces = subst (HalfCut m row (k + 1) old.pieces) (sym kept) (half_const m row k old.pieces mid.pieces past.pieces (Const c) at tt);
          row_room = omega (arith, same.rows, past.row_room);
          cell_room = omega (arith, same.cells, past.cell_room);
          room = omega (arith, same.pieces, past.room);
        }

    -- the piece of the next cell can be cut
    module _ (p : ℕ) (at : slice_get row.cells k ≡ Some (Piece p)) where
      pub is_piece : p < length mid.pieces
      is_piece =
          let q = some_and (CanBeCut m row mid.pieces) (slice_get mid.pieces p) (past.pieces.ready p (contains_from_at row.cells k (Piece p) at)) in
          slice_get_within mid.pieces p q.0 q.1

      pub has_room : length row.cells ≤ old.room → 0 < mid.room
      has_room h = omega (arith, h, past.room, l)

      -- its twin is written
      module _ (part : LinkedArena) (twin : ℕ)
          (has : HasTwin mid.pieces part.pieces p m (part_before m row.span) (part_after m row.span) twin)
          (arena : part.arena ≡ mid.arena) where
        takes : TakesTwin m row k old.pieces mid.pieces part.pieces p twin
        takes = half_piece m row k old.pieces mid.pieces past.pieces p at part.pieces twin has

        pub is_twin : twin < length part.pieces
        is_twin = takes.less

        pub can_hold : HasPlain (rows_seen part.arena) copy k
        can_hold = subst (λ (a : Arena). HasPlain (rows_seen a) copy k) (sym arena) can_write

        pub copy_piece : (now : LinkedArena) → mid.room ≤ part.room + 1
            → SetsCell (rows_seen part.arena) (rows_seen now.arena) copy k (Piece twin) → HasSameRoom part now → now.pieces ≡ part.pieces
            → CopySoFar m number copy (k + 1) row old now
        copy_piece now more sets same kept =
            let put = subst (λ (a : Arena). SetsCell (rows_seen a) (rows_seen now.arena) copy k (Piece twin)) arena sets in
            let alike : (j q : ℕ) → j < k → slice_get row.cells j ≡ Some (Piece q) → twin_in mid.pieces q ≡ twin_in part.pieces q =
            λ j q b e. twin_stays m mid.pieces part.pieces q (past.pieces.cut j q b e) takes.kept in
            record {
              here = put.others number past.differ ∙ past.here;
              there = subst (λ (ps : List NamedPiece). row_at (rows_seen now.arena) copy
                  ≡ Some (copy_so_far (twin_in ps) (part_after m row.span) (k + 1) row)) (sym kept)
                  (copy_fills row (part_after m row.span) (twin_in mid.pieces) (twin_in part.pieces) k alike (Piece p) (Piece twin) at
                  (ap Piece (sym takes.is)) (rows_seen mid.arena) (rows_seen now.arena) copy past.there put);
              vacant = past.vacant;
              differ = past.differ;
              others = λ n a b. put.others n b ∙ past.others n a b;
              pieces = subst (HalfCut m row (k + 1) old.pieces) (sym kept) takes.half;
              row_room = omega (arith, same.rows, ap (λ (a : Arena). a.spare_rows) arena, past.row_room);
              cell_room = omega (arith, same.cells, ap (λ (a : Arena). a.spare_cells) arena, past.cell_room);
              room = omega (arith, same.pieces, more, past.room);
            }

  -- all cells are there
  module _ (k : ℕ) (new : LinkedArena) (past : CopySoFar m number copy k row old new) (all : k ≡ length row.cells) where
    pub parts_row : row_at (rows_seen old.arena) number ≡ Some row → PartsRow (rows_seen old.arena) (rows_seen new.arena) number copy
        (part_before m row.span) (twin_row (twin_in new.pieces) (part_after m row.span) row)
    parts_row is = record {
      here = past.here
          ∙ sym (ap (option_map (λ (r : SeenRow). record { relation = r.relation; cells = r.cells; span = part_before m row.span })) is);
      vacant = past.vacant;
      copy = past.there ∙ ap (λ n. Some (copy_so_far (twin_in new.pieces) (part_after m row.span) n row)) all
          ∙ ap (λ l. Some (record { relation = row.relation; cells = l; span = part_after m row.span })) (twins_all (twin_in new.pieces) row.cells);
      others = past.others;
    }

    pub cuts_row : CutsRow m row old.pieces new.pieces
    cuts_row = whole_cut m row k old.pieces new.pieces (omega (arith, all)) past.pieces
