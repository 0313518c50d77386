-- Rows that are cut, one after another.
use Rattle.std.proofs.Common.{◌≡◌, ◌≢◌, ◌⊎◌, ℤ, ℕ, zero, suc, ◌+◌, ◌*◌, ◌<◌, ◌≤◌, Option, Some, None, List, [], ◌∷◌, ◌++◌, length, take, get_or, refl, sym, ap, ◌∙◌, subst, arith, ⊎_elim, Contains}
use Rattle.std.specs.Prelude.{slice_get, IsSomeAnd}
use Rattle.std.specs.Option.{option_map, option_map_or}
use Rattle.std.proofs.lemmas.List.{length_push, length-take-le}
use Rattle.std.proofs.Math.Seq.{take-suc}
use Rattle.std.proofs.lemmas.List.Elements.{Contains-append_left, Contains-push}
use Rattle.std.proofs.lemmas.List.Sums.{sum_by_push, sum_by-take-le}
use Rattle.std.proofs.lemmas.Option.{slice_get_within, slice_get-get_or}
use Rattle.time_line.specs.Span.{Ends, Has}
use Rattle.term_core.specs.declared.term.Seen.{Seen}
use Rattle.term_core.specs.declared.term.Seen.TheVariants.{Const, Piece}
use Rattle.fact_table.specs.Rows.{SeenRow, row_at}
use Rattle.null_store.specs.declared.piece.NamedPiece.{NamedPiece}
use Rattle.null_store.specs.Splits.{part_before, part_after, row_over, row_cells, cells_of}
use Rattle.null_store.specs.Lists.{rows_seen}
use Rattle.null_store.specs.Layout.{LinkedArena, PartsRow, IsCut, CutsRow, CanCutRow, CanCutFirst, CanCutAll, CutsOne, CutsAll, twin_in, twin_cell, twin_row}
use Rattle.null_store.proofs.ListLemmas.{some_and, and_some, same_some, holds_at, contains_from_at, at_from_contains, pushed_at}
use Rattle.null_store.proofs.ViewLemmas.{map_same}
use Rattle.null_store.proofs.SplitLemmas.{HasBeenCut, none_cut, cut_has_not, twin_stays}

-- what stands at a place of the first k stands there in the list, before place k
pub taken_at : (ns : List ℕ) (k j n : ℕ) → slice_get (take k ns) j ≡ Some n → (slice_get ns j ≡ Some n) × (j < k)
taken_at [] k j n e = absurd (none k e)
  where
    none : (i : ℕ) → ¬ (slice_get (take i []) j ≡ Some n)
    none zero h = cc
    none (suc i) h = cc
taken_at (x ∷ ns) zero j n e = absurd cc
taken_at (x ∷ ns) (suc k) zero n e = (e, omega arith)
taken_at (x ∷ ns) (suc k) (suc j) n e = let rest = taken_at ns k j n e in (rest.0, omega (arith, rest.1))

pub is_at : (ns : List ℕ) (n : ℕ) → Contains ns n → (k : ℕ) × (slice_get ns k ≡ Some n)
is_at ns n c = (c.0, at_from_contains ns n c.0 c.1 c.2)

-- there is an item at the same place of a list that is as long
pub beside : (ns cs : List ℕ) → length cs ≡ length ns → (k n : ℕ) → slice_get ns k ≡ Some n → (c : ℕ) × (slice_get cs k ≡ Some c)
beside ns cs size k n e = let within = slice_get_within ns k n e in (get_or cs k 0, slice_get-get_or cs k 0 (omega (arith, within, size)))

-- no row is cut yet
pub none_of_all : (m : ℤ) (held : LinkedArena) → CutsAll m [] [] held held
none_of_all m held = record {
  size = refl;
  once = λ j k n a b. absurd cc;
  each = λ k n c row a b is. absurd cc;
  others = λ n a b. refl;
  pieces = none_cut m held.pieces;
  uncut = λ p l none. refl;
  rows = omega arith;
  cells = omega arith;
  room = omega arith;
}

module _ (m : ℤ) (done made : List ℕ) (old mid : LinkedArena) (past : CutsAll m done made old mid) (n : ℕ) (row : SeenRow)
    (fresh : ¬ (Contains done n)) (is : row_at (rows_seen old.arena) n ≡ Some row) (can : CanCutFirst m old.pieces row)
    (there : (k : ℕ) → Contains done k → (r : SeenRow) × (row_at (rows_seen old.arena) k ≡ Some r)) where
  abbrev rows : List (Option SeenRow)
  rows = rows_seen old.arena

  abbrev halfway : List (Option SeenRow)
  halfway = rows_seen mid.arena

  -- the rows that are cut, and their copies, are there
  done_there : (j : ℕ) → Contains done j → (r : SeenRow) × (row_at halfway j ≡ Some r)
  done_there j c =
      let at = is_at done j c in
      let w = there j c in
      let copy = beside done made past.size at.0 j at.1 in
      (row_over (part_before m) w.0, (past.each at.0 j copy.0 w.0 at.1 copy.1 w.1).here)

  made_was : (j : ℕ) → Contains made j → (row_at rows j ≡ None) × ((r : SeenRow) × (row_at halfway j ≡ Some r))
  made_was j c =
      let at = is_at made j c in
      let number = beside made done (sym past.size) at.0 j at.1 in
      let w = there number.0 (contains_from_at done at.0 number.0 number.1) in
      let one = past.each at.0 number.0 j w.0 number.1 at.1 w.1 in
      (one.vacant, (twin_row (twin_in mid.pieces) (part_after m w.0.span) w.0, one.there))

  not_made : ¬ (Contains made n)
  not_made c = let was = (made_was n c).0 in let clash : None ≡ Some row = sym was ∙ is in cc

  -- the next row is as it was
  pub still : row_at halfway n ≡ Some row
  still = past.others n fresh not_made ∙ is

  within : (p : ℕ) → Contains row.cells (Piece p) → p < length old.pieces
  within p c =
      let q = some_and (λ (x : NamedPiece). x.span ≡ row.span) (slice_get old.pieces p) (can.over p c) in
      slice_get_within old.pieces p q.0 q.1

  -- and can be cut
  pub can_cut : length row.cells ≤ mid.room → length row.cells ≤ mid.arena.spare_cells → 0 < mid.arena.spare_rows → CanCutRow m mid row
  can_cut room cells more = record {
    inside = can.inside;
    pieces = λ p c.
        let q = some_and (λ (x : NamedPiece). x.span ≡ row.span) (slice_get old.pieces p) (can.over p c) in
        let now = some_and (λ (x : NamedPiece). (x ≡ q.0) ⊎ IsCut m old.pieces mid.pieces q.0 x) (slice_get mid.pieces p)
        (past.pieces.kept p q.0 q.1) in
        and_some (λ (x : NamedPiece). (Has x.span m → x.span ≡ row.span) × (¬ (Has x.span m) → x.twin < length mid.pieces))
        (slice_get mid.pieces p) now.0 now.1 (⊎_elim
        (λ (same : now.0 ≡ q.0).
        let span : now.0.span ≡ row.span = ap (λ (x : NamedPiece). x.span) same ∙ q.2 in
        (λ h. span, λ none. absurd (none (subst (λ (s : Ends). Has s m) (sym span) can.inside.0))))
        (λ (cut : IsCut m old.pieces mid.pieces q.0 now.0).
        (λ h. absurd (cut_has_not m old.pieces mid.pieces q.0 now.0 cut h), λ none. slice_get_within mid.pieces now.0.twin _ cut.second))
        now.2);
    rows = more;
    cells = cells;
    room = room;
  }

  module _ (new : LinkedArena) (copy : ℕ)
      (parts : PartsRow halfway (rows_seen new.arena) n copy (part_before m row.span) (twin_row (twin_in new.pieces) (part_after m row.span) row))
      (cuts : CutsRow m row mid.pieces new.pieces) where
    abbrev later : List (Option SeenRow)
    later = rows_seen new.arena

    -- the new number is another
    new_number : (j : ℕ) (r : SeenRow) → row_at halfway j ≡ Some r → j ≢ copy
    new_number j r e same = let clash : None ≡ Some r = sym parts.vacant ∙ sym (ap (row_at halfway) same) ∙ e in cc

    not_copied : ¬ (Contains done copy)
    not_copied c = let w = done_there copy c in new_number copy w.0 w.1 refl

    copy_fresh : ¬ (Contains made copy)
    copy_fresh c = let w = (made_was copy c).1 in new_number copy w.0 w.1 refl

    was_vacant : row_at rows copy ≡ None
    was_vacant = sym (past.others copy not_copied copy_fresh) ∙ parts.vacant

    stays : (j : ℕ) (r : SeenRow) → j ≢ n → row_at halfway j ≡ Some r → row_at later j ≡ Some r
    stays j r differ e = parts.others j differ (new_number j r e) ∙ e

    -- what was cut before stays so
    one_stays : (j c : ℕ) (r : SeenRow) → j ≢ n → c ≢ n → CutsOne m rows halfway mid.pieces j c r → CutsOne m rows later new.pieces j c r
    one_stays j c r a b one = record {
      here = stays j (row_over (part_before m) r) a one.here;
      vacant = one.vacant;
      there = stays c (twin_row (twin_in mid.pieces) (part_after m r.span) r) b one.there ∙ ap (λ l. Some (record {
        relation = r.relation;
        cells = l;
        span = part_after m r.span;
      })) (map_same (twin_cell (twin_in mid.pieces)) (twin_cell (twin_in new.pieces)) r.cells (λ k v e. twin_same v (contains_from_at r.cells k v e)));
      cut = λ p at.
          let q = some_and (HasBeenCut m mid.pieces) (slice_get mid.pieces p) (one.cut p at) in
          and_some (HasBeenCut m new.pieces) (slice_get new.pieces p) q.0 (cuts.kept p q.0 q.1 q.2.0)
          (q.2.0, (let less = q.2.1 in omega (arith, less, cuts.grows)));
    }
      where
        twin_same : (v : Seen) → Contains r.cells v → twin_cell (twin_in mid.pieces) v ≡ twin_cell (twin_in new.pieces) v
        twin_same (Const c) at = refl
        twin_same (Piece p) at = ap Piece (twin_stays m mid.pieces new.pieces p (one.cut p at) cuts.kept)

    one_new : CutsOne m rows later new.pieces n copy row
    one_new = record {
      here = parts.here ∙ ap (option_map (λ (r : SeenRow). record { relation = r.relation; cells = r.cells; span = part_before m row.span })) still;
      vacant = was_vacant;
      there = parts.copy;
      cut = cuts.cut;
    }

    not_that : (j : ℕ) → ¬ (Contains (done ++ n ∷ []) j) → (j ≢ n) × ¬ (Contains done j)
    not_that j none = (
      λ same. none (subst (Contains (done ++ n ∷ [])) (sym same) (Contains-push done n)),
      λ c. none (Contains-append_left done (n ∷ []) j c),
    )

    pub one_more_of_all : new.arena.spare_rows + 1 ≡ mid.arena.spare_rows
        → new.arena.spare_cells + length row.cells ≡ mid.arena.spare_cells → mid.room ≤ new.room + length row.cells
        → CutsAll m (done ++ n ∷ []) (made ++ copy ∷ []) old new
    one_more_of_all more_rows more_cells more_room =
        let long = length_push done n in
        let sum : cells_of rows (done ++ n ∷ []) ≡ cells_of rows done + length row.cells =
        sum_by_push (row_cells rows) done n ∙ ap (λ (o : Option SeenRow). cells_of rows done + option_map_or (λ r. length r.cells) o 0) is in
        record {
          size = omega (arith, past.size, long, length_push made copy);
          once = λ j k c a b. ⊎_elim
              (λ (x : slice_get made j ≡ Some c). ⊎_elim
              (λ (y : slice_get made k ≡ Some c). past.once j k c x y)
              (λ (y : (k ≡ length made) × (c ≡ copy)). absurd (copy_fresh (subst (Contains made) y.1 (contains_from_at made j c x))))
              (pushed_at made copy c k b))
              (λ (x : (j ≡ length made) × (c ≡ copy)). ⊎_elim
              (λ (y : slice_get made k ≡ Some c). absurd (copy_fresh (subst (Contains made) x.1 (contains_from_at made k c y))))
              (λ (y : (k ≡ length made) × (c ≡ copy)). x.0 ∙ sym y.0)
              (pushed_at made copy c k b))
              (pushed_at made copy c j a);
          each = λ k j c r a b e. ⊎_elim
              (λ (x : slice_get done k ≡ Some j). ⊎_elim
              (λ (y : slice_get made k ≡ Some c). one_stays j c r
              (λ same. fresh (subst (Contains done) same (contains_from_at done k j x)))
              (λ same. not_made (subst (Contains made) same (contains_from_at made k c y))) (past.each k j c r x y e))
              (λ (y : (k ≡ length made) × (c ≡ copy)).
              let w = slice_get_within done k j x in absurd (omega (arith, w, y.0, past.size)))
              (pushed_at made copy c k b))
              (λ (x : (k ≡ length done) × (j ≡ n)). ⊎_elim
              (λ (y : slice_get made k ≡ Some c).
              let w = slice_get_within made k c y in absurd (omega (arith, w, x.0, past.size)))
              (λ (y : (k ≡ length made) × (c ≡ copy)).
              let same = same_some (row_at rows n) row r is (sym (ap (row_at rows) x.1) ∙ e) in
              subst (λ i. CutsOne m rows later new.pieces i c r) (sym x.1)
              (subst (λ i. CutsOne m rows later new.pieces n i r) (sym y.1)
              (subst (CutsOne m rows later new.pieces n copy) same one_new)))
              (pushed_at made copy c k b))
              (pushed_at done n j k a);
          others = λ j a b.
              let x = not_that j a in
              parts.others j x.0 (λ same. b (subst (Contains (made ++ copy ∷ [])) (sym same) (Contains-push made copy)))
              ∙ past.others j x.1 (λ c. b (Contains-append_left made (copy ∷ []) j c));
          pieces = cuts.base old.pieces past.pieces within;
          uncut = λ p l none.
              cuts.others p (omega (arith, l, past.pieces.grows)) (none n row (Contains-push done n) is)
              ∙ past.uncut p l (λ j r c e. none j r (Contains-append_left done (n ∷ []) j c) e);
          rows = omega (arith, more_rows, past.rows, long);
          cells = omega (arith, more_cells, past.cells, sum);
          room = omega (arith, more_room, past.room, sum);
        }

-- the next of the rows
module _ (m : ℤ) (numbers made : List ℕ) (k n : ℕ) (old mid : LinkedArena) (can : CanCutAll m old numbers)
    (past : CutsAll m (take k numbers) made old mid) (its_place : slice_get numbers k ≡ Some n) where
  abbrev its_row : (row : SeenRow) × (row_at (rows_seen old.arena) n ≡ Some row) × CanCutFirst m old.pieces row
  its_row = some_and (CanCutFirst m old.pieces) (row_at (rows_seen old.arena) n)
      (can.each n (contains_from_at numbers k n its_place))

  inside : k < length numbers
  inside = slice_get_within numbers k n its_place

  is_fresh : ¬ (Contains (take k numbers) n)
  is_fresh c =
      let at = is_at (take k numbers) n c in
      let was = taken_at numbers k at.0 n at.1 in
      let same = can.once at.0 k n was.0 its_place in
      absurd (omega (arith, same, was.1))

  are_there : (j : ℕ) → Contains (take k numbers) j → (r : SeenRow) × (row_at (rows_seen old.arena) j ≡ Some r)
  are_there j c =
      let at = is_at (take k numbers) j c in
      let was = taken_at numbers k at.0 j at.1 in
      let r = some_and (CanCutFirst m old.pieces) (row_at (rows_seen old.arena) j) (can.each j (contains_from_at numbers at.0 j was.0)) in
      (r.0, r.1)

  next_is : take (k + 1) numbers ≡ take k numbers ++ n ∷ []
  next_is =
      let next : k + 1 ≡ suc k = omega arith in
      let is = same_some (slice_get numbers k) (get_or numbers k n) n (slice_get-get_or numbers k n inside) its_place in
      ap (λ j. take j numbers) next ∙ take-suc numbers k n inside ∙ ap (λ x. take k numbers ++ x ∷ []) is

  next_cells : cells_of (rows_seen old.arena) (take (k + 1) numbers) ≡ cells_of (rows_seen old.arena) (take k numbers) + length its_row.0.cells
  next_cells =
      ap (cells_of (rows_seen old.arena)) next_is ∙ sum_by_push (row_cells (rows_seen old.arena)) (take k numbers) n
      ∙ ap (λ (o : Option SeenRow). cells_of (rows_seen old.arena) (take k numbers) + option_map_or (λ r. length r.cells) o 0) its_row.1

  still_there : row_at (rows_seen mid.arena) n ≡ Some its_row.0
  still_there = still m (take k numbers) made old mid past n its_row.0 is_fresh its_row.1 its_row.2 are_there

  pub next_ready : IsSomeAnd (row_at (rows_seen mid.arena) n) (λ row. CanCutRow m mid row)
  next_ready =
      let most = sum_by-take-le (row_cells (rows_seen old.arena)) numbers (k + 1) in
      let size : length (take k numbers) ≡ k = length-take-le k numbers (omega (arith, inside)) in
      and_some (CanCutRow m mid) (row_at (rows_seen mid.arena) n) its_row.0 still_there
      (can_cut m (take k numbers) made old mid past n its_row.0 is_fresh its_row.1 its_row.2 are_there
      (omega (arith, most, next_cells, past.room, can.room))
      (omega (arith, most, next_cells, past.cells, can.cells))
      (omega (arith, past.rows, can.rows, size, inside)))

  module _ (new : LinkedArena) (copy : ℕ) where
    pub next_done : IsSomeAnd (row_at (rows_seen mid.arena) n) (λ row. PartsRow (rows_seen mid.arena) (rows_seen new.arena) n copy
        (part_before m row.span) (twin_row (twin_in new.pieces) (part_after m row.span) row))
        → IsSomeAnd (row_at (rows_seen mid.arena) n) (λ row. CutsRow m row mid.pieces new.pieces)
        → new.arena.spare_rows + 1 ≡ mid.arena.spare_rows
        → IsSomeAnd (row_at (rows_seen mid.arena) n) (λ row. (new.arena.spare_cells + length row.cells ≡ mid.arena.spare_cells)
        × (mid.room ≤ new.room + length row.cells))
        → CutsAll m (take (k + 1) numbers) (made ++ copy ∷ []) old new
    next_done parts cuts rows room =
        let there = holds_at (λ (row : SeenRow). (new.arena.spare_cells + length row.cells ≡ mid.arena.spare_cells)
        × (mid.room ≤ new.room + length row.cells)) (row_at (rows_seen mid.arena) n) its_row.0 still_there room in
        subst (λ ns. CutsAll m ns (made ++ copy ∷ []) old new) (sym next_is)
        (one_more_of_all m (take k numbers) made old mid past n its_row.0 is_fresh its_row.1 its_row.2 are_there new copy
        (holds_at (λ (row : SeenRow). PartsRow (rows_seen mid.arena) (rows_seen new.arena) n copy (part_before m row.span)
        (twin_row (twin_in new.pieces) (part_after m row.span) row)) (row_at (rows_seen mid.arena) n) its_row.0 still_there parts)
        (holds_at (λ (row : SeenRow). CutsRow m row mid.pieces new.pieces) (row_at (rows_seen mid.arena) n) its_row.0 still_there cuts)
        rows there.0 there.1)

    pub next_steps : (before after all : ℕ) → before ≤ all + 3 * cells_of (rows_seen old.arena) (take k numbers)
        → IsSomeAnd (row_at (rows_seen mid.arena) n) (λ row. after ≤ before + 3 * length row.cells)
        → after ≤ all + 3 * cells_of (rows_seen old.arena) (take (k + 1) numbers)
    next_steps before after all b h =
        let a = holds_at (λ (row : SeenRow). after ≤ before + 3 * length row.cells) (row_at (rows_seen mid.arena) n) its_row.0 still_there h in
        omega (arith, a, b, next_cells)
