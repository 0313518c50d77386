-- A store whose rows are cut, each with all rows that share a piece with it.
use Rattle.std.proofs.Common.{◌≡◌, ◌≢◌, ◌⊎◌, inl, inr, ℤ, ℕ, ◌<◌, ◌≤◌, if◌then◌else◌, Bool, true, false, Option, Some, None, List, length, map, get_or, refl, sym, ap, ◌∙◌, subst, arith, ⊎_elim, All, Contains}
use Rattle.std.specs.Prelude.{slice_get, IsSomeAnd}
use Rattle.std.specs.Option.{option_and_then, option_map, option_map_or}
use Rattle.std.proofs.lemmas.Bool.{cases_lt, cases_eq}
use Rattle.std.proofs.lemmas.Int.{ints}
use Rattle.std.proofs.lemmas.List.Elements.{All-weaker, All-map, All-contains, All-contains_itself}
use Rattle.std.proofs.lemmas.Option.{slice_get-map, slice_get_within, slice_get_past, slice_get-get_or}
use Rattle.time_line.specs.Span.{Ends, IsFrom, IsBefore, Has, IsInside, AreApart}
use Rattle.term_core.specs.declared.term.Seen.{Seen}
use Rattle.term_core.specs.declared.term.Seen.TheVariants.{Const, Piece}
use Rattle.rule_core.specs.Terms.{numbered, unknown}
use Rattle.rule_core.specs.Values.{unknown_value}
use Rattle.fact_table.specs.Rows.{SeenRow, row_at}
use Rattle.null_store.specs.declared.piece.NamedPiece.{NamedPiece}
use Rattle.null_store.specs.Store.{NameOf, PieceOf, Store, piece_at, term_in, fact_in, IsLiveOver, HoldsPiece}
use Rattle.null_store.specs.Splits.{part_before, part_after, row_over, piece_over, fact_over, HasPiece, CanSplit, SplitsRows, SplitsPieces, UsesRoomOf}
use Rattle.null_store.specs.Lists.{rows_seen}
use Rattle.null_store.specs.Layout.{LinkedArena, with_name, piece_of, store_of, IsSound, cut_off, IsCut, CanCutFirst, CanCutAll, CutsOne, CutsAll, twin_in, twin_cell, twin_row}
use Rattle.null_store.proofs.ListLemmas.{some_and, and_some, same_some, holds_at, contains_from_at, contains_map, map_map}
use Rattle.null_store.proofs.OccurrenceLemmas.{from_map}
use Rattle.null_store.proofs.ViewLemmas.{map_same}
use Rattle.null_store.proofs.SplitLemmas.{HasBeenCut, cut_has_not}
use Rattle.null_store.proofs.CutLemmas.{is_at, beside}
use Rattle.null_store.proofs.PlaceLemmas.{listed_or_not}

-- the instants of a part
pub before_within : (m t : ℤ) (s : Ends) → Has s m → Has (part_before m s) t → Has s t
before_within m t s at h = (h.0, by s.hi at.1)
  where
    by : (hi : Option ℤ) → IsBefore hi m → IsBefore hi t
    by None k = tt
    by (Some hi) k = let early = h.1 in omega (arith, ints, k, early)

pub after_within : (m t : ℤ) (s : Ends) → Has s m → Has (part_after m s) t → Has s t
after_within m t s at h = (by s.lo at.0, h.1)
  where
    by : (lo : Option ℤ) → IsFrom lo m → IsFrom lo t
    by None k = tt
    by (Some lo) k = let late = h.0 in omega (arith, ints, k, late)

pub parts_apart : (m t : ℤ) (s : Ends) → Has (part_before m s) t → ¬ (Has (part_after m s) t)
parts_apart m t s a b = let early = a.1 in let late = b.0 in absurd (omega (arith, ints, early, late))

-- what stands there, and what it leads to
from_and_then : {X Y : Type 0} (f : X → Option Y) (o : Option X) (y : Y) → option_and_then f o ≡ Some y → (x : X) × (o ≡ Some x) × (f x ≡ Some y)
from_and_then f None y e = absurd cc
from_and_then f (Some x) y e = (x, refl, e)

-- a piece as callers see it, over another span
module _ (names : List NameOf) where
  seen_as : (o : Option NamedPiece) → option_and_then (λ (p : Option PieceOf). p) (option_map (piece_of names) o) ≡ option_and_then (piece_of names) o
  seen_as None = refl
  seen_as (Some q) = refl

  pub seen_piece : (held : LinkedArena) (p : ℕ) → piece_at (store_of held names) p ≡ option_and_then (piece_of names) (slice_get held.pieces p)
  seen_piece held p =
      ap (option_and_then (λ (o : Option PieceOf). o)) (slice_get-map (piece_of names) held.pieces p) ∙ seen_as (slice_get held.pieces p)

  named_over : (part : Ends → Ends) (q : NamedPiece) (twin : ℕ) (b : Bool) (o : Option NameOf)
      → (if b then option_map (with_name (record { name = q.name; var = q.var; span = part q.span; live = q.live; twin = twin })) o else None)
      ≡ option_map (piece_over part) (if b then option_map (with_name q) o else None)
  named_over part q twin true None = refl
  named_over part q twin true (Some n) = refl
  named_over part q twin false o = refl

  piece_of-over : (part : Ends → Ends) (q : NamedPiece) (twin : ℕ)
      → piece_of names (record { name = q.name; var = q.var; span = part q.span; live = q.live; twin = twin }) ≡ option_map (piece_over part) (piece_of names q)
  piece_of-over part q twin = named_over part q twin q.live (slice_get names q.name)

  its_span : (q : NamedPiece) (its : PieceOf) → piece_of names q ≡ Some its → q.span ≡ its.span
  its_span q its e = by q.live (slice_get names q.name) e
    where
      by : (b : Bool) (o : Option NameOf) → (if b then option_map (with_name q) o else None) ≡ Some its → q.span ≡ its.span
      by true None h = absurd cc
      by true (Some n) h = let same : with_name q n ≡ its = cc in ap (λ (p : PieceOf). p.span) same
      by false o h = absurd cc

  -- a live piece as it is laid out
  pub laid_out : (held : LinkedArena) (p : ℕ) (its : PieceOf) → piece_at (store_of held names) p ≡ Some its
      → (q : NamedPiece) × (slice_get held.pieces p ≡ Some q) × (piece_of names q ≡ Some its) × (q.span ≡ its.span)
  laid_out held p its e =
      let q = from_and_then (piece_of names) (slice_get held.pieces p) its (sym (seen_piece held p) ∙ e) in
      (q.0, q.1, q.2, its_span q.0 its q.2)

-- rows of a sound store can be cut
module _ (held : LinkedArena) (names : List NameOf) (m : ℤ) (numbers : List ℕ) (sound : IsSound held names)
    (can : CanSplit (store_of held names) numbers m) where
  pub row_inside : (n : ℕ) → Contains numbers n → (row : SeenRow) × (row_at (rows_seen held.arena) n ≡ Some row) × IsInside row.span m
  row_inside n c = some_and (λ (row : SeenRow). IsInside row.span m) (row_at (rows_seen held.arena) n)
      (All-contains (λ k. IsSomeAnd (row_at (rows_seen held.arena) k) (λ row. IsInside row.span m)) numbers n can.inside c)

  live_at : (n : ℕ) (row : SeenRow) → row_at (rows_seen held.arena) n ≡ Some row → (p : ℕ) → Contains row.cells (Piece p)
      → (its : PieceOf) × (piece_at (store_of held names) p ≡ Some its) × (its.span ≡ row.span)
  live_at n row e p c = some_and (λ (its : PieceOf). its.span ≡ row.span) (piece_at (store_of held names) p)
      (All-contains (IsLiveOver (store_of held names) row.span) row.cells (Piece p) (sound.store.live n row e) c)

  pub can_cut_all : CanCutAll m held numbers
  can_cut_all = record {
    limit = can.limit;
    once = can.once;
    each = λ n c.
        let row = row_inside n c in
        and_some (CanCutFirst m held.pieces) (row_at (rows_seen held.arena) n) row.0 row.1 (record {
          inside = row.2;
          over = λ p at.
              let its = live_at n row.0 row.1 p at in
              let q = laid_out names held p its.0 its.1 in
              and_some (λ (x : NamedPiece). x.span ≡ row.0.span) (slice_get held.pieces p) q.0 q.1 (q.3 ∙ its.2);
        });
    rows = can.room.rows;
    cells = can.room.cells;
    room = can.room.pieces;
  }

  module _ (made : List ℕ) (after : LinkedArena) (cuts : CutsAll m numbers made held after) where
    abbrev pub old : Store
    old = store_of held names

    abbrev pub new : Store
    new = store_of after names

    abbrev rows : List (Option SeenRow)
    rows = rows_seen held.arena

    abbrev later : List (Option SeenRow)
    later = rows_seen after.arena

    abbrev twin : ℕ → ℕ
    twin = twin_in after.pieces

    -- the row at a place of the list, its copy, and what became of both
    pub its_cut : (k n : ℕ) → slice_get numbers k ≡ Some n
        → (row : SeenRow) × (copy : ℕ) × (row_at rows n ≡ Some row) × IsInside row.span m × (slice_get made k ≡ Some copy)
        × CutsOne m rows later after.pieces n copy row
    its_cut k n e =
        let row = row_inside n (contains_from_at numbers k n e) in
        let copy = beside numbers made cuts.size k n e in
        (row.0, copy.0, row.1, row.2, copy.1, cuts.each k n copy.0 row.0 e copy.1 row.1)

    -- a number of a copy had no row
    pub made_vacant : (n : ℕ) → Contains made n → row_at rows n ≡ None
    made_vacant n c =
        let at = is_at made n c in
        let number = beside made numbers (sym cuts.size) at.0 n at.1 in
        let row = row_inside number.0 (contains_from_at numbers at.0 number.0 number.1) in
        (cuts.each at.0 number.0 n row.0 number.1 at.1 row.1).vacant

    pub other_row : (n : ℕ) (row : SeenRow) → ¬ (Contains numbers n) → row_at rows n ≡ Some row → row_at later n ≡ Some row
    other_row n row none e =
        cuts.others n none (λ c. let clash : None ≡ Some row = sym (made_vacant n c) ∙ e in cc) ∙ e

    -- a piece that is cut, as callers see it
    pub record IsParted (p : ℕ) (its : PieceOf) : Type 0 where
      pub here : piece_at new p ≡ Some (piece_over (part_before m) its)
      pub vacant : piece_at old (twin p) ≡ None
      pub there : piece_at new (twin p) ≡ Some (piece_over (part_after m) its)

    cut_seen : (p : ℕ) (its : PieceOf) (was now : NamedPiece) → piece_of names was ≡ Some its → slice_get after.pieces p ≡ Some now
        → IsCut m held.pieces after.pieces was now → IsParted p its
    cut_seen p its was now e at cut =
        let number : twin p ≡ now.twin = ap (λ (o : Option NamedPiece). option_map_or (λ x. x.twin) o 0) at in
        record {
          here = seen_piece names after p ∙ ap (option_and_then (piece_of names)) at ∙ ap (piece_of names) cut.first
              ∙ piece_of-over names (part_before m) was now.twin ∙ ap (option_map (piece_over (part_before m))) e;
          vacant = ap (piece_at old) number ∙ seen_piece names held now.twin
              ∙ ap (option_and_then (piece_of names)) (slice_get_past held.pieces now.twin cut.new_twin);
          there = ap (piece_at new) number ∙ seen_piece names after now.twin ∙ ap (option_and_then (piece_of names)) cut.second
              ∙ piece_of-over names (part_after m) was 0 ∙ ap (option_map (piece_over (part_after m))) e;
        }

    -- each piece of a row that is cut
    pub listed_piece : (k n : ℕ) (row : SeenRow) → slice_get numbers k ≡ Some n → row_at rows n ≡ Some row → (p : ℕ)
        → Contains row.cells (Piece p) → (its : PieceOf) × (piece_at old p ≡ Some its) × (its.span ≡ row.span) × IsParted p its
    listed_piece k n row e is p c =
        let one = its_cut k n e in
        let same = same_some (row_at rows n) row one.0 is one.2 in
        let its = live_at n row is p c in
        let q = laid_out names held p its.0 its.1 in
        let now = some_and (λ (x : NamedPiece). (x ≡ q.0) ⊎ IsCut m held.pieces after.pieces q.0 x) (slice_get after.pieces p)
        (cuts.pieces.kept p q.0 q.1) in
        let cut = holds_at (HasBeenCut m after.pieces) (slice_get after.pieces p) now.0 now.1
        (one.5.cut p (subst (λ (r : SeenRow). Contains r.cells (Piece p)) same c)) in (
          its.0,
          its.1,
          its.2,
          ⊎_elim
              (λ (kept : now.0 ≡ q.0).
              let span : now.0.span ≡ one.0.span = ap (λ (x : NamedPiece). x.span) kept ∙ q.3 ∙ its.2 ∙ ap (λ (r : SeenRow). r.span) same in
              absurd (cut.0 (subst (λ (s : Ends). Has s m) (sym span) one.3.0)))
              (λ (parted : IsCut m held.pieces after.pieces q.0 now.0). cut_seen p its.0 q.0 now.0 q.2 now.1 parted)
              now.2,
        )

    -- a piece that no such row holds stays
    pub other_piece : (p : ℕ) (its : PieceOf) → piece_at old p ≡ Some its → ((n : ℕ) → Contains numbers n → ¬ (HasPiece old n p))
        → piece_at new p ≡ Some its
    other_piece p its e none =
        let q = laid_out names held p its e in
        let same = cuts.uncut p (slice_get_within held.pieces p q.0 q.1) (λ n row c is at.
        none n c (and_some (λ (r : SeenRow). Contains r.cells (Piece p)) (row_at rows n) row is at)) in
        seen_piece names after p ∙ ap (option_and_then (piece_of names)) same ∙ sym (seen_piece names held p) ∙ e

    -- and so does each piece of another row
    not_shared : (n : ℕ) (row : SeenRow) → ¬ (Contains numbers n) → row_at rows n ≡ Some row → (p : ℕ) → Contains row.cells (Piece p)
        → (k : ℕ) → Contains numbers k → ¬ (HasPiece old k p)
    not_shared n row none e p c k at h =
        none (can.sharers k n at (p, h, and_some (λ (r : SeenRow). Contains r.cells (Piece p)) (row_at rows n) row e c))

    pub shared_nowhere : (n : ℕ) (row : SeenRow) → ¬ (Contains numbers n) → row_at rows n ≡ Some row → (p : ℕ) → Contains row.cells (Piece p)
        → (its : PieceOf) × (piece_at old p ≡ Some its) × (its.span ≡ row.span) × (piece_at new p ≡ Some its)
    shared_nowhere n row none e p c =
        let its = live_at n row e p c in
        (its.0, its.1, its.2, other_piece p its.0 its.1 (not_shared n row none e p c))

    -- a row that holds a piece that is cut is cut
    cut_listed : (p : ℕ) (was now : NamedPiece) → slice_get held.pieces p ≡ Some was → slice_get after.pieces p ≡ Some now
        → IsCut m held.pieces after.pieces was now → (n : ℕ) (row : SeenRow) → row_at rows n ≡ Some row → Contains row.cells (Piece p)
        → (k : ℕ) × (slice_get numbers k ≡ Some n)
    cut_listed p was now a b cut n row e c = ⊎_elim
        (λ (h : (k : ℕ) × (slice_get numbers k ≡ Some n)). h)
        (λ (none : ¬ (Contains numbers n)).
        let same = cuts.uncut p (slice_get_within held.pieces p was a) (λ k r at is d. not_shared n row none e p c k at
        (and_some (λ (x : SeenRow). Contains x.cells (Piece p)) (row_at rows k) r is d)) in
        let stays = same_some (slice_get after.pieces p) now was b (same ∙ a) in
        absurd (cut_has_not m held.pieces after.pieces was now cut (subst (λ (x : NamedPiece). Has x.span m) (sym stays) cut.has)))
        (listed_or_not numbers n)

    -- a live piece is told by one that was live, of the same unknown, over no other instants
    record IsTwin (p : ℕ) (its : PieceOf) (q : ℕ) (now : PieceOf) : Type 0 where
      pub number : twin p ≡ q
      pub parted : IsParted p its
      pub span : now.span ≡ part_after m its.span
      pub listed : (n : ℕ) (row : SeenRow) → row_at rows n ≡ Some row → Contains row.cells (Piece p) → (k : ℕ) × (slice_get numbers k ≡ Some n)

    record Origin (q : ℕ) (now : PieceOf) : Type 0 where
      pub p : ℕ
      pub its : PieceOf
      pub was : piece_at old p ≡ Some its
      pub unknown : now.unknown ≡ its.unknown
      pub within : (t : ℤ) → Has now.span t → Has its.span t
      pub side : (p ≡ q) ⊎ IsTwin p its q now

    -- a piece with a part of another's span
    of_part : (part : Ends → Ends) (was : NamedPiece) (number : ℕ) (now : PieceOf)
        → piece_of names (record { name = was.name; var = was.var; span = part was.span; live = was.live; twin = number }) ≡ Some now
        → (its : PieceOf) × (piece_of names was ≡ Some its) × (piece_over part its ≡ now)
    of_part part was number now e =
        from_map (piece_over part) (piece_of names was) now (sym (piece_of-over names part was number) ∙ e)

    -- the instant is in what was cut
    had : (was : NamedPiece) (its : PieceOf) → piece_of names was ≡ Some its → Has was.span m → Has its.span m
    had was its e h = subst (λ (s : Ends). Has s m) (its_span names was its e) h

    origin : (q : ℕ) (now : PieceOf) → piece_at new q ≡ Some now → Origin q now
    origin q now e =
        let x = laid_out names after q now e in ⊎_elim
        (λ (l : q < length held.pieces).
        let at = slice_get-get_or held.pieces q x.0 l in
        let was = get_or held.pieces q x.0 in
        let kept = some_and (λ (y : NamedPiece). (y ≡ was) ⊎ IsCut m held.pieces after.pieces was y) (slice_get after.pieces q)
        (cuts.pieces.kept q was at) in
        let same = same_some (slice_get after.pieces q) kept.0 x.0 kept.1 x.1 in ⊎_elim
        (λ (k : kept.0 ≡ was). record {
          p = q;
          its = now;
          was = seen_piece names held q ∙ ap (option_and_then (piece_of names)) at ∙ ap (piece_of names) (sym k ∙ same) ∙ x.2;
          unknown = refl;
          within = λ t h. h;
          side = inl refl;
        })
        (λ (cut : IsCut m held.pieces after.pieces was kept.0).
        let its = of_part (part_before m) was kept.0.twin now (sym (ap (piece_of names) cut.first) ∙ ap (piece_of names) same ∙ x.2) in
        let at_m = had was its.0 its.1 cut.has in
        record {
          p = q;
          its = its.0;
          was = seen_piece names held q ∙ ap (option_and_then (piece_of names)) at ∙ its.1;
          unknown = sym (ap (λ (y : PieceOf). y.unknown) its.2);
          within = λ t h. before_within m t its.0.span at_m (subst (λ (y : PieceOf). Has y.span t) (sym its.2) h);
          side = inl refl;
        })
        kept.2)
        (λ (g : length held.pieces ≤ q).
        let by = cuts.pieces.added q x.0 g x.1 in
        let cut = by.5 in
        let whole = same_some (slice_get after.pieces q) (cut_off (part_after m by.1.span) by.1) x.0 (sym (ap (slice_get after.pieces) by.6) ∙ cut.second)
        x.1 in
        let its = of_part (part_after m) by.1 0 now (ap (piece_of names) whole ∙ x.2) in
        let at_m = had by.1 its.0 its.1 cut.has in
        record {
          p = by.0;
          its = its.0;
          was = seen_piece names held by.0 ∙ ap (option_and_then (piece_of names)) by.3 ∙ its.1;
          unknown = sym (ap (λ (y : PieceOf). y.unknown) its.2);
          within = λ t h. after_within m t its.0.span at_m (subst (λ (y : PieceOf). Has y.span t) (sym its.2) h);
          side = inr (record {
            number = ap (λ (o : Option NamedPiece). option_map_or (λ y. y.twin) o 0) by.4 ∙ by.6;
            parted = cut_seen by.0 its.0 by.1 by.2 its.1 by.4 cut;
            span = sym (ap (λ (y : PieceOf). y.span) its.2);
            listed = cut_listed by.0 by.1 by.2 by.3 by.4 cut;
          });
        })
        (cases_lt q (length held.pieces))

    -- the parts of one piece
    own_and_twin : (a b : PieceOf) (p i j : ℕ) (its : PieceOf) → p ≡ i → piece_at new i ≡ Some a → IsTwin p its j b → AreApart a.span b.span
    own_and_twin a b p i j its e x w t h k =
        let first = same_some (piece_at new i) a (piece_over (part_before m) its) x (sym (ap (piece_at new) e) ∙ w.parted.here) in
        parts_apart m t its.span (subst (λ (y : PieceOf). Has y.span t) first h) (subst (λ (s : Ends). Has s t) w.span k)

    new_apart : (i j : ℕ) (a b : PieceOf) → piece_at new i ≡ Some a → piece_at new j ≡ Some b → a.unknown ≡ b.unknown → i ≢ j
        → AreApart a.span b.span
    new_apart i j a b x y e differ =
        let o = origin i a x in
        let w = origin j b y in ⊎_elim
        (λ (same : o.p ≡ w.p).
        let its = same_some (piece_at old w.p) o.its w.its (sym (ap (piece_at old) same) ∙ o.was) w.was in ⊎_elim
        (λ (own : o.p ≡ i). ⊎_elim
        (λ (other : w.p ≡ j). absurd (differ (sym own ∙ same ∙ other)))
        (λ (h : IsTwin w.p w.its j b). own_and_twin a b w.p i j w.its (sym same ∙ own) x h)
        w.side)
        (λ (h : IsTwin o.p o.its i a). ⊎_elim
        (λ (other : w.p ≡ j). (λ t p q. own_and_twin b a o.p j i o.its (same ∙ other) y h t q p))
        (λ (k : IsTwin w.p w.its j b). absurd (differ (sym h.number ∙ ap twin same ∙ k.number)))
        w.side)
        o.side)
        (λ (apart : o.p ≢ w.p). (λ t p q. sound.store.apart o.p w.p o.its w.its o.was w.was (sym o.unknown ∙ e ∙ w.unknown) apart t
        (o.within t p) (w.within t q)))
        (cases_eq o.p w.p)

    new_used : (q : ℕ) (now : PieceOf) → piece_at new q ≡ Some now → HoldsPiece new q
    new_used q now e =
        let o = origin q now e in
        let held_by = sound.store.used o.p o.its o.was in
        let row = some_and (λ (r : SeenRow). Contains r.cells (Piece o.p)) (row_at rows held_by.0) held_by.1 in
        let Has_it : SeenRow → Type 0 = λ r. Contains r.cells (Piece q) in ⊎_elim
        (λ (own : o.p ≡ q).
        let its = subst (λ p. Contains row.0.cells (Piece p)) own row.2 in (
          held_by.0,
          ⊎_elim
              (λ (h : (k : ℕ) × (slice_get numbers k ≡ Some held_by.0)).
              let one = its_cut h.0 held_by.0 h.1 in
              let same = same_some (row_at rows held_by.0) row.0 one.0 row.1 one.2 in
              and_some Has_it (row_at later held_by.0) (row_over (part_before m) one.0) one.5.here
              (subst (λ (r : SeenRow). Contains r.cells (Piece q)) same its))
              (λ (none : ¬ (Contains numbers held_by.0)).
              and_some Has_it (row_at later held_by.0) row.0 (other_row held_by.0 row.0 none row.1) its)
              (listed_or_not numbers held_by.0),
        ))
        (λ (h : IsTwin o.p o.its q now).
        let at = h.listed held_by.0 row.0 row.1 row.2 in
        let one = its_cut at.0 held_by.0 at.1 in
        let same = same_some (row_at rows held_by.0) row.0 one.0 row.1 one.2 in (
          one.1,
          and_some Has_it (row_at later one.1) (twin_row twin (part_after m one.0.span) one.0) one.5.there
              (subst (λ p. Contains (map (twin_cell twin) one.0.cells) (Piece p)) h.number
              (contains_map (twin_cell twin) one.0.cells (Piece o.p) (subst (λ (r : SeenRow). Contains r.cells (Piece o.p)) same row.2))),
        ))
        o.side

    -- cells are live over the row's span
    live_before : (k n : ℕ) (row : SeenRow) → slice_get numbers k ≡ Some n → row_at rows n ≡ Some row → (v : Seen) → Contains row.cells v
        → IsLiveOver new (part_before m row.span) v
    live_before k n row e is (Const c) at = tt
    live_before k n row e is (Piece p) at =
        let its = listed_piece k n row e is p at in
        and_some (λ (x : PieceOf). x.span ≡ part_before m row.span) (piece_at new p) (piece_over (part_before m) its.0) its.3.here
        (ap (part_before m) its.2)

    live_after : (k n : ℕ) (row : SeenRow) → slice_get numbers k ≡ Some n → row_at rows n ≡ Some row → (v : Seen) → Contains row.cells v
        → IsLiveOver new (part_after m row.span) (twin_cell twin v)
    live_after k n row e is (Const c) at = tt
    live_after k n row e is (Piece p) at =
        let its = listed_piece k n row e is p at in
        and_some (λ (x : PieceOf). x.span ≡ part_after m row.span) (piece_at new (twin p)) (piece_over (part_after m) its.0) its.3.there
        (ap (part_after m) its.2)

    live_still : (n : ℕ) (row : SeenRow) → ¬ (Contains numbers n) → row_at rows n ≡ Some row → (v : Seen) → Contains row.cells v
        → IsLiveOver new row.span v
    live_still n row none is (Const c) at = tt
    live_still n row none is (Piece p) at =
        let its = shared_nowhere n row none is p at in
        and_some (λ (x : PieceOf). x.span ≡ row.span) (piece_at new p) its.0 its.3 its.2

    all_cells : (P : Seen → Type 0) (cells : List Seen) → ((v : Seen) → Contains cells v → P v) → All P cells
    all_cells P cells h = All-weaker (Contains cells) P h cells (All-contains_itself cells)

    new_live : (n : ℕ) (row : SeenRow) → row_at later n ≡ Some row → All (IsLiveOver new row.span) row.cells
    new_live n row e = ⊎_elim
        (λ (h : (k : ℕ) × (slice_get numbers k ≡ Some n)).
        let one = its_cut h.0 n h.1 in
        let now = row_over (part_before m) one.0 in
        subst (λ (r : SeenRow). All (IsLiveOver new r.span) r.cells) (same_some (row_at later n) now row one.5.here e)
        (all_cells (IsLiveOver new (part_before m one.0.span)) one.0.cells (live_before h.0 n one.0 h.1 one.2)))
        (λ (none : ¬ (Contains numbers n)). ⊎_elim
        (λ (h : (k : ℕ) × (slice_get made k ≡ Some n)).
        let number = beside made numbers (sym cuts.size) h.0 n h.1 in
        let at = row_inside number.0 (contains_from_at numbers h.0 number.0 number.1) in
        let one = cuts.each h.0 number.0 n at.0 number.1 h.1 at.1 in
        let now = twin_row twin (part_after m at.0.span) at.0 in
        subst (λ (r : SeenRow). All (IsLiveOver new r.span) r.cells) (same_some (row_at later n) now row one.there e)
        (All-map (IsLiveOver new (part_after m at.0.span)) (twin_cell twin) at.0.cells
        (all_cells (λ v. IsLiveOver new (part_after m at.0.span) (twin_cell twin v)) at.0.cells (live_after h.0 number.0 at.0 number.1 at.1))))
        (λ (out : ¬ (Contains made n)).
        all_cells (IsLiveOver new row.span) row.cells (live_still n row none (sym (cuts.others n none out) ∙ e)))
        (listed_or_not made n))
        (listed_or_not numbers n)

    new_named : All (λ (piece : NamedPiece). piece.name < length names) after.pieces
    new_named k d l =
        let x = get_or after.pieces k d in
        let at = slice_get-get_or after.pieces k d l in
        let named : (p : ℕ) (was : NamedPiece) → slice_get held.pieces p ≡ Some was → was.name < length names =
        λ p was e. All-contains (λ (piece : NamedPiece). piece.name < length names) held.pieces was sound.named
        (contains_from_at held.pieces p was e) in ⊎_elim
        (λ (h : k < length held.pieces).
        let there = slice_get-get_or held.pieces k d h in
        let was = get_or held.pieces k d in
        let kept = some_and (λ (y : NamedPiece). (y ≡ was) ⊎ IsCut m held.pieces after.pieces was y) (slice_get after.pieces k)
        (cuts.pieces.kept k was there) in
        let same = same_some (slice_get after.pieces k) kept.0 x kept.1 at in
        subst (λ (y : NamedPiece). y.name < length names) same (⊎_elim
        (λ (s : kept.0 ≡ was). subst (λ (y : NamedPiece). y.name < length names) (sym s) (named k was there))
        (λ (cut : IsCut m held.pieces after.pieces was kept.0).
        subst (λ (y : NamedPiece). y.name < length names) (sym cut.first) (named k was there))
        kept.2))
        (λ (g : length held.pieces ≤ k).
        let by = cuts.pieces.added k x g at in
        let whole = same_some (slice_get after.pieces k) (cut_off (part_after m by.1.span) by.1) x
        (sym (ap (slice_get after.pieces) by.6) ∙ by.5.second) at in
        subst (λ (y : NamedPiece). y.name < length names) whole (named by.0 by.1 by.3))
        (cases_lt k (length held.pieces))

    pub sound_parts : IsSound after names
    sound_parts = record {
      store = record { live = new_live; used = new_used; apart = new_apart; distinct = sound.store.distinct };
      named = new_named;
    }

    -- the term of a piece
    term_at : (store : Store) (p : ℕ) (piece : PieceOf) → piece_at store p ≡ Some piece
        → term_in store (Piece p) ≡ unknown (unknown_value piece.unknown)
    term_at store p piece e = ap (λ (o : Option PieceOf). option_map_or (λ x. unknown (unknown_value x.unknown)) o (unknown (numbered p))) e

    term_before : (k n : ℕ) (row : SeenRow) → slice_get numbers k ≡ Some n → row_at rows n ≡ Some row → (v : Seen) → Contains row.cells v
        → term_in new v ≡ term_in old v
    term_before k n row e is (Const c) at = refl
    term_before k n row e is (Piece p) at =
        let its = listed_piece k n row e is p at in
        term_at new p (piece_over (part_before m) its.0) its.3.here ∙ sym (term_at old p its.0 its.1)

    term_after : (k n : ℕ) (row : SeenRow) → slice_get numbers k ≡ Some n → row_at rows n ≡ Some row → (v : Seen) → Contains row.cells v
        → term_in new (twin_cell twin v) ≡ term_in old v
    term_after k n row e is (Const c) at = refl
    term_after k n row e is (Piece p) at =
        let its = listed_piece k n row e is p at in
        term_at new (twin p) (piece_over (part_after m) its.0) its.3.there ∙ sym (term_at old p its.0 its.1)

    term_still : (n : ℕ) (row : SeenRow) → ¬ (Contains numbers n) → row_at rows n ≡ Some row → (v : Seen) → Contains row.cells v
        → term_in new v ≡ term_in old v
    term_still n row none is (Const c) at = refl
    term_still n row none is (Piece p) at =
        let its = shared_nowhere n row none is p at in
        term_at new p its.0 its.3 ∙ sym (term_at old p its.0 its.1)

    pub fact_before : (k n : ℕ) (row : SeenRow) → slice_get numbers k ≡ Some n → row_at rows n ≡ Some row
        → fact_in new (row_over (part_before m) row) ≡ fact_over (part_before m) (fact_in old row)
    fact_before k n row e is =
        let terms = map_same (term_in new) (term_in old) row.cells (λ j v at. term_before k n row e is v (contains_from_at row.cells j v at)) in
        λ i. record { row = record { relation = row.relation; terms = terms i }; span = part_before m row.span }

    pub fact_after : (k n : ℕ) (row : SeenRow) → slice_get numbers k ≡ Some n → row_at rows n ≡ Some row
        → fact_in new (twin_row twin (part_after m row.span) row) ≡ fact_over (part_after m) (fact_in old row)
    fact_after k n row e is =
        let terms = map_map (term_in new) (twin_cell twin) row.cells
        ∙ map_same (λ v. term_in new (twin_cell twin v)) (term_in old) row.cells
        (λ j v at. term_after k n row e is v (contains_from_at row.cells j v at)) in
        λ i. record { row = record { relation = row.relation; terms = terms i }; span = part_after m row.span }

    pub fact_still : (n : ℕ) (row : SeenRow) → ¬ (Contains numbers n) → row_at rows n ≡ Some row → fact_in new row ≡ fact_in old row
    fact_still n row none is =
        let terms = map_same (term_in new) (term_in old) row.cells (λ j v at. term_still n row none is v (contains_from_at row.cells j v at)) in
        λ i. record { row = record { relation = row.relation; terms = terms i }; span = row.span }

    pub splits_rows : SplitsRows numbers m made old new
    splits_rows = record {
      size = cuts.size;
      once = cuts.once;
      each = λ k n c row a b is.
          let one = cuts.each k n c row a b is in
          record {
            here = one.here;
            fact = fact_before k n row a is;
            vacant = one.vacant;
            there = and_some (λ (r : SeenRow). fact_in new r ≡ fact_over (part_after m) (fact_in old row)) (row_at later c)
                (twin_row twin (part_after m row.span) row) one.there (fact_after k n row a is);
          };
      others = cuts.others;
      facts = λ n row none is. fact_still n row none is;
    }

    pub splits_pieces : SplitsPieces numbers m old new
    splits_pieces = record {
      each = λ n p its c h is.
          let at = is_at numbers n c in
          let row = some_and (λ (r : SeenRow). Contains r.cells (Piece p)) (row_at rows n) h in
          let one = listed_piece at.0 n row.0 at.1 row.1 p row.2 in
          let same = same_some (piece_at old p) one.0 its one.1 is in
          let parted = subst (IsParted p) same one.3 in
          record { here = parted.here; twin = twin p; vacant = parted.vacant; there = parted.there };
      others = λ p its none is. other_piece p its is none;
    }

    pub uses_room : UsesRoomOf numbers old new
    uses_room = record {
      names = refl;
      rows = omega (arith, cuts.rows);
      cells = omega (arith, cuts.cells);
      pieces = cuts.room;
    }
