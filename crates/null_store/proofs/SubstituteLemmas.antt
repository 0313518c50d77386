-- A store in which a value is written to each cell that held a piece.
use Rattle.std.proofs.Common.{◌≡◌, ◌≢◌, ℤ, ℕ, ◌<◌, if◌then◌else◌, Bool, true, false, Option, Some, None, List, length, map, set, refl, sym, ap, ◌∙◌, subst, arith, ⊎_elim, All, Contains}
use Rattle.std.specs.Prelude.{slice_get, IsSomeAnd, ⊤}
use Rattle.std.specs.Option.{option_and_then, option_map, option_map_or}
use Rattle.std.proofs.lemmas.Bool.{cases_eq}
use Rattle.std.proofs.lemmas.List.{map-set, length-map}
use Rattle.std.proofs.lemmas.List.Elements.{All-weaker, All-map, All-set, All-same, All-contains}
use Rattle.std.proofs.lemmas.Option.{slice_get-map, slice_get_within}
use Rattle.time_line.specs.Span.{Ends, Has}
use Rattle.term_core.specs.declared.term.Seen.{Seen}
use Rattle.term_core.specs.declared.term.Seen.TheVariants.{Const, Piece}
use Rattle.rule_core.specs.Terms.{numbered, unknown}
use Rattle.rule_core.specs.Values.{unknown_value}
use Rattle.fact_table.specs.Rows.{SeenRow, row_at, cell_at}
use Rattle.row_arena.specs.declared.cell.Cell.{Cell}
use Rattle.row_arena.specs.Arena.{IsArena, row_in, cell_in}
use Rattle.null_store.specs.declared.piece.NamedPiece.{NamedPiece}
use Rattle.null_store.specs.Store.{NameOf, PieceOf, Spare, Store, piece_at, term_in, fact_in, IsLive, IsLiveOver, HoldsPiece, IsStore}
use Rattle.null_store.specs.Changes.{instead, row_instead, ReplacesCells, CanStandFor, Substitutes, BecomesTerm, BecomesFact, SubstitutesTerm}
use Rattle.null_store.specs.Lists.{rows_seen, IsOccurrenceList, HasOccurrences}
use Rattle.null_store.specs.Facts.{KeepsFacts}
use Rattle.null_store.specs.Layout.{LinkedArena, HasSameRoom, EndsPiece, with_name, piece_of, store_of, ended, IsSound}
use Rattle.null_store.proofs.ListLemmas.{some_and, and_some, same_some, holds_at, stands, set_here, set_else, at_from_contains, contains_from_at, contains_map, at_map, map_map}
use Rattle.null_store.proofs.JoinLemmas.{instead_here, instead_else}
use Rattle.null_store.proofs.OccurrenceLemmas.{from_map, seen_from}
use Rattle.null_store.proofs.ViewLemmas.{map_same}
use Rattle.null_store.proofs.LawLemmas.{one_cell}

-- a live piece as it is laid out
pub piece_is : (held : LinkedArena) (names : List NameOf) (piece : ℕ) (p : NamedPiece) (n : NameOf) → slice_get held.pieces piece ≡ Some p
    → slice_get names p.name ≡ Some n → IsLive (store_of held names) piece → piece_at (store_of held names) piece ≡ Some (with_name p n)
piece_is held names piece p n at named live =
    seen ∙ of_live p.live (subst (λ o. IsSomeAnd o (λ _. ⊤)) seen live)
  where
    seen : piece_at (store_of held names) piece ≡ piece_of names p
    seen = ap (option_and_then (λ (o : Option PieceOf). o)) (slice_get-map (piece_of names) held.pieces piece ∙ ap (option_map (piece_of names)) at)

    of_live : (b : Bool) → IsSomeAnd (if b then option_map (with_name p) (slice_get names p.name) else None) (λ _. ⊤)
        → (if b then option_map (with_name p) (slice_get names p.name) else None) ≡ Some (with_name p n)
    of_live true h = ap (option_map (with_name p)) named
    of_live false h = absurd h

module _ (rows later : List (Option SeenRow)) (pieces : List (Option PieceOf)) (names : List NameOf) (spare room : Spare) (piece : ℕ)
    (by : Seen) where
  abbrev pub old : Store
  old = record { rows = rows; pieces = pieces; names = names; spare = spare }

  abbrev pub new : Store
  new = record { rows = later; pieces = set pieces piece None; names = names; spare = room }

  module _ (ok : IsStore old) (its : PieceOf) (is : piece_at old piece ≡ Some its) (can : CanStandFor old piece its by)
      (cells : ReplacesCells rows later piece by) where
    others_stay : (q : ℕ) → q ≢ piece → piece_at new q ≡ piece_at old q
    others_stay q differ = ap (option_and_then (λ (p : Option PieceOf). p)) (set_else pieces piece q None differ)

    gone : piece_at new piece ≡ None
    gone = ap (option_and_then (λ (p : Option PieceOf). p)) (set_here pieces piece None (Some its) (stands (slice_get pieces piece) its is))

    -- a live piece is another, and was live
    was_live : (q : ℕ) (p : PieceOf) → piece_at new q ≡ Some p → (q ≢ piece) × (piece_at old q ≡ Some p)
    was_live q p e =
        let differ : q ≢ piece = λ same. let clash : None ≡ Some p = sym gone ∙ sym (ap (piece_at new) same) ∙ e in cc in
        (differ, sym (others_stay q differ) ∙ e)

    stands_for : (span : Ends) (v : Seen) → CanStandFor old piece its v → its.span ≡ span → IsLiveOver new span v
    stands_for span (Const c) h e = tt
    stands_for span (Piece other) h e =
        let o = some_and (λ (p : PieceOf). p.span ≡ its.span) (piece_at old other) h.1 in
        and_some (λ (p : PieceOf). p.span ≡ span) (piece_at new other) o.0 (others_stay other h.0 ∙ o.1) (o.2 ∙ e)

    live_instead : (span : Ends) (v : Seen) → IsLiveOver old span v → IsLiveOver new span (instead piece by v)
    live_instead span (Const c) h = tt
    live_instead span (Piece p) h = ⊎_elim
        (λ (same : p ≡ piece).
        let over = holds_at (λ (q : PieceOf). q.span ≡ span) (piece_at old p) its (ap (piece_at old) same ∙ is) h in
        subst (IsLiveOver new span) (sym (instead_here piece by (Piece p) (ap Piece same))) (stands_for span by can over))
        (λ (differ : p ≢ piece).
        subst (IsLiveOver new span) (sym (instead_else piece by (Piece p) (λ e. differ cc)))
        (subst (λ o. IsSomeAnd o (λ q. q.span ≡ span)) (sym (others_stay p differ)) h))
        (cases_eq p piece)

    new_live : (number : ℕ) (row : SeenRow) → row_at later number ≡ Some row → All (IsLiveOver new row.span) row.cells
    new_live number row e =
        let w = from_map (row_instead piece by) (row_at rows number) row (sym (cells number) ∙ e) in
        subst (λ (r : SeenRow). All (IsLiveOver new r.span) r.cells) w.2
        (All-map (IsLiveOver new w.0.span) (instead piece by) w.0.cells
        (All-weaker (IsLiveOver old w.0.span) (λ v. IsLiveOver new w.0.span (instead piece by v)) (live_instead w.0.span) w.0.cells
        (ok.live number w.0 w.1)))

    new_used : (number : ℕ) (p : PieceOf) → piece_at new number ≡ Some p → HoldsPiece new number
    new_used number p e =
        let was = was_live number p e in
        let held = ok.used number p was.1 in
        let row = some_and (λ (r : SeenRow). Contains r.cells (Piece number)) (row_at rows held.0) held.1 in
        let same = instead_else piece by (Piece number) (λ e. was.0 cc) in (
          held.0,
          and_some (λ (r : SeenRow). Contains r.cells (Piece number)) (row_at later held.0) (row_instead piece by row.0)
              (cells held.0 ∙ ap (option_map (row_instead piece by)) row.1)
              (subst (Contains (map (instead piece by) row.0.cells)) same
              (contains_map (instead piece by) row.0.cells (Piece number) row.2)),
        )

    pub new_is_store : IsStore new
    new_is_store = record {
      live = new_live;
      used = new_used;
      apart = λ m n a b x y e differ. ok.apart m n a b (was_live m a x).1 (was_live n b y).1 e differ;
      distinct = ok.distinct;
    }

    not_piece : (v : Seen) → CanStandFor old piece its v → ¬ (v ≡ Piece piece)
    not_piece (Const c) h e = cc
    not_piece (Piece other) h e = h.0 cc

    -- a cell that holds another value holds the same term
    term_stays : (v : Seen) → ¬ (v ≡ Piece piece) → term_in new v ≡ term_in old v
    term_stays (Const c) n = refl
    term_stays (Piece q) n =
        ap (λ (o : Option PieceOf). option_map_or (λ p. unknown (unknown_value p.unknown)) o (unknown (numbered q)))
        (others_stay q (λ e. n (ap Piece e)))

    abbrev become : SeenRow → SeenRow
    become row = row_instead piece by row

    its_row : (number : ℕ) (row : SeenRow) → row_at rows number ≡ Some row → row_at later number ≡ Some (become row)
    its_row number row e = cells number ∙ ap (option_map (row_instead piece by)) e

    -- one term of a row at an instant of the piece
    becomes_term : (t : ℤ) → Has its.span t → (number : ℕ) (row : SeenRow) → row_at rows number ≡ Some row → Has row.span t
        → (v : Seen) → Contains row.cells v
        → BecomesTerm (term_in old (Piece piece)) (term_in old by) (term_in old v) (term_in new (instead piece by v))
    becomes_term t in_piece number row e in_row v c =
        let live = All-contains (IsLiveOver old row.span) row.cells v (ok.live number row e) c in
        let its_live = and_some (λ (p : PieceOf). p.span ≡ its.span) (piece_at old piece) its is refl in
        record {
          its = λ same.
              let cell = one_cell old ok row.span its.span (t, in_row, in_piece) v (Piece piece) live its_live same in
              ap (term_in new) (instead_here piece by v cell) ∙ term_stays by (not_piece by can);
          rest = λ differ.
              let other : ¬ (v ≡ Piece piece) = λ same. differ (ap (term_in old) same) in
              ap (term_in new) (instead_else piece by v other) ∙ term_stays v other;
        }

    becomes_fact : (t : ℤ) → Has its.span t → (number : ℕ) (row : SeenRow) → row_at rows number ≡ Some row → Has row.span t
        → BecomesFact (term_in old (Piece piece)) (term_in old by) (fact_in old row) (fact_in new (become row))
    becomes_fact t in_piece number row e in_row = record {
      relation = refl;
      arity = length-map (map (instead piece by) row.cells) (term_in new) ∙ length-map row.cells (instead piece by)
          ∙ sym (length-map row.cells (term_in old));
      terms = λ k x y a b.
          let v = from_map (term_in old) (slice_get row.cells k) x (sym (slice_get-map (term_in old) row.cells k) ∙ a) in
          let there = at_map (term_in new) (map (instead piece by) row.cells) k (instead piece by v.0)
          (at_map (instead piece by) row.cells k v.0 v.1) in
          let one = becomes_term t in_piece number row e in_row v.0 (contains_from_at row.cells k v.0 v.1) in
          subst (λ w. BecomesTerm (term_in old (Piece piece)) (term_in old by) w y) v.2
          (subst (BecomesTerm (term_in old (Piece piece)) (term_in old by) (term_in old v.0))
          (same_some (slice_get (map (term_in new) (map (instead piece by) row.cells)) k) (term_in new (instead piece by v.0)) y there b)
          one);
      span = refl;
    }

    -- a row that does not hold the piece
    stays_fact : (row : SeenRow) → ¬ (Contains row.cells (Piece piece)) → fact_in new (become row) ≡ fact_in old row
    stays_fact row never =
        let terms = map_map (term_in new) (instead piece by) row.cells
        ∙ map_same (λ v. term_in new (instead piece by v)) (term_in old) row.cells (λ k v at.
        let other : ¬ (v ≡ Piece piece) =
        λ same. never (subst (Contains row.cells) same (contains_from_at row.cells k v at)) in
        ap (term_in new) (instead_else piece by v other) ∙ term_stays v other) in
        λ i. record { row = record { relation = row.relation; terms = terms i }; span = row.span }

    pub substitutes_term : SubstitutesTerm piece by old new
    substitutes_term = record {
      within = λ t in_piece number row e in_row.
          and_some (λ (w : SeenRow). BecomesFact (term_in old (Piece piece)) (term_in old by) (fact_in old row) (fact_in new w))
          (row_at later number) (become row) (its_row number row e)
          (becomes_fact t (holds_at (λ (p : PieceOf). Has p.span t) (piece_at old piece) its is in_piece) number row e in_row);
      others = λ number row e never.
          and_some (λ (w : SeenRow). fact_in new w ≡ fact_in old row) (row_at later number) (become row) (its_row number row e)
          (stays_fact row never);
      only = λ number e. cells number ∙ ap (option_map (row_instead piece by)) e;
    }

module _ (held after : LinkedArena) (names : List NameOf) (piece : ℕ) (by : Seen) (sound : IsSound held names)
    (can : IsSomeAnd (piece_at (store_of held names) piece) (λ p. CanStandFor (store_of held names) piece p by))
    (cells : ReplacesCells (rows_seen held.arena) (rows_seen after.arena) piece by)
    (ends : EndsPiece held.pieces after.pieces piece) (same : HasSameRoom held after) where
  ended_piece : (p : NamedPiece) × (slice_get held.pieces piece ≡ Some p) × (after.pieces ≡ set held.pieces piece (ended p))
  ended_piece = some_and (λ (p : NamedPiece). after.pieces ≡ set held.pieces piece (ended p)) (slice_get held.pieces piece) ends

  pieces_is : map (piece_of names) after.pieces ≡ set (map (piece_of names) held.pieces) piece None
  pieces_is = ap (map (piece_of names)) ended_piece.2 ∙ map-set (piece_of names) held.pieces piece (ended ended_piece.0)

  abbrev room : Spare
  room = record { rows = after.arena.spare_rows; cells = after.arena.spare_cells; pieces = after.room }

  pub sound_less : IsSound after names
  sound_less =
      let its = some_and (λ (p : PieceOf). CanStandFor (store_of held names) piece p by) (piece_at (store_of held names) piece) can in
      record {
        store = subst (λ (ps : List (Option PieceOf)).
            IsStore (record { rows = rows_seen after.arena; pieces = ps; names = names; spare = room })) (sym pieces_is)
            (new_is_store (rows_seen held.arena) (rows_seen after.arena) (map (piece_of names) held.pieces) names
            (record { rows = held.arena.spare_rows; cells = held.arena.spare_cells; pieces = held.room }) room piece by sound.store
            its.0 its.1 its.2 cells);
        named = All-same (λ (p : NamedPiece). p.name < length names) after.pieces (set held.pieces piece (ended ended_piece.0)) ended_piece.2
            (All-set (λ (p : NamedPiece). p.name < length names) held.pieces piece (ended ended_piece.0)
            (All-contains (λ (p : NamedPiece). p.name < length names) held.pieces ended_piece.0 sound.named
            (contains_from_at held.pieces piece ended_piece.0 ended_piece.1)) sound.named);
      }

  pub terms_after : SubstitutesTerm piece by (store_of held names) (store_of after names)
  terms_after =
      let its = some_and (λ (p : PieceOf). CanStandFor (store_of held names) piece p by) (piece_at (store_of held names) piece) can in
      subst (λ (ps : List (Option PieceOf)).
      SubstitutesTerm piece by (store_of held names) (record { rows = rows_seen after.arena; pieces = ps; names = names; spare = room }))
      (sym pieces_is)
      (substitutes_term (rows_seen held.arena) (rows_seen after.arena) (map (piece_of names) held.pieces) names
      (record { rows = held.arena.spare_rows; cells = held.arena.spare_cells; pieces = held.room }) room piece by sound.store its.0 its.1 its.2
      cells)

  pub substitutes : Substitutes piece by (store_of held names) (store_of after names)
  substitutes = record {
    cells = cells;
    pieces = pieces_is;
    names = refl;
    spare = λ i. record { rows = same.rows i; cells = same.cells i; pieces = same.pieces i };
  }

-- a live piece has a cell
module _ (store : Store) (ok : IsStore store) (piece : ℕ) (live : IsLive store piece) where
  pub its_cell : (row column : ℕ) × (cell_at store.rows row column ≡ Some (Piece piece))
  its_cell =
      let its = some_and (λ (_ : PieceOf). ⊤) (piece_at store piece) live in
      let held = ok.used piece its.0 its.1 in
      let row = some_and (λ (r : SeenRow). Contains r.cells (Piece piece)) (row_at store.rows held.0) held.1 in (
        held.0,
        row.2.0,
        ap (option_and_then (λ (r : SeenRow). slice_get r.cells row.2.0)) row.1
            ∙ at_from_contains row.0.cells (Piece piece) row.2.0 row.2.1 row.2.2,
      )

  pub occurs : (n : ℕ) → HasOccurrences store.rows piece n → 0 < n
  occurs n has =
      let at = its_cell in
      let k = has.2.all at.0 at.1 at.2 in
      let within = slice_get_within has.0 k.0 _ k.1 in
      omega (arith, within, has.1)

-- the facts over the cells
pub keeps_facts : (held : LinkedArena) (names : List NameOf) → IsSound held names → IsArena (row_in held.arena) (cell_in held.arena)
    → ((piece : ℕ) → piece < length held.pieces → (ids : List ℕ) × IsOccurrenceList (cell_in held.arena) piece ids)
    → KeepsFacts held.arena (store_of held names)
keeps_facts held names sound ok lists = record {
  lists = list;
  cells = λ piece live.
      let at = its_cell (store_of held names) sound.store piece live in
      let ids = list piece live in
      let c = seen_from held.arena ok piece ids.0 ids.1 at.0 at.1 (Piece piece) at.2 in
      (c.0, and_some (λ (w : Cell). w.value ≡ Piece piece) (cell_in held.arena c.0) c.1 c.2 c.3);
  spans = sound.store.live;
  disjoint = sound.store.apart;
}
  where
    list : (piece : ℕ) → IsLive (store_of held names) piece → (ids : List ℕ) × IsOccurrenceList (cell_in held.arena) piece ids
    list piece live =
        let its = some_and (λ (_ : PieceOf). ⊤) (piece_at (store_of held names) piece) live in
        let at = stands (slice_get (map (piece_of names) held.pieces) piece) its.0 its.1 in
        lists piece (omega (
          arith,
          slice_get_within (map (piece_of names) held.pieces) piece (Some its.0) at,
          length-map held.pieces (piece_of names),
        ))
