-- The cells that hold a piece, told by the places of rows.
use Rattle.std.proofs.Common.{◌≡◌, ℕ, ◌<◌, Option, Some, None, List, length, map, get_or, refl, sym, ap, ◌∙◌, arith}
use Rattle.std.specs.Prelude.{slice_get}
use Rattle.std.specs.Option.{option_and_then, option_map, option_map_or}
use Rattle.std.proofs.lemmas.List.{length-map}
use Rattle.std.proofs.lemmas.Option.{slice_get-map, slice_get_within, slice_get-get_or}
use Rattle.term_core.specs.declared.term.Seen.{Seen}
use Rattle.term_core.specs.declared.term.Seen.TheVariants.{Piece}
use Rattle.fact_table.specs.Rows.{SeenRow, row_at, cell_at}
use Rattle.row_arena.specs.declared.cell.Cell.{Cell}
use Rattle.row_arena.specs.Arena.{RowOf, Arena, IsArena, StandsAt, row_in, cell_in}
use Rattle.null_store.specs.declared.piece.CellList.{CellList}
use Rattle.null_store.specs.declared.piece.ListedPiece.{ListedPiece}
use Rattle.null_store.specs.Lists.{value_at, seen_in, rows_seen, IsLinked, IsOccurrenceList, AreListed, Place, AreOccurrences, HasOccurrences, HasRowsOf}
use Rattle.null_store.specs.Layout.{IsWalk, HasRowsBelow}
use Rattle.null_store.proofs.ListLemmas.{some_and, and_some, same_some, map_map}
use Rattle.null_store.proofs.JoinLemmas.{walk_of}
use Rattle.null_store.proofs.ViewLemmas.{map_to, row_seen, value_is, cell_seen}

-- what a list that is mapped has at a place
pub from_map : {X Y : Type 0} (f : X → Y) (o : Option X) (y : Y) → option_map f o ≡ Some y → (x : X) × (o ≡ Some x) × (f x ≡ y)
from_map f None y e = absurd cc
from_map {X} {Y} f (Some x) y e = let same : f x ≡ y = cc in (x, refl, same)

module _ (arena : Arena) (ok : IsArena (row_in arena) (cell_in arena)) (piece : ℕ) (ids : List ℕ)
    (its : IsOccurrenceList (cell_in arena) piece ids) where
  abbrev place_of : ℕ → Place
  place_of id = option_map_or (λ c. record { row = c.row; column = c.column }) (cell_in arena id) (record { row = 0; column = 0 })

  place_is : (id : ℕ) (c : Cell) → cell_in arena id ≡ Some c → place_of id ≡ record { row = c.row; column = c.column }
  place_is id c e =
      ap (λ (o : Option Cell). option_map_or (λ w. record { row = w.row; column = w.column }) o (record { row = 0; column = 0 })) e

  -- where the k-th cell stands
  at_place : (k : ℕ) (place : Place) → slice_get (map place_of ids) k ≡ Some place
      → (id : ℕ) × (c : Cell) × (slice_get ids k ≡ Some id) × (cell_in arena id ≡ Some c) × (c.value ≡ Piece piece)
      × (place ≡ record { row = c.row; column = c.column })
  at_place k place e =
      let id = from_map place_of (slice_get ids k) place (sym (slice_get-map place_of ids k) ∙ e) in
      let c = some_and (IsLinked piece ids k) (cell_in arena id.0) (its.linked k id.0 id.1) in
      (id.0, c.0, id.1, c.1, c.2.value, sym id.2 ∙ place_is id.0 c.0 c.1)

  seen_at : (id : ℕ) (c : Cell) → cell_in arena id ≡ Some c → cell_at (rows_seen arena) c.row c.column ≡ Some c.value
  seen_at id c e =
      let r = some_and (λ (w : RowOf). slice_get w.cells c.column ≡ Some id) (row_in arena c.row) (ok.placed id c e) in
      let seen = row_seen arena c.row ∙ ap (option_map (seen_in (cell_in arena))) r.1 in
      let has = and_some (λ (w : SeenRow). c.column < length w.cells) (row_at (rows_seen arena) c.row) (seen_in (cell_in arena) r.0) seen
      (omega (arith, slice_get_within r.0.cells c.column id r.2, length-map r.0.cells (value_at (cell_in arena)))) in
      cell_seen arena c.row c.column has id c (ok.placed id c e) e

  pub seen_from : (row column : ℕ) (v : Seen) → cell_at (rows_seen arena) row column ≡ Some v
      → (id : ℕ) × (c : Cell) × (cell_in arena id ≡ Some c) × (c.value ≡ v) × StandsAt c row column
  seen_from row column v e = by (row_in arena row) refl
      (sym (ap (option_and_then (λ (w : SeenRow). slice_get w.cells column)) (row_seen arena row)) ∙ e)
    where
      by : (o : Option RowOf) → row_in arena row ≡ o
          → option_and_then (λ (w : SeenRow). slice_get w.cells column) (option_map (seen_in (cell_in arena)) o) ≡ Some v
          → (id : ℕ) × (c : Cell) × (cell_in arena id ≡ Some c) × (c.value ≡ v) × StandsAt c row column
      by None is h = absurd cc
      by (Some r) is h =
          let id = from_map (value_at (cell_in arena)) (slice_get r.cells column) v
          (sym (slice_get-map (value_at (cell_in arena)) r.cells column) ∙ h) in
          let c = some_and (λ (w : Cell). StandsAt w row column) (cell_in arena id.0) (ok.columns row r is column id.0 id.1) in
          (id.0, c.0, c.1, sym (value_is (cell_in arena) id.0 c.0 c.1) ∙ id.2, c.2)

  -- one place has one cell
  one_place : (i j : ℕ) (c d : Cell) → cell_in arena i ≡ Some c → cell_in arena j ≡ Some d → c.row ≡ d.row → c.column ≡ d.column → i ≡ j
  one_place i j c d a b row column =
      let r = some_and (λ (w : RowOf). slice_get w.cells c.column ≡ Some i) (row_in arena c.row) (ok.placed i c a) in
      let s = some_and (λ (w : RowOf). slice_get w.cells d.column ≡ Some j) (row_in arena d.row) (ok.placed j d b) in
      let same = same_some (row_in arena c.row) r.0 s.0 r.1 (ap (row_in arena) row ∙ s.1) in
      same_some (slice_get r.0.cells c.column) i j r.2
      (ap (λ (w : RowOf). slice_get w.cells c.column) same ∙ ap (slice_get s.0.cells) column ∙ s.2)

  pub occurrences_are : AreOccurrences (rows_seen arena) piece (map place_of ids)
  occurrences_are = record {
    hold = λ k place e.
        let h = at_place k place e in
        (λ i. cell_at (rows_seen arena) (h.5 i).row (h.5 i).column) ∙ seen_at h.0 h.1 h.3 ∙ ap Some h.4;
    all = λ row column e.
        let h = seen_from row column (Piece piece) e in
        let k = its.all h.0 h.1 h.2 h.3 in
        let place = place_is h.0 h.1 h.2 in
        let stands = h.4 in (
          k.0,
          slice_get-map place_of ids k.0 ∙ ap (option_map place_of) k.1 ∙ ap Some place
              ∙ (λ i. Some (record { row = stands.row i; column = stands.column i })),
        );
    once = λ j k place a b.
        let x = at_place j place a in
        let y = at_place k place b in
        let same = sym x.5 ∙ y.5 in
        let id = one_place x.0 y.0 x.1 y.1 x.3 y.3 (ap (λ (p : Place). p.row) same) (ap (λ (p : Place). p.column) same) in
        its.once j k x.0 x.2 (y.2 ∙ ap Some (sym id));
  }

pub has_occurrences : (arena : Arena) → IsArena (row_in arena) (cell_in arena) → (lists : List CellList) → AreListed (cell_in arena) lists
    → (piece : ℕ) (list : CellList) → slice_get lists piece ≡ Some list → HasOccurrences (rows_seen arena) piece list.count
has_occurrences arena ok lists listed piece list is =
    let ids = listed.each piece list is in
    let places = map (place_of arena ok piece ids.0 ids.2) ids.0 in
    (places, length-map ids.0 (place_of arena ok piece ids.0 ids.2) ∙ sym ids.1.count, occurrences_are arena ok piece ids.0 ids.2)

-- each piece has its list
pub its_list : (arena : Arena) (items : List ListedPiece) → AreListed (cell_in arena) (map (λ (p : ListedPiece). p.list) items)
    → (piece : ℕ) → piece < length (map (λ (p : ListedPiece). p.named) items) → (ids : List ℕ) × IsOccurrenceList (cell_in arena) piece ids
its_list arena items listed piece l =
    let inside : piece < length items = omega (arith, l, length-map items (λ (p : ListedPiece). p.named)) in
    let long : piece < length (map (λ (p : ListedPiece). p.list) items) = omega (arith, inside, length-map items (λ (p : ListedPiece). p.list)) in
    let list : CellList = get_or (map (λ (p : ListedPiece). p.list) items) piece (record { first = None; last = None; count = 0 }) in
    let ids = listed.each piece list (slice_get-get_or (map (λ (p : ListedPiece). p.list) items) piece
    (record { first = None; last = None; count = 0 }) long) in
    (ids.0, ids.2)

-- the rows of the cells of a list
pub has_rows_of : (arena : Arena) → IsArena (row_in arena) (cell_in arena) → (lists : List CellList) → AreListed (cell_in arena) lists
    → (piece : ℕ) (list : CellList) → slice_get lists piece ≡ Some list → (rows : List ℕ)
    → ((ids : List ℕ) → IsWalk (cell_in arena) list ids → HasRowsBelow (cell_in arena) ids list.count rows)
    → HasRowsOf (rows_seen arena) piece rows
has_rows_of arena ok lists listed piece list is rows told =
    let ids = listed.each piece list is in
    let below = told ids.0 (walk_of (cell_in arena) piece list ids.0 ids.1 ids.2) in
    let place = place_of arena ok piece ids.0 ids.2 in
    let row : ℕ → ℕ = λ id. (place id).row in
    let long : length ids.0 ≡ length rows = sym (below.size ∙ ids.1.count) in
    let same = map_to row ids.0 rows long (λ k id r a b.
    let within = slice_get_within ids.0 k id a in
    let c = some_and (λ (w : Cell). slice_get rows k ≡ Some w.row) (cell_in arena id) (below.each k id (omega (arith, within, ids.1.count)) a) in
    ap (λ (p : Place). p.row) (place_is arena ok piece ids.0 ids.2 id c.0 c.1) ∙ same_some (slice_get rows k) c.0.row r c.2 b) in
    (map place ids.0, sym (map_map (λ (p : Place). p.row) place ids.0 ∙ same), occurrences_are arena ok piece ids.0 ids.2)
