-- What a store keeps as names, pieces and rows are added behind the others.
use Rattle.std.proofs.Common.{◌≡◌, ◌<◌, Option, None, List, [], ◌∷◌, ◌++◌, length, map, refl, sym, ap, subst, arith, All}
use Rattle.std.specs.Prelude.{if◌then◌else◌, slice_index_or}
use Rattle.std.specs.Option.{option_map}
use Rattle.std.proofs.lemmas.List.{length-append}
use Rattle.std.proofs.lemmas.List.Elements.{All-head, All-tail, All-weaker}
use Rattle.fact_table.specs.Rows.{SeenRow}
use Rattle.null_store.specs.declared.piece.NamedPiece.{NamedPiece}
use Rattle.null_store.specs.Store.{NameOf, PieceOf, Spare, AreDistinct, IsStore}
use Rattle.null_store.specs.Changes.{HoldsSame}
use Rattle.null_store.specs.Lists.{seen_in, rows_seen}
use Rattle.null_store.specs.Layout.{LinkedArena, HasSame, store_of, with_name, piece_of, IsSound}
use Rattle.null_store.proofs.ListLemmas.{in_front}

-- pieces are the same to callers when names are added
pub pieces_stay : (names more : List NameOf) (pieces : List NamedPiece) → All (λ (p : NamedPiece). p.name < length names) pieces
    → map (piece_of (names ++ more)) pieces ≡ map (piece_of names) pieces
pieces_stay names more [] h = refl
pieces_stay names more (p ∷ pieces) h =
    let inside = All-head (λ (q : NamedPiece). q.name < length names) p pieces h in
    let here = ap (λ o. if p.live then option_map (with_name p) o else None) (in_front names more p.name inside) in
    let rest = pieces_stay names more pieces (All-tail (λ (q : NamedPiece). q.name < length names) p pieces h) in
    λ i. here i ∷ rest i

-- whether it is a store is told by its rows, its pieces and its names
pub store_like : (rows : List (Option SeenRow)) (pieces : List (Option PieceOf)) (names others : List NameOf) (spare room : Spare)
    → IsStore (record { rows = rows; pieces = pieces; names = names; spare = spare }) → AreDistinct others
    → IsStore (record { rows = rows; pieces = pieces; names = others; spare = room })
store_like rows pieces names others spare room h distinct = record { live = h.live; used = h.used; apart = h.apart; distinct = distinct }

-- a store stays sound when names are added
pub sound_names : (held : LinkedArena) (names more : List NameOf) → AreDistinct (names ++ more) → IsSound held names
    → IsSound held (names ++ more)
sound_names held names more distinct h =
    let spare : Spare = record { rows = held.arena.spare_rows; cells = held.arena.spare_cells; pieces = held.room } in
    record {
      store = store_like (rows_seen held.arena) (map (piece_of (names ++ more)) held.pieces) names (names ++ more) spare spare
          (subst (λ (ps : List (Option PieceOf)).
          IsStore (record { rows = rows_seen held.arena; pieces = ps; names = names; spare = spare }))
          (sym (pieces_stay names more held.pieces h.named)) h.store) distinct;
      named = All-weaker (λ (p : NamedPiece). p.name < length names) (λ (p : NamedPiece). p.name < length (names ++ more))
          (λ p l. omega (arith, l, length-append names more)) held.pieces h.named;
    }

-- it is told by its rows, pieces and names
pub sound_like : (old new : LinkedArena) (names : List NameOf) → HasSame old new → IsSound old names → IsSound new names
sound_like old new names same h =
    let spare : Spare = record { rows = old.arena.spare_rows; cells = old.arena.spare_cells; pieces = old.room } in
    let room : Spare = record { rows = new.arena.spare_rows; cells = new.arena.spare_cells; pieces = new.room } in
    let rows : rows_seen new.arena ≡ rows_seen old.arena =
    λ i. map (option_map (seen_in (λ id. slice_index_or (same.cells i) id None))) (same.rows i) in
    record {
      store = store_like (rows_seen new.arena) (map (piece_of names) new.pieces) names names spare room
          (subst (λ (ps : List NamedPiece).
          IsStore (record { rows = rows_seen new.arena; pieces = map (piece_of names) ps; names = names; spare = spare }))
          (sym same.pieces)
          (subst (λ (rs : List (Option SeenRow)).
          IsStore (record { rows = rs; pieces = map (piece_of names) old.pieces; names = names; spare = spare })) (sym rows) h.store))
          h.store.distinct;
      named = subst (λ (ps : List NamedPiece). All (λ (p : NamedPiece). p.name < length names) ps) (sym same.pieces) h.named;
    }

pub holds_same : (old new : LinkedArena) (names : List NameOf) → HasSame old new → HoldsSame (store_of old names) (store_of new names)
holds_same old new names same = record {
  rows = λ i. map (option_map (seen_in (λ id. slice_index_or (same.cells i) id None))) (same.rows i);
  pieces = ap (map (piece_of names)) same.pieces;
  names = refl;
}
