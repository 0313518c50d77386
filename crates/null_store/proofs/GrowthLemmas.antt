-- A store to which rows are added, and pieces behind the others.
use Rattle.std.proofs.Common.{◌≡◌, ◌≢◌, ◌⊎◌, ℕ, ◌+◌, Option, Some, List, ◌++◌, length, map, refl, sym, ap, ◌∙◌, subst, ⊎_elim, All, Contains}
use Rattle.std.specs.Prelude.{slice_get, IsSomeAnd, IsPermutation}
use Rattle.std.specs.List.{filter_map}
use Rattle.std.specs.Option.{option_map_or}
use Rattle.std.proofs.lemmas.List.{map-append}
use Rattle.std.proofs.lemmas.List.Elements.{All-weaker, All-contains}
use Rattle.std.proofs.lemmas.List.Sorted.{IsPermutation-map, IsPermutation-sym, Contains-permutation}
use Rattle.time_line.specs.Span.{Ends, AreApart}
use Rattle.term_core.specs.declared.term.Seen.{Seen}
use Rattle.term_core.specs.declared.term.Seen.TheVariants.{Const, Piece}
use Rattle.rule_core.specs.Terms.{numbered, unknown}
use Rattle.rule_core.specs.Values.{unknown_value}
use Rattle.fact_table.specs.Rows.{SeenRow, row_at}
use Rattle.null_store.specs.Store.{NameOf, PieceOf, Spare, Store, piece_at, term_in, fact_in, facts_in, IsLiveOver, HoldsPiece, IsStore}
use Rattle.null_store.specs.Layout.{AddsRows}
use Rattle.null_store.proofs.ListLemmas.{some_and, and_some, held_at, held_front, held_cases, map_alike, held_alike, held_map_all, held_one, held_place, contains_either, contains_right, contains_from_at}

module _ (rows later : List (Option SeenRow)) (pieces : List (Option PieceOf)) (names : List NameOf) (spare room : Spare)
    (more : List (Option PieceOf)) where
  -- the store before, and with what is added
  abbrev pub before : Store
  before = record { rows = rows; pieces = pieces; names = names; spare = spare }

  abbrev pub grown : Store
  grown = record { rows = later; pieces = pieces ++ more; names = names; spare = room }

  -- a live piece stays live, over the same span
  live_stays : (span : Ends) (seen : Seen) → IsLiveOver before span seen → IsLiveOver grown span seen
  live_stays span (Const c) h = tt
  live_stays span (Piece p) h =
      let piece = some_and (λ (q : PieceOf). q.span ≡ span) (piece_at before p) h in
      and_some (λ (q : PieceOf). q.span ≡ span) (piece_at grown p) piece.0 (held_front pieces more p piece.0 piece.1) piece.2

  -- and its cells hold the same terms
  term_stays : (span : Ends) (seen : Seen) → IsLiveOver before span seen → term_in grown seen ≡ term_in before seen
  term_stays span (Const c) h = refl
  term_stays span (Piece p) h =
      let piece = some_and (λ (q : PieceOf). q.span ≡ span) (piece_at before p) h in
      let same = held_front pieces more p piece.0 piece.1 ∙ sym piece.1 in
      ap (λ (o : Option PieceOf). option_map_or (λ q. unknown (unknown_value q.unknown)) o (unknown (numbered p))) same

  module _ (ok : IsStore before) (new : List SeenRow) (adds : AddsRows rows later new) where
    fact_stays : (number : ℕ) (row : SeenRow) → row_at rows number ≡ Some row → fact_in grown row ≡ fact_in before row
    fact_stays number row e =
        let cells = map_alike (term_in grown) (term_in before) row.cells
        (All-weaker (IsLiveOver before row.span) (λ seen. term_in grown seen ≡ term_in before seen) (term_stays row.span) row.cells
        (ok.live number row e)) in
        λ i. record { row = record { relation = row.relation; terms = cells i }; span = row.span }

    -- the facts of the new rows are there too
    pub facts_grow : IsPermutation (facts_in before ++ map (fact_in grown) new) (facts_in grown)
    facts_grow =
        let whole = IsPermutation-map (fact_in grown) (filter_map (λ (r : Option SeenRow). r) rows ++ new)
        (filter_map (λ (r : Option SeenRow). r) later) adds.rows in
        let old = map-append (fact_in grown) (filter_map (λ (r : Option SeenRow). r) rows) new
        ∙ ap (λ l. l ++ map (fact_in grown) new)
        (sym (held_map_all (fact_in grown) rows) ∙ held_alike (fact_in grown) (fact_in before) rows fact_stays) in
        subst (λ l. IsPermutation l (facts_in grown)) old
        (subst (IsPermutation (map (fact_in grown) (filter_map (λ (r : Option SeenRow). r) rows ++ new)))
        (sym (held_map_all (fact_in grown) later)) whole)

    -- a row is one of the others, or new
    row_cases : (number : ℕ) (row : SeenRow) → row_at later number ≡ Some row
        → ((n : ℕ) × (row_at rows n ≡ Some row)) ⊎ Contains new row
    row_cases number row e = contains_either rows new row
        (Contains-permutation (filter_map (λ (r : Option SeenRow). r) later) (filter_map (λ (r : Option SeenRow). r) rows ++ new) row
        (IsPermutation-sym (filter_map (λ (r : Option SeenRow). r) rows ++ new) (filter_map (λ (r : Option SeenRow). r) later) adds.rows)
        (held_one later number row e))

    -- a new row has a number
    new_place : (row : SeenRow) → Contains new row → (n : ℕ) × (row_at later n ≡ Some row)
    new_place row c = held_place later row
        (Contains-permutation (filter_map (λ (r : Option SeenRow). r) rows ++ new) (filter_map (λ (r : Option SeenRow). r) later) row adds.rows
        (contains_right (filter_map (λ (r : Option SeenRow). r) rows) new row c))

    module _ (live : All (λ (row : SeenRow). All (IsLiveOver grown row.span) row.cells) new)
        (used : (k : ℕ) (piece : PieceOf) → held_at more k ≡ Some piece
        → (n : ℕ) × IsSomeAnd (slice_get new n) (λ row. Contains row.cells (Piece (length pieces + k))))
        (fresh : (m k : ℕ) (a b : PieceOf) → held_at pieces m ≡ Some a → held_at more k ≡ Some b → a.unknown ≡ b.unknown
        → AreApart a.span b.span)
        (apart : (j k : ℕ) (a b : PieceOf) → held_at more j ≡ Some a → held_at more k ≡ Some b → a.unknown ≡ b.unknown
        → j ≢ k → AreApart a.span b.span) where
      grown_live : (number : ℕ) (row : SeenRow) → row_at grown.rows number ≡ Some row → All (IsLiveOver grown row.span) row.cells
      grown_live number row e = ⊎_elim
          (λ (old : (n : ℕ) × (row_at rows n ≡ Some row)).
          All-weaker (IsLiveOver before row.span) (IsLiveOver grown row.span) (live_stays row.span) row.cells (ok.live old.0 row old.1))
          (λ (h : Contains new row). All-contains (λ (r : SeenRow). All (IsLiveOver grown r.span) r.cells) new row live h)
          (row_cases number row e)

      grown_used : (number : ℕ) (piece : PieceOf) → piece_at grown number ≡ Some piece → HoldsPiece grown number
      grown_used number piece e = ⊎_elim
          (λ old. let h = ok.used number piece old in
          let row = some_and (λ (r : SeenRow). Contains r.cells (Piece number)) (row_at rows h.0) h.1 in (
            h.0,
            and_some (λ (r : SeenRow). Contains r.cells (Piece number)) (row_at grown.rows h.0) row.0
                (adds.kept h.0 row.0 row.1) row.2,
          ))
          (λ (h : (k : ℕ) × (number ≡ length pieces + k) × (held_at more k ≡ Some piece)).
          let n = used h.0 piece h.2 in
          let row = some_and (λ (r : SeenRow). Contains r.cells (Piece (length pieces + h.0))) (slice_get new n.0) n.1 in
          let place = new_place row.0 (contains_from_at new n.0 row.0 row.1) in (
            place.0,
            and_some (λ (r : SeenRow). Contains r.cells (Piece number)) (row_at grown.rows place.0) row.0 place.1
                (subst (λ p. Contains row.0.cells (Piece p)) (sym h.1) row.2),
          ))
          (held_cases pieces more number piece e)

      grown_apart : (m n : ℕ) (a b : PieceOf) → piece_at grown m ≡ Some a → piece_at grown n ≡ Some b → a.unknown ≡ b.unknown
          → m ≢ n → AreApart a.span b.span
      grown_apart m n a b p q e differ = ⊎_elim
          (λ (old : held_at pieces m ≡ Some a). ⊎_elim
          (λ (other : held_at pieces n ≡ Some b). ok.apart m n a b old other e differ)
          (λ (h : (k : ℕ) × (n ≡ length pieces + k) × (held_at more k ≡ Some b)). fresh m h.0 a b old h.2 e)
          (held_cases pieces more n b q))
          (λ (h : (k : ℕ) × (m ≡ length pieces + k) × (held_at more k ≡ Some a)). ⊎_elim
          (λ (other : held_at pieces n ≡ Some b). λ t x y. fresh n h.0 b a other h.2 (sym e) t y x)
          (λ (g : (k : ℕ) × (n ≡ length pieces + k) × (held_at more k ≡ Some b)).
          apart h.0 g.0 a b h.2 g.2 e (λ same. differ (h.1 ∙ ap (λ k. length pieces + k) same ∙ sym g.1)))
          (held_cases pieces more n b q))
          (held_cases pieces more m a p)

      pub grown_is_store : IsStore grown
      grown_is_store = record { live = grown_live; used = grown_used; apart = grown_apart; distinct = ok.distinct }
