-- What the rows of a component are.
use Rattle.std.proofs.Common.{◌≡◌, ⊎_elim, ℕ, ℤ, zero, suc, ◌<◌, ◌≤◌, Some, List, [], ◌∷◌, get_or, refl, sym, ap, ◌∙◌, subst, arith, All, Contains}
use Rattle.std.specs.Prelude.{IsSomeAnd, slice_get}
use Rattle.std.proofs.lemmas.Bool.{cases_lt}
use Rattle.std.proofs.lemmas.List.Elements.{All-contains, Contains-get_or}
use Rattle.std.proofs.lemmas.Option.{slice_get_within}
use Rattle.time_line.specs.Span.{Ends, IsInside}
use Rattle.term_core.specs.declared.term.Seen.TheVariants.{Piece}
use Rattle.fact_table.specs.Rows.{SeenRow, row_at}
use Rattle.null_store.specs.Store.{Store, PieceOf, IsStore, IsLiveOver, piece_at}
use Rattle.null_store.specs.Splits.{AreOnce, HasPiece, SharePiece}
use Rattle.null_store.proofs.ListLemmas.{some_and, and_some, same_some}
use Rattle.failure_trace.specs.JournalRun.Reaches.{here, further}
use Rattle.target_cut.specs.Component.{IsComponentOf}
use Rattle.target_cut.specs.Cuts.{HaveSpanOf}
use Rattle.target_cut.proofs.ReachLemmas.{all_reached}

-- what stands at a place
value_at : (xs : List ℕ) (k x : ℕ) → slice_get xs k ≡ Some x → get_or xs k x ≡ x
value_at [] k x e = absurd cc
value_at (y ∷ xs) zero x e = cc
value_at (y ∷ xs) (suc k) x e = value_at xs k x e

-- a row is there, and has the span
pub record IsRowOver (store : Store) (span : Ends) (number : ℕ) : Type 0 where
  pub row : SeenRow
  pub there : row_at store.rows number ≡ Some row
  pub over : row.span ≡ span

module _ (store : Store) (ok : IsStore store) where
  -- a piece of a row has its span
  piece_over_row : (number piece : ℕ) (row : SeenRow) → row_at store.rows number ≡ Some row → HasPiece store number piece
      → IsSomeAnd (piece_at store piece) (λ p. p.span ≡ row.span)
  piece_over_row number piece row at holds =
      let r = some_and (λ (r : SeenRow). Contains r.cells (Piece piece)) (row_at store.rows number) holds in
      let same : r.0 ≡ row = same_some (row_at store.rows number) r.0 row r.1 at in
      subst (λ (w : SeenRow). IsSomeAnd (piece_at store piece) (λ p. p.span ≡ w.span)) same
      (All-contains (IsLiveOver store r.0.span) r.0.cells (Piece piece) (ok.live number r.0 r.1) r.2)

  -- rows that share a piece have one span
  pub share_over : (span : Ends) (a b : ℕ) → IsRowOver store span a → SharePiece store a b → IsRowOver store span b
  share_over span a b from share =
      let other = some_and (λ (r : SeenRow). Contains r.cells (Piece share.0)) (row_at store.rows b) share.2 in
      let first = some_and (λ (p : PieceOf). p.span ≡ from.row.span) (piece_at store share.0) (piece_over_row a share.0 from.row from.there share.1) in
      let second = some_and (λ (p : PieceOf). p.span ≡ other.0.span) (piece_at store share.0) (piece_over_row b share.0 other.0 other.1 share.2) in
      let one : first.0 ≡ second.0 = same_some (piece_at store share.0) first.0 second.0 first.1 second.1 in
      record {
        row = other.0;
        there = other.1;
        over = sym second.2 ∙ ap (λ (p : PieceOf). p.span) (sym one) ∙ first.2 ∙ from.over;
      }

  module _ (from : ℕ) (row : SeenRow) (at : row_at store.rows from ≡ Some row) (numbers : List ℕ) (component : IsComponentOf store from numbers) where
    pub over_span : (number : ℕ) → Contains numbers number → IsRowOver store row.span number
    over_span number c = all_reached (SharePiece store) (IsRowOver store row.span) from (record { row = row; there = at; over = refl })
        (λ a b h share. share_over row.span a b h share) number ((component.reached number).0 c)

    pub have_span : HaveSpanOf store from numbers
    have_span = and_some (λ (r : SeenRow). All (λ number. IsSomeAnd (row_at store.rows number) (λ other. other.span ≡ r.span)) numbers)
        (row_at store.rows from) row at
        (λ k d l. let h = over_span (get_or numbers k d) (Contains-get_or numbers k d l) in
        and_some (λ (other : SeenRow). other.span ≡ row.span) (row_at store.rows (get_or numbers k d)) h.row h.there h.over)

    pub closed : (a b : ℕ) → Contains numbers a → SharePiece store a b → Contains numbers b
    closed a b c share = (component.reached b).1 (further a b ((component.reached a).0 c) share)

    pub begins : Contains numbers from
    begins = (component.reached from).1 here

    pub once : AreOnce numbers
    once j k n a b = ⊎_elim
        (λ (l : j < k). absurd (never j k n l a b))
        (λ (g : k ≤ j). ⊎_elim
        (λ (l : k < j). absurd (never k j n l b a))
        (λ (h : j ≤ k). omega (arith, g, h))
        (cases_lt k j))
        (cases_lt j k)
      where
        never : (j k n : ℕ) → j < k → slice_get numbers j ≡ Some n → slice_get numbers k ≡ Some n → ⊥
        never j k n l a b =
            let up = component.ascending j k n l (slice_get_within numbers k n b) in
            omega (arith, up, value_at numbers j n a, value_at numbers k n b)

    pub inside : (m : ℤ) → IsInside row.span m → All (λ number. IsSomeAnd (row_at store.rows number) (λ r. IsInside r.span m)) numbers
    inside m h k d l =
        let other = over_span (get_or numbers k d) (Contains-get_or numbers k d l) in
        and_some (λ (r : SeenRow). IsInside r.span m) (row_at store.rows (get_or numbers k d)) other.row other.there
        (subst (λ (s : Ends). IsInside s m) (sym other.over) h)
