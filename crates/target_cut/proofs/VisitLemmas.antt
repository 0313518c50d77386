-- A row as its cells are visited, from left to right.
use Rattle.std.proofs.Common.{◌≡◌, ⊎_elim, inl, inr, ℕ, zero, ◌+◌, ◌<◌, ◌≤◌, Some, None, Option, List, [], ◌∷◌, ◌++◌, length, refl, sym, ap, ◌∙◌, subst, arith, Contains, Bool, true, false, not, true≢false}
use Rattle.std.specs.Prelude.{slice_get}
use Rattle.std.specs.Option.{option_and_then, option_map}
use Rattle.std.proofs.lemmas.Bool.{cases_lt}
use Rattle.std.proofs.lemmas.List.{append-nil, append_assoc}
use Rattle.std.proofs.lemmas.List.Elements.{All-contains}
use Rattle.std.proofs.lemmas.Option.{slice_get_within}
use Rattle.rule_core.proofs.ListLemmas.{Contains-nil, Contains-head, Contains-cons_cases}
use Rattle.term_core.specs.declared.term.Seen.TheVariants.{Piece}
use Rattle.fact_table.specs.Rows.{SeenRow, row_at, head_of, head_at, cell_at}
use Rattle.fact_table.specs.declared.fact.RowHead.{RowHead}
use Rattle.null_store.specs.Store.{Store, IsStore, IsLive, IsLiveOver, PieceOf, piece_at}
use Rattle.null_store.proofs.ListLemmas.{some_and, and_some}
use Rattle.null_store.specs.Splits.{HasPiece}
use Rattle.target_cut.specs.Search.{Walks, VisitsBelow, Visits}
use Rattle.target_cut.proofs.SearchLemmas.{Inserts, stays, held_cell, cell_held}

-- a piece that a cell holds is live
pub live_in : (store : Store) → IsStore store → (row column piece : ℕ) → cell_at store.rows row column ≡ Some (Piece piece) → IsLive store piece
live_in store ok row column piece e =
    let at = some_and (λ (r : SeenRow). Contains r.cells (Piece piece)) (row_at store.rows row) (cell_held store row column piece e) in
    let span = All-contains (IsLiveOver store at.0.span) at.0.cells (Piece piece) (ok.live row at.0 at.1) at.2 in
    let p = some_and (λ (p : PieceOf). p.span ≡ at.0.span) (piece_at store piece) span in
    and_some _ (piece_at store piece) p.0 p.1 tt

module _ (store : Store) (row : ℕ) (old walked : List ℕ) where
  pub visits_none : VisitsBelow store row zero old old walked walked
  visits_none = record {
    behind = ([], sym (append-nil old));
    pieces = λ k piece l e. absurd (omega arith);
    kept = λ piece c. c;
    walks = λ h. h;
    only = λ number c. inl c;
  }

  module _ (column : ℕ) (new later : List ℕ) (below : VisitsBelow store row column old new walked later) where
    -- what a cell tells
    pub visits_const : ((p : ℕ) → ¬ (cell_at store.rows row column ≡ Some (Piece p))) → VisitsBelow store row (column + 1) old new walked later
    visits_const none = record {
      behind = below.behind;
      pieces = λ k piece l h. ⊎_elim
          (λ (before : k < column). below.pieces k piece before h)
          (λ (g : column ≤ k). let here : k ≡ column = omega arith in
          absurd (none piece (sym (ap (cell_at store.rows row) here) ∙ h)))
          (cases_lt k column);
      kept = below.kept;
      walks = below.walks;
      only = below.only;
    }

    module _ (p : ℕ) (cell : cell_at store.rows row column ≡ Some (Piece p)) (more : List ℕ) (adds : Inserts later (p ∷ []) more) where
      here_too : (k piece : ℕ) → k < column + 1 → cell_at store.rows row k ≡ Some (Piece piece) → Contains more piece
      here_too k piece l h = ⊎_elim
          (λ (before : k < column). stays later more adds.behind piece (below.pieces k piece before h))
          (λ (g : column ≤ k). let here : k ≡ column = omega arith in
          let both : Some (Piece piece) ≡ Some (Piece p) = sym h ∙ ap (cell_at store.rows row) here ∙ cell in
          let same : piece ≡ p = cc in
          subst (Contains more) (sym same) (adds.there p (Contains-head p [])))
          (cases_lt k column)

      -- a piece that was walked before
      pub visits_known : Contains later p → VisitsBelow store row (column + 1) old new walked more
      visits_known known = record {
        behind = below.behind;
        pieces = here_too;
        kept = λ piece c. stays later more adds.behind piece (below.kept piece c);
        walks = λ h piece number c holds. below.walks h piece number (elim (adds.only piece c) [
          | inl before ↦ before
          | inr it ↦ (elim (Contains-cons_cases p piece [] it) [
            | inl same ↦ subst (Contains later) same known
            | inr none ↦ absurd (Contains-nil piece none)
          ])
        ]) holds;
        only = below.only;
      }

      -- a piece that is walked now
      pub visits_new : (further : List ℕ) → Walks store p new further → VisitsBelow store row (column + 1) old further walked more
      visits_new further walk = record {
        behind = (
          below.behind.0 ++ walk.behind.0,
          walk.behind.1 ∙ ap (λ (l : List ℕ). l ++ walk.behind.0) below.behind.1 ∙ append_assoc old below.behind.0 walk.behind.0,
        );
        pieces = here_too;
        kept = λ piece c. stays later more adds.behind piece (below.kept piece c);
        walks = λ h piece number c holds. elim (adds.only piece c) [
          | inl before ↦ stays new further walk.behind number (below.walks h piece number before holds)
          | inr it ↦ (elim (Contains-cons_cases p piece [] it) [
            | inl same ↦ walk.holders number (subst (HasPiece store number) (sym same) holds)
            | inr none ↦ absurd (Contains-nil piece none)
          ])
        ];
        only = λ number c. elim (walk.only number c) [
          | inl before ↦ below.only number before
          | inr holds ↦ inr (p, cell_held store row column p cell, holds)
        ];
      }

  -- all cells
  pub visits_all : (h : RowHead) → head_at store.rows row ≡ Some h → (column : ℕ) (new later : List ℕ) → h.arity ≤ column
      → VisitsBelow store row column old new walked later → Visits store row old new walked later
  visits_all h is column new later size below = record {
    behind = below.behind;
    pieces = λ piece holds.
        let at = held_cell store row piece holds in
        below.pieces at.0 piece (by (row_at store.rows row) is at.0 piece at.1) at.1;
    kept = below.kept;
    walks = below.walks;
    only = below.only;
  }
    where
      by : (o : Option SeenRow) → option_map head_of o ≡ Some h → (k piece : ℕ)
          → option_and_then (λ (r : SeenRow). slice_get r.cells k) o ≡ Some (Piece piece) → k < column
      by None e k piece c = absurd cc
      by (Some r) e k piece c =
          let there = slice_get_within r.cells k (Piece piece) c in
          let arity : length r.cells ≡ h.arity = cc in
          omega (arith, there, arity, size)

  pub visits_same : (column : ℕ) (new later new_too later_too : List ℕ) → new_too ≡ new → later_too ≡ later
      → VisitsBelow store row column old new walked later → VisitsBelow store row column old new_too walked later_too
  visits_same column new later new_too later_too e f h =
      subst (λ (l : List ℕ). VisitsBelow store row column old new_too walked l) (sym f)
      (subst (λ (l : List ℕ). VisitsBelow store row column old l walked later) (sym e) h)

-- what was not added was there
pub was_there : (added there : Bool) → added ≡ not there → added ≡ false → there ≡ true
was_there added true e h = refl
was_there added false e h = absurd (true≢false (sym e ∙ h))
