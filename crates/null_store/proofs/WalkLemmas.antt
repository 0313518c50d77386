-- The cells of a list, one after another.
use Rattle.std.proofs.Common.{◌≡◌, ◌≢◌, ℕ, ◌+◌, ◌<◌, ◌≤◌, get_or, set, Option, Some, None, List, [], ◌∷◌, ◌++◌, length, sym, ap, ◌∙◌, arith, ⊎_elim}
use Rattle.std.specs.Prelude.{slice_get}
use Rattle.std.specs.Option.{option_map}
use Rattle.std.proofs.lemmas.Bool.{cases_lt, cases_eq}
use Rattle.std.proofs.lemmas.List.{length_push}
use Rattle.std.proofs.lemmas.Option.{slice_get_within}
use Rattle.term_core.specs.declared.term.Seen.{Seen}
use Rattle.term_core.specs.declared.term.Seen.TheVariants.{Const, Piece}
use Rattle.row_arena.specs.declared.cell.Cell.{Cell}
use Rattle.row_arena.specs.Arena.{Arena, cell_in}
use Rattle.row_arena.specs.Changes.{with_content}
use Rattle.row_arena.proofs.LookUpLemmas.{written_here, written_else}
use Rattle.null_store.specs.declared.piece.CellList.{CellList}
use Rattle.null_store.specs.Layout.{IsWalk, HasRowsBelow, IsRewritten, KeepsRows, with_value}
use Rattle.null_store.proofs.ListLemmas.{some_and, and_some, same_some, holds_at, in_front, at_end}

module _ (f : ℕ → Option Cell) (list : CellList) (ids : List ℕ) (walk : IsWalk f list ids) (n : ℕ) where
  -- the cell that stands at a place is there, and leads to the next
  pub at_place : (id : ℕ) → slice_get ids n ≡ Some id → (c : Cell) × (f id ≡ Some c)
  at_place id e = let c = some_and (λ (w : Cell). w.after ≡ slice_get ids (n + 1)) (f id) (walk.leads n id e) in (c.0, c.1)

  pub after_is : (id : ℕ) (c : Cell) → slice_get ids n ≡ Some id → f id ≡ Some c → c.after ≡ slice_get ids (n + 1)
  after_is id c e is = holds_at (λ (w : Cell). w.after ≡ slice_get ids (n + 1)) (f id) c is (walk.leads n id e)

  module _ (g : ℕ → Option Cell) (by : Seen) (last : Option ℕ) (so_far : IsRewritten f g ids n by last) where
    -- the next cell is as it was
    pub still : (id : ℕ) → slice_get ids n ≡ Some id → g id ≡ f id
    still id e = so_far.others id (λ k l at. let clash = walk.once k n id at e in omega (arith, l, clash))

    -- and one more is written
    pub one_more_written : (h : ℕ → Option Cell) (id : ℕ) → slice_get ids n ≡ Some id → h id ≡ option_map (with_value by last) (f id)
        → ((j : ℕ) → j ≢ id → h j ≡ g j) → IsRewritten f h ids (n + 1) by last
    one_more_written h id e here else_same = record {
      within = λ k j l at. ⊎_elim
          (λ (same : j ≡ id). ap h same ∙ here ∙ ap (λ i. option_map (with_value by last) (f i)) (sym same))
          (λ (differ : j ≢ id). ⊎_elim
          (λ (before : k < n). else_same j differ ∙ so_far.within k j before at)
          (λ (not_before : n ≤ k). let here : k ≡ n = omega (arith, l, not_before) in
          absurd (differ (same_some (slice_get ids n) j id (sym (ap (slice_get ids) here) ∙ at) e)))
          (cases_lt k n))
          (cases_eq j id);
      others = λ j never.
          let last : n < n + 1 = omega arith in
          else_same j (λ same. never n last (e ∙ ap Some (sym same)))
          ∙ so_far.others j (λ k l. never k (omega (arith, l)));
    }

  -- one more has its row
  pub one_more_row : (rows : List ℕ) → HasRowsBelow f ids n rows → (id : ℕ) (c : Cell) → slice_get ids n ≡ Some id → f id ≡ Some c
      → HasRowsBelow f ids (n + 1) (rows ++ c.row ∷ [])
  one_more_row rows so_far id c e is = record {
    size = omega (arith, length_push rows c.row, so_far.size);
    each = λ k j l at. ⊎_elim
        (λ (before : k < n).
        let d = some_and (λ (w : Cell). slice_get rows k ≡ Some w.row) (f j) (so_far.each k j before at) in
        and_some (λ (w : Cell). slice_get (rows ++ c.row ∷ []) k ≡ Some w.row) (f j) d.0 d.1
        (in_front rows (c.row ∷ []) k (slice_get_within rows k d.0.row d.2) ∙ d.2))
        (λ (not_before : n ≤ k). let here : k ≡ n = omega (arith, l, not_before) in
        let same = same_some (slice_get ids n) j id (sym (ap (slice_get ids) here) ∙ at) e in
        let place : k ≡ length rows = omega (arith, here, so_far.size) in
        and_some (λ (w : Cell). slice_get (rows ++ c.row ∷ []) k ≡ Some w.row) (f j) c (ap f same ∙ is)
        (ap (slice_get (rows ++ c.row ∷ [])) place ∙ at_end rows c.row))
        (cases_lt k n);
  }

-- a cell whose content is written
module _ (old new : Arena) (id : ℕ) (value : Seen) (before after : Option ℕ) (is : new ≡ with_content old id value before after) where
  abbrev written : Cell → Cell
  written c = record { row = c.row; column = c.column; value = value; before = before; after = after }

  pub content_here : (c : Cell) → cell_in old id ≡ Some c → cell_in new id ≡ Some (written c)
  content_here c there =
      ap (λ (a : Arena). cell_in a id) is
      ∙ ap (λ (o : Option Cell). get_or (set old.cells id (option_map written o)) id None) there
      ∙ written_here old.cells id c (written c) there

  pub content_else : (other : ℕ) → other ≢ id → cell_in new other ≡ cell_in old other
  content_else other differ = ap (λ (a : Arena). cell_in a other) is ∙ written_else old.cells id other _ differ

  pub content_keeps : (first : Arena) → KeepsRows first old → KeepsRows first new
  content_keeps first keeps = record {
    rows = ap (λ (a : Arena). a.rows) is ∙ keeps.rows;
    spare_rows = ap (λ (a : Arena). a.spare_rows) is ∙ keeps.spare_rows;
    spare_cells = ap (λ (a : Arena). a.spare_cells) is ∙ keeps.spare_cells;
  }

-- a cell with another value stands where it stood
pub same_place : (by : Seen) (last : Option ℕ) (c w : Cell) → w ≡ with_value by last c
    → (let placed : Cell = record { row = c.row; column = c.column; value = w.value; before = w.before; after = w.after } in
    placed ≡ with_value by last c)
same_place (Const k) last c w e = λ i. record { row = c.row; column = c.column; value = (e i).value; before = (e i).before; after = (e i).after }
same_place (Piece p) last c w e = λ i. record { row = c.row; column = c.column; value = (e i).value; before = (e i).before; after = (e i).after }
