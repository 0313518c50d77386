-- How an arena changes.
use Rattle.std.specs.Prelude.{◌≡◌, ◌≢◌, ◌⊎◌, ℕ, ◌+◌, List, [], Option, Some, None, IsSomeAnd, length, slice_get, slice_set}
use Rattle.std.specs.Option.{option_map}
use Rattle.time_line.specs.Span.{Ends}
use Rattle.term_core.specs.declared.term.Seen.{Seen}
use Rattle.row_arena.specs.declared.cell.Cell.{Cell}
use Rattle.row_arena.specs.Arena.{Arena, row_in, cell_in}

-- no row and no cell
pub record IsEmpty (arena : Arena) : Type 0 where
  pub rows : arena.rows ≡ []
  pub cells : arena.cells ≡ []

-- rows and cells are the same
pub record HoldsSame (old new : Arena) : Type 0 where
  pub rows : new.rows ≡ old.rows
  pub cells : new.cells ≡ old.cells

-- the row's cell for a column, in no list
abbrev pub new_cell : ℕ → ℕ → Seen → Cell
new_cell number column value = record { row = number; column = column; value = value; before = None; after = None }

-- a row with these values is there too, under a number that had none; its cells are new, and all else is as before
pub record AddsRow (old new : Arena) (number relation : ℕ) (span : Ends) (values : List Seen) : Type 0 where
  pub ids : List ℕ
  pub vacant : row_in old number ≡ None
  pub row : row_in new number ≡ Some (record { relation = relation; span = span; cells = ids })
  pub size : length ids ≡ length values
  pub fresh : (column id : ℕ) → slice_get ids column ≡ Some id → cell_in old id ≡ None
  pub each : (column id : ℕ) (value : Seen) → slice_get ids column ≡ Some id → slice_get values column ≡ Some value
      → cell_in new id ≡ Some (new_cell number column value)
  pub rows : (other : ℕ) → other ≢ number → row_in new other ≡ row_in old other
  pub cells : (id : ℕ) (cell : Cell) → cell_in old id ≡ Some cell → cell_in new id ≡ Some cell
  pub only : (id : ℕ) (cell : Cell) → cell_in new id ≡ Some cell → (cell_in old id ≡ Some cell) ⊎ (cell.row ≡ number)
  pub spare_rows : new.spare_rows + 1 ≡ old.spare_rows
  pub spare_cells : new.spare_cells + length values ≡ old.spare_cells

-- the arena with another value and other links in a cell
abbrev pub with_content : Arena → ℕ → Seen → Option ℕ → Option ℕ → Arena
with_content arena id value before after = record arena {
  cells = slice_set arena.cells id
      (option_map (λ c. record { row = c.row; column = c.column; value = value; before = before; after = after }) (cell_in arena id));
}

-- the arena with another cell after a cell
abbrev pub with_after : Arena → ℕ → Option ℕ → Arena
with_after arena id after = record arena {
  cells = slice_set arena.cells id
      (option_map (λ c. record { row = c.row; column = c.column; value = c.value; before = c.before; after = after }) (cell_in arena id));
}

-- the row has another span, and all else is as before
pub record SetsSpan (old new : Arena) (number : ℕ) (span : Ends) : Type 0 where
  pub row : row_in new number
      ≡ option_map (λ r. record { relation = r.relation; span = span; cells = r.cells }) (row_in old number)
  pub rows : (other : ℕ) → other ≢ number → row_in new other ≡ row_in old other
  pub bound : length new.rows ≡ length old.rows
  pub cells : new.cells ≡ old.cells
  pub spare_rows : new.spare_rows ≡ old.spare_rows
  pub spare_cells : new.spare_cells ≡ old.spare_cells

-- the row and its cells are gone, and all else is as before
pub record TakesRow (old new : Arena) (number : ℕ) : Type 0 where
  pub row : row_in new number ≡ None
  pub rows : (other : ℕ) → other ≢ number → row_in new other ≡ row_in old other
  pub bound : length new.rows ≡ length old.rows
  pub gone : (id : ℕ) (cell : Cell) → cell_in new id ≡ Some cell → cell.row ≢ number
  pub cells : (id : ℕ) (cell : Cell) → cell_in old id ≡ Some cell → cell.row ≢ number → cell_in new id ≡ Some cell
  pub only : (id : ℕ) (cell : Cell) → cell_in new id ≡ Some cell → cell_in old id ≡ Some cell
  pub spare_rows : new.spare_rows ≡ old.spare_rows + 1
  pub spare_cells : IsSomeAnd (row_in old number) (λ r. new.spare_cells ≡ old.spare_cells + length r.cells)
