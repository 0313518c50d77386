-- Rows and their cells, each under a number. A number may have nothing.
use Rattle.std.specs.Prelude.{◌≡◌, ℕ, ◌<◌, ◌≤◌, List, Option, Some, None, IsSome, IsSomeAnd, length, slice_get, slice_index_or}
use Rattle.time_line.specs.Span.{Ends}
use Rattle.row_arena.specs.declared.cell.Cell.{Cell}
use Rattle.row_arena.specs.declared.cell.ArenaRow.{ArenaRow}
use Rattle.row_arena.specs.declared.held.TheConstants.{MOST_COLUMNS}

-- a row: its relation, its span, and the numbers of its cells in the order of its columns
pub record RowOf : Type 0 where
  pub relation : ℕ
  pub span : Ends
  pub cells : List ℕ

-- what stands under each number from 0 on, and how many more rows and cells there is room for
pub record Arena : Type 0 where
  pub rows : List (Option RowOf)
  pub cells : List (Option Cell)
  pub spare_rows : ℕ
  pub spare_cells : ℕ

-- the row with the number, if there is one
abbrev pub row_in : Arena → ℕ → Option RowOf
row_in arena number = slice_index_or arena.rows number None

-- the cell with the number, if there is one
abbrev pub cell_in : Arena → ℕ → Option Cell
cell_in arena id = slice_index_or arena.cells id None

-- what a row is without its cells
abbrev pub head_of : RowOf → ArenaRow
head_of row = record { relation = row.relation; arity = length row.cells; span = row.span }

-- there is a row with the number
abbrev pub HasRow : Arena → ℕ → Type 0
HasRow arena number = IsSome (row_in arena number)

-- there is a cell with the number
abbrev pub HasCell : Arena → ℕ → Type 0
HasCell arena id = IsSome (cell_in arena id)

-- there is a row with the number, and it has the column
abbrev pub HasColumn : Arena → ℕ → ℕ → Type 0
HasColumn arena number column = IsSomeAnd (row_in arena number) (λ row. column < length row.cells)

-- the cell stands in row n, in column k
pub record StandsAt (cell : Cell) (n k : ℕ) : Type 0 where
  pub row : cell.row ≡ n
  pub column : cell.column ≡ k

-- what each arena is: a row has one cell for each of its columns, which stands there, and each cell is one of these
pub record IsArena (row : ℕ → Option RowOf) (cell : ℕ → Option Cell) : Type 0 where
  pub few : (number : ℕ) (r : RowOf) → row number ≡ Some r → length r.cells ≤ MOST_COLUMNS
  pub columns : (number : ℕ) (r : RowOf) → row number ≡ Some r → (column id : ℕ) → slice_get r.cells column ≡ Some id
      → IsSomeAnd (cell id) (λ c. StandsAt c number column)
  pub placed : (id : ℕ) (c : Cell) → cell id ≡ Some c → IsSomeAnd (row c.row) (λ r. slice_get r.cells c.column ≡ Some id)
