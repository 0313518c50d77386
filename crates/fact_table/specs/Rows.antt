-- Rows as a store shows them. A store is a list, in which the row with a number stands at that place, and a place may be empty.
use Rattle.std.specs.Prelude.{ℕ, ◌<◌, List, Option, Some, IsSomeAnd, length, map, slice_get}
use Rattle.std.specs.Option.{option_and_then, option_map}
use Rattle.time_line.specs.Span.{Ends}
use Rattle.term_core.specs.declared.term.Seen.{Seen}
use Rattle.term_core.specs.declared.term.Seen.TheVariants.{Const}
use Rattle.fact_table.specs.declared.fact.Fact.{Fact}
use Rattle.fact_table.specs.declared.fact.RowHead.{RowHead}

-- a row: its relation, its cells, and the span over which it holds
pub record SeenRow : Type 0 where
  pub relation : ℕ
  pub cells : List Seen
  pub span : Ends

-- the row with the number, if there is one
abbrev pub row_at : List (Option SeenRow) → ℕ → Option SeenRow
row_at rows number = option_and_then (λ row. row) (slice_get rows number)

-- the head of a row
abbrev pub head_of : SeenRow → RowHead
head_of row = record { relation = row.relation; arity = length row.cells; span = row.span }

-- the head of the row with the number, if there is one
abbrev pub head_at : List (Option SeenRow) → ℕ → Option RowHead
head_at rows number = option_map head_of (row_at rows number)

-- there is a row with the number, and it has a cell in the column
abbrev pub HasCell : List (Option SeenRow) → ℕ → ℕ → Type 0
HasCell rows number column = IsSomeAnd (row_at rows number) (λ row. column < length row.cells)

-- the cell of the row with the number in the column, if there is one
abbrev pub cell_at : List (Option SeenRow) → ℕ → ℕ → Option Seen
cell_at rows number column = option_and_then (λ row. slice_get row.cells column) (row_at rows number)

-- a fact as a row of constants
abbrev pub row_of : Fact → SeenRow
row_of fact = record { relation = fact.relation; cells = map Const fact.row; span = fact.span }

-- the rows of a table: the number of a fact is its place
abbrev pub rows_of : List Fact → List (Option SeenRow)
rows_of facts = map (λ fact. Some (row_of fact)) facts
