-- What rows have in common while others change. No public clause cites this module.
use Rattle.std.specs.Prelude.{◌≡◌, ◌⊎◌, ℕ, ℤ, List, Option, Some, Contains, length, slice_get}
use Rattle.time_line.specs.Span.{Has}
use Rattle.fact_table.specs.Rows.{SeenRow, row_at}

-- at the instant the other row is there still, itself or as one of these, with all cells that it had in common with the row
pub record HasHeir (numbers : List ℕ) (new : List (Option SeenRow)) (row : SeenRow) (t : ℤ) (number : ℕ) (other : SeenRow) : Type 0 where
  pub heir : ℕ
  pub later : SeenRow
  pub which : (heir ≡ number) ⊎ Contains numbers heir
  pub there : row_at new heir ≡ Some later
  pub instant : Has later.span t
  pub relation : later.relation ≡ other.relation
  pub arity : length later.cells ≡ length other.cells
  pub cells : (column : ℕ) → slice_get other.cells column ≡ slice_get row.cells column → slice_get later.cells column ≡ slice_get row.cells column

-- what a row that is none of these has in common with others at an instant, they have in common with it still
abbrev pub KeepsShared : List ℕ → List (Option SeenRow) → List (Option SeenRow) → Type 0
KeepsShared numbers old new = (number other : ℕ) (row before : SeenRow) (t : ℤ) → ¬ (Contains numbers number)
    → row_at new number ≡ Some row → Has row.span t → row_at old other ≡ Some before → Has before.span t
    → HasHeir numbers new row t other before
