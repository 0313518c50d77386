-- How a `RowArena` lays out its rows and cells. No public clause cites this module.
use Rattle.std.specs.Prelude.{◌≡◌, ◌≢◌, ◌⊎◌, ℕ, ◌-◌, ◌<◌, ◌≤◌, List, Option, Some, None, IsSomeAnd, length, map, take, slice_index_or}
use Rattle.std.specs.List.{range_with_len}
use Rattle.std.specs.Option.{option_map}
use Rattle.slab.specs.Slab.{Slab, slab_len}
use Rattle.term_core.specs.declared.term.Seen.{Seen}
use Rattle.term_core.specs.declared.term.Seen.TheVariants.{Const}
use Rattle.row_arena.specs.declared.cell.Cell.{Cell}
use Rattle.row_arena.specs.declared.held.HeldRow.{HeldRow}
use Rattle.row_arena.specs.declared.held.TheConstants.{MOST_COLUMNS}
use Rattle.row_arena.specs.Arena.{RowOf, Arena, IsArena}
use Rattle.row_arena.specs.Changes.{new_cell}

-- what is under a key of a slab
abbrev pub at : {X : Type 0} → List (Option X) → ℕ → Option X
at slots key = slice_index_or slots key None

-- a row as callers see it
abbrev pub row_of : HeldRow → RowOf
row_of held = record { relation = held.head.relation; span = held.head.span; cells = take held.head.arity held.ids }

-- the row under a key, as callers see it
abbrev pub held_in : List (Option HeldRow) → ℕ → Option RowOf
held_in slots number = option_map row_of (at slots number)

-- the rows below a number
abbrev pub rows_of : List (Option HeldRow) → ℕ → List (Option RowOf)
rows_of slots bound = map (held_in slots) (range_with_len 0 bound)

-- an arena from its parts
abbrev pub arena_of : Slab HeldRow → ℕ → Slab Cell → Arena
arena_of rows bound cells = record {
  rows = rows_of rows.slots bound;
  cells = cells.slots;
  spare_rows = rows.capacity - slab_len rows;
  spare_cells = cells.capacity - slab_len cells;
}

-- the numbers of the row's cells stand in a list of the most columns
pub record IsHeld (held : HeldRow) : Type 0 where
  pub size : length held.ids ≡ MOST_COLUMNS
  pub arity : held.head.arity ≤ MOST_COLUMNS

-- what each arena keeps: what callers see is an arena, and each row is below the bound
pub record IsSound (rows : List (Option HeldRow)) (bound : ℕ) (cells : List (Option Cell)) : Type 0 where
  pub arena : IsArena (held_in rows) (at cells)
  pub below : (number : ℕ) (held : HeldRow) → at rows number ≡ Some held → number < bound
  pub held : (number : ℕ) (held : HeldRow) → at rows number ≡ Some held → IsHeld held

-- the cell for a column of a row
abbrev pub cell_for : ℕ → List Seen → ℕ → Cell
cell_for number values column = new_cell number column (slice_index_or values column (Const (record { 0 = 0 })))

-- the cells for the first n columns of a row are there too, under these numbers
pub record AddsCells (old new : List (Option Cell)) (number : ℕ) (values : List Seen) (ids : List ℕ) (n : ℕ) : Type 0 where
  pub fresh : (column : ℕ) → column < n → at old (slice_index_or ids column 0) ≡ None
  pub each : (column : ℕ) → column < n → at new (slice_index_or ids column 0) ≡ Some (cell_for number values column)
  pub kept : (id : ℕ) (cell : Cell) → at old id ≡ Some cell → at new id ≡ Some cell
  pub only : (id : ℕ) (cell : Cell) → at new id ≡ Some cell → (at old id ≡ Some cell)
      ⊎ ((column : ℕ) × (column < n) × (slice_index_or ids column 0 ≡ id) × (cell ≡ cell_for number values column))

-- the row's cells from the k-th column on are there, each in its column
abbrev pub AreInPlace : List (Option Cell) → HeldRow → ℕ → Type 0
AreInPlace cells held k = (column : ℕ) → k ≤ column → column < held.head.arity
    → IsSomeAnd (at cells (slice_index_or held.ids column 0)) (λ cell. cell.column ≡ column)

-- the cells of the first n columns of a row are gone, and no other
pub record TakesCells (old new : List (Option Cell)) (ids : List ℕ) (n : ℕ) : Type 0 where
  pub gone : (column : ℕ) → column < n → at new (slice_index_or ids column 0) ≡ None
  pub kept : (id : ℕ) (cell : Cell) → at old id ≡ Some cell
      → ((column : ℕ) → column < n → slice_index_or ids column 0 ≢ id) → at new id ≡ Some cell
  pub only : (id : ℕ) (cell : Cell) → at new id ≡ Some cell → at old id ≡ Some cell
