-- The lists of the cells that hold pieces, over the cells of an arena, and the rows that its cells make.
use Rattle.std.specs.Prelude.{◌≡◌, ℕ, zero, suc, ◌+◌, ◌<◌, List, Option, Some, None, IsSomeAnd, length, map, slice_get}
use Rattle.std.specs.Option.{option_map, option_map_or}
use Rattle.term_core.specs.declared.term.Seen.{Seen}
use Rattle.term_core.specs.declared.term.Seen.TheVariants.{Const, Piece}
use Rattle.fact_table.specs.Rows.{SeenRow, cell_at}
use Rattle.row_arena.specs.declared.cell.Cell.{Cell}
use Rattle.row_arena.specs.Arena.{RowOf, Arena, cell_in}
use Rattle.null_store.specs.declared.piece.CellList.{CellList}

-- what a cell holds
abbrev pub value_at : (ℕ → Option Cell) → ℕ → Seen
value_at cell id = option_map_or (λ c. c.value) (cell id) (Const (record { 0 = 0 }))

-- a row with what its cells hold
abbrev pub seen_in : (ℕ → Option Cell) → RowOf → SeenRow
seen_in cell row = record { relation = row.relation; cells = map (value_at cell) row.cells; span = row.span }

-- the rows of an arena, under the same numbers
abbrev pub rows_seen : Arena → List (Option SeenRow)
rows_seen arena = map (option_map (seen_in (cell_in arena))) arena.rows

-- the number that stands before place k of a list
abbrev pub before_in : List ℕ → ℕ → Option ℕ
before_in ids zero = None
before_in ids (suc k) = slice_get ids k

-- the cell holds the piece, and leads to the cells that stand before and after place k of the list
pub record IsLinked (piece : ℕ) (ids : List ℕ) (k : ℕ) (cell : Cell) : Type 0 where
  pub value : cell.value ≡ Piece piece
  pub before : cell.before ≡ before_in ids k
  pub after : cell.after ≡ slice_get ids (k + 1)

-- the list is exactly the cells that hold the piece, each once, with links that agree both ways
pub record IsOccurrenceList (cell : ℕ → Option Cell) (piece : ℕ) (ids : List ℕ) : Type 0 where
  pub linked : (k id : ℕ) → slice_get ids k ≡ Some id → IsSomeAnd (cell id) (IsLinked piece ids k)
  pub all : (id : ℕ) (c : Cell) → cell id ≡ Some c → c.value ≡ Piece piece → (k : ℕ) × (slice_get ids k ≡ Some id)
  pub once : (j k id : ℕ) → slice_get ids j ≡ Some id → slice_get ids k ≡ Some id → j ≡ k

-- the ends and the count are those of the list
pub record HasEnds (list : CellList) (ids : List ℕ) : Type 0 where
  pub first : list.first ≡ slice_get ids 0
  pub last : list.last ≡ before_in ids (length ids)
  pub count : list.count ≡ length ids

-- each piece has its list, and cells hold no other pieces
pub record AreListed (cell : ℕ → Option Cell) (lists : List CellList) : Type 0 where
  pub each : (piece : ℕ) (list : CellList) → slice_get lists piece ≡ Some list
      → (ids : List ℕ) × HasEnds list ids × IsOccurrenceList cell piece ids
  pub there : (id : ℕ) (c : Cell) (piece : ℕ) → cell id ≡ Some c → c.value ≡ Piece piece → piece < length lists

-- a place of a row
pub record Place : Type 0 where
  pub row : ℕ
  pub column : ℕ

-- the places are exactly those of the cells that hold the piece, each once
pub record AreOccurrences (rows : List (Option SeenRow)) (piece : ℕ) (places : List Place) : Type 0 where
  pub hold : (k : ℕ) (place : Place) → slice_get places k ≡ Some place → cell_at rows place.row place.column ≡ Some (Piece piece)
  pub all : (row column : ℕ) → cell_at rows row column ≡ Some (Piece piece)
      → (k : ℕ) × (slice_get places k ≡ Some (record { row = row; column = column }))
  pub once : (j k : ℕ) (place : Place) → slice_get places j ≡ Some place → slice_get places k ≡ Some place → j ≡ k

-- so many cells hold the piece
abbrev pub HasOccurrences : List (Option SeenRow) → ℕ → ℕ → Type 0
HasOccurrences rows piece n = (places : List Place) × (length places ≡ n) × AreOccurrences rows piece places

-- the rows of the cells that hold the piece, each as often as its cells hold it
abbrev pub HasRowsOf : List (Option SeenRow) → ℕ → List ℕ → Type 0
HasRowsOf rows piece numbers = (places : List Place) × (numbers ≡ map (λ place. place.row) places) × AreOccurrences rows piece places
