-- How rows of a store are cut at an instant, each with all rows that share a piece with it.
use Rattle.std.specs.Prelude.{◌≡◌, ℤ, ℕ, ◌+◌, ◌≤◌, List, ◌++◌, Option, Some, None, IsSomeAnd, All, Contains, IsPermutation, length, map, slice_get}
use Rattle.std.specs.List.{filter_map, sum_by}
use Rattle.std.specs.Option.{option_map, option_map_or}
use Rattle.time_line.specs.Span.{Ends, ends, IsInside, IsWithinLimit}
use Rattle.term_core.specs.declared.const_id.ConstId.{ConstId}
use Rattle.term_core.specs.declared.term.Seen.TheVariants.{Piece}
use Rattle.rule_core.specs.Terms.{FactOf, StampedOf}
use Rattle.fact_table.specs.Rows.{SeenRow, row_at}
use Rattle.null_store.specs.Store.{PieceOf, Store, piece_at, fact_in, facts_in}
use Rattle.null_store.specs.Changes.{HasRoom}

-- the parts of a span before an instant, and from it on
abbrev pub part_before : ℤ → Ends → Ends
part_before m span = ends span.lo (Some m)

abbrev pub part_after : ℤ → Ends → Ends
part_after m span = ends (Some m) span.hi

-- a row, a piece and a fact over a part of their span
abbrev pub row_over : (Ends → Ends) → SeenRow → SeenRow
row_over part row = record { relation = row.relation; cells = row.cells; span = part row.span }

abbrev pub piece_over : (Ends → Ends) → PieceOf → PieceOf
piece_over part piece = record { unknown = piece.unknown; span = part piece.span }

abbrev pub fact_over : {X : Type 0} → (Ends → Ends) → StampedOf X → StampedOf X
fact_over part fact = record { row = fact.row; span = part fact.span }

-- no number comes twice
abbrev pub AreOnce : List ℕ → Type 0
AreOnce numbers = (j k n : ℕ) → slice_get numbers j ≡ Some n → slice_get numbers k ≡ Some n → j ≡ k

-- the row with the number holds the piece
abbrev pub HasPiece : Store → ℕ → ℕ → Type 0
HasPiece store number piece = IsSomeAnd (row_at store.rows number) (λ row. Contains row.cells (Piece piece))

-- the rows hold one piece
abbrev pub SharePiece : Store → ℕ → ℕ → Type 0
SharePiece store number other = (piece : ℕ) × HasPiece store number piece × HasPiece store other piece

-- how many cells the row with the number has, and the rows with the numbers
abbrev pub row_cells : List (Option SeenRow) → ℕ → ℕ
row_cells rows number = option_map_or (λ row. length row.cells) (row_at rows number) 0

abbrev pub cells_of : List (Option SeenRow) → List ℕ → ℕ
cells_of rows numbers = sum_by (row_cells rows) numbers

-- the rows with the numbers, as facts
abbrev pub facts_at : Store → List ℕ → List (StampedOf (FactOf ConstId))
facts_at store numbers = filter_map (λ number. option_map (fact_in store) (row_at store.rows number)) numbers

-- the instant is strictly inside the span of each of these rows, they are all that share a piece with one of them, and there is room
-- for a copy of each; no row has more pieces than cells
pub record CanSplit (store : Store) (numbers : List ℕ) (m : ℤ) : Type 0 where
  pub once : AreOnce numbers
  pub inside : All (λ number. IsSomeAnd (row_at store.rows number) (λ row. IsInside row.span m)) numbers
  pub limit : IsWithinLimit (Some m)
  pub sharers : (number other : ℕ) → Contains numbers number → SharePiece store number other → Contains numbers other
  pub room : HasRoom store (length numbers) (cells_of store.rows numbers) (cells_of store.rows numbers)

-- the row keeps the part of its span before the instant, and its copy stands under a number that had no row and has the other part
pub record SplitsRow (m : ℤ) (old new : Store) (number copy : ℕ) (row : SeenRow) : Type 0 where
  pub here : row_at new.rows number ≡ Some (row_over (part_before m) row)
  pub fact : fact_in new (row_over (part_before m) row) ≡ fact_over (part_before m) (fact_in old row)
  pub vacant : row_at old.rows copy ≡ None
  pub there : IsSomeAnd (row_at new.rows copy) (λ later. fact_in new later ≡ fact_over (part_after m) (fact_in old row))

-- each of the rows is cut, and its copy has the number at the same place; what stands under other numbers stays, as rows and as facts
pub record SplitsRows (numbers : List ℕ) (m : ℤ) (made : List ℕ) (old new : Store) : Type 0 where
  pub size : length made ≡ length numbers
  pub once : AreOnce made
  pub each : (k number copy : ℕ) (row : SeenRow) → slice_get numbers k ≡ Some number → slice_get made k ≡ Some copy
      → row_at old.rows number ≡ Some row → SplitsRow m old new number copy row
  pub others : (number : ℕ) → ¬ (Contains numbers number) → ¬ (Contains made number) → row_at new.rows number ≡ row_at old.rows number
  pub facts : (number : ℕ) (row : SeenRow) → ¬ (Contains numbers number) → row_at old.rows number ≡ Some row
      → fact_in new row ≡ fact_in old row

-- the piece keeps the part of its span before the instant, and a new piece of its unknown has the other part
pub record SplitsPiece (m : ℤ) (old new : Store) (number : ℕ) (piece : PieceOf) : Type 0 where
  pub here : piece_at new number ≡ Some (piece_over (part_before m) piece)
  pub twin : ℕ
  pub vacant : piece_at old twin ≡ None
  pub there : piece_at new twin ≡ Some (piece_over (part_after m) piece)

-- each piece that one of the rows holds is cut, and all others stay
pub record SplitsPieces (numbers : List ℕ) (m : ℤ) (old new : Store) : Type 0 where
  pub each : (number p : ℕ) (piece : PieceOf) → Contains numbers number → HasPiece old number p → piece_at old p ≡ Some piece
      → SplitsPiece m old new p piece
  pub others : (p : ℕ) (piece : PieceOf) → ((number : ℕ) → Contains numbers number → ¬ (HasPiece old number p))
      → piece_at old p ≡ Some piece → piece_at new p ≡ Some piece

-- as lists of facts: instead of the rows there are those over the parts before the instant, and those over the parts from it on
pub record SplitsFacts (numbers : List ℕ) (m : ℤ) (old new : Store) : Type 0 where
  pub others : List (StampedOf (FactOf ConstId))
  pub before : IsPermutation (facts_at old numbers ++ others) (facts_in old)
  pub after : IsPermutation (map (fact_over (part_before m)) (facts_at old numbers)
      ++ (map (fact_over (part_after m)) (facts_at old numbers) ++ others)) (facts_in new)

-- names stay, and the room is less by at most what the copies take
pub record UsesRoomOf (numbers : List ℕ) (old new : Store) : Type 0 where
  pub names : new.names ≡ old.names
  pub rows : old.spare.rows ≤ new.spare.rows + length numbers
  pub cells : old.spare.cells ≤ new.spare.cells + cells_of old.rows numbers
  pub pieces : old.spare.pieces ≤ new.spare.pieces + cells_of old.rows numbers
