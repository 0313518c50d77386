-- How a component is searched. No public clause cites this module.
use Rattle.std.specs.Prelude.{◌≡◌, ◌⊎◌, ℕ, ◌<◌, ◌≤◌, Some, List, ◌++◌, Contains, length, slice_get}
use Rattle.term_core.specs.declared.term.Seen.TheVariants.{Piece}
use Rattle.fact_table.specs.Rows.{cell_at}
use Rattle.null_store.specs.Store.{Store}
use Rattle.failure_trace.specs.JournalRun.{Reaches}
use Rattle.null_store.specs.Splits.{HasPiece, SharePiece}

-- the rows that hold the piece are there too, behind the others
pub record Walks (store : Store) (piece : ℕ) (old new : List ℕ) : Type 0 where
  pub behind : (more : List ℕ) × (new ≡ old ++ more)
  pub holders : (number : ℕ) → HasPiece store number piece → Contains new number
  pub only : (number : ℕ) → Contains new number → Contains old number ⊎ HasPiece store number piece

-- each row that holds one of the pieces is among the numbers
abbrev pub AreWalked : Store → List ℕ → List ℕ → Type 0
AreWalked store pieces numbers = (piece number : ℕ) → Contains pieces piece → HasPiece store number piece → Contains numbers number

-- the pieces of the row's cells below a column are among those that are walked, and the rows that were added share a piece with it
pub record VisitsBelow (store : Store) (row column : ℕ) (old new walked walked_later : List ℕ) : Type 0 where
  pub behind : (more : List ℕ) × (new ≡ old ++ more)
  pub pieces : (k piece : ℕ) → k < column → cell_at store.rows row k ≡ Some (Piece piece) → Contains walked_later piece
  pub kept : (piece : ℕ) → Contains walked piece → Contains walked_later piece
  pub walks : AreWalked store walked old → AreWalked store walked_later new
  pub only : (number : ℕ) → Contains new number → Contains old number ⊎ SharePiece store row number

-- and those of all its cells
pub record Visits (store : Store) (row : ℕ) (old new walked walked_later : List ℕ) : Type 0 where
  pub behind : (more : List ℕ) × (new ≡ old ++ more)
  pub pieces : (piece : ℕ) → HasPiece store row piece → Contains walked_later piece
  pub kept : (piece : ℕ) → Contains walked piece → Contains walked_later piece
  pub walks : AreWalked store walked old → AreWalked store walked_later new
  pub only : (number : ℕ) → Contains new number → Contains old number ⊎ SharePiece store row number

-- the rows that are found are reached, with all rows that hold a piece that is walked, and the pieces of so many of them are walked
pub record Finds (store : Store) (from done : ℕ) (found walked : List ℕ) : Type 0 where
  pub start : Contains found from
  pub reached : (number : ℕ) → Contains found number → Reaches (SharePiece store) from number
  pub walks : AreWalked store walked found
  pub pieces : (k number piece : ℕ) → k < done → slice_get found k ≡ Some number → HasPiece store number piece → Contains walked piece
  pub within : done ≤ length found
