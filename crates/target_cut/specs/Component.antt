-- The component of a row: all rows that are reached from it by sharing pieces.
use Rattle.std.specs.Prelude.{◌↔◌, ℕ, ◌<◌, List, AllPairs, Contains}
use Rattle.null_store.specs.Store.{Store}
use Rattle.null_store.specs.Splits.{SharePiece}
use Rattle.failure_trace.specs.JournalRun.{Reaches}

-- these are the numbers of the rows that are reached from one by sharing pieces, each once, in order
pub record IsComponentOf (store : Store) (from : ℕ) (numbers : List ℕ) : Type 0 where
  pub reached : (number : ℕ) → Contains numbers number ↔ Reaches (SharePiece store) from number
  pub ascending : AllPairs (λ a b. a < b) numbers
