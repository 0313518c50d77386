-- The four facts that each store keeps over the cells of its arena.
use Rattle.std.specs.Prelude.{◌≡◌, ◌≢◌, ℕ, List, Some, IsSomeAnd, All}
use Rattle.time_line.specs.Span.{AreApart}
use Rattle.term_core.specs.declared.term.Seen.TheVariants.{Piece}
use Rattle.fact_table.specs.Rows.{SeenRow, row_at}
use Rattle.row_arena.specs.Arena.{Arena, cell_in}
use Rattle.null_store.specs.Store.{Store, PieceOf, IsLive, IsLiveOver, piece_at}
use Rattle.null_store.specs.Lists.{IsOccurrenceList}

-- the list of a live piece is exactly the cells that hold it, each once, with links that agree both ways
abbrev pub AreLinked : Arena → Store → Type 0
AreLinked arena store = (piece : ℕ) → IsLive store piece → (ids : List ℕ) × IsOccurrenceList (cell_in arena) piece ids

-- each live piece has a cell
abbrev pub HaveCells : Arena → Store → Type 0
HaveCells arena store = (piece : ℕ) → IsLive store piece → (id : ℕ) × IsSomeAnd (cell_in arena id) (λ cell. cell.value ≡ Piece piece)

-- each piece that a row holds is live, and its span is that of the row
abbrev pub HaveSpansOfRows : Store → Type 0
HaveSpansOfRows store =
    (number : ℕ) (row : SeenRow) → row_at store.rows number ≡ Some row → All (IsLiveOver store row.span) row.cells

-- live pieces of one unknown have no instant in common
abbrev pub AreDisjoint : Store → Type 0
AreDisjoint store = (m n : ℕ) (a b : PieceOf) → piece_at store m ≡ Some a → piece_at store n ≡ Some b → a.unknown ≡ b.unknown
    → m ≢ n → AreApart a.span b.span

-- the four together
pub record KeepsFacts (arena : Arena) (store : Store) : Type 0 where
  pub lists : AreLinked arena store
  pub cells : HaveCells arena store
  pub spans : HaveSpansOfRows store
  pub disjoint : AreDisjoint store
