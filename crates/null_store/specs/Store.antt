-- What a store of a target holds: rows whose cells are constants or pieces of unknowns, the pieces, and the names of unknowns.
use Rattle.std.specs.Prelude.{◌≡◌, ◌≢◌, ℕ, List, Option, Some, IsSomeAnd, Contains, All, map, slice_get, ⊤}
use Rattle.std.specs.List.{filter_map}
use Rattle.std.specs.Option.{option_and_then, option_map, option_map_or}
use Rattle.time_line.specs.Span.{Ends, AreApart}
use Rattle.term_core.specs.declared.const_id.ConstId.{ConstId}
use Rattle.term_core.specs.declared.term.Unknown.{Unknown as HeldUnknown}
use Rattle.term_core.specs.declared.term.Seen.{Seen}
use Rattle.term_core.specs.declared.term.Seen.TheVariants.{Const, Piece}
use Rattle.rule_core.specs.Terms.{numbered, TermOf, constant, unknown, FactOf, StampedOf}
use Rattle.rule_core.specs.Values.{unknown_value}
use Rattle.fact_table.specs.Rows.{SeenRow, row_at}

-- what unknowns are named by: the place of a rule, and values of its frontier
pub record NameOf : Type 0 where
  pub rule : ℕ
  pub frontier : List ConstId

-- a piece: an unknown, and the span over which cells hold it
pub record PieceOf : Type 0 where
  pub unknown : HeldUnknown
  pub span : Ends

-- for how many more rows, cells and pieces there is room
pub record Spare : Type 0 where
  pub rows : ℕ
  pub cells : ℕ
  pub pieces : ℕ

-- rows and pieces are told by their places; a place may be empty
pub record Store : Type 0 where
  pub rows : List (Option SeenRow)
  pub pieces : List (Option PieceOf)
  pub names : List NameOf
  pub spare : Spare

-- the live piece with the number, if there is one
abbrev pub piece_at : Store → ℕ → Option PieceOf
piece_at store number = option_and_then (λ piece. piece) (slice_get store.pieces number)

-- the term that a cell holds: the unknown of its piece, or its constant
abbrev pub term_in : Store → Seen → TermOf ConstId
term_in store (Const c) = constant c
term_in store (Piece p) = option_map_or (λ piece. unknown (unknown_value piece.unknown)) (piece_at store p) (unknown (numbered p))

-- a row as a fact over its span
abbrev pub fact_in : Store → SeenRow → StampedOf (FactOf ConstId)
fact_in store row = record { row = record { relation = row.relation; terms = map (term_in store) row.cells }; span = row.span }

-- the rows as facts, in the order of their numbers
abbrev pub facts_in : Store → List (StampedOf (FactOf ConstId))
facts_in store = filter_map (option_map (fact_in store)) store.rows

-- the piece is live, and its span is this one
abbrev pub IsLiveOver : Store → Ends → Seen → Type 0
IsLiveOver store span (Const c) = ⊤
IsLiveOver store span (Piece p) = IsSomeAnd (piece_at store p) (λ piece. piece.span ≡ span)

-- a cell of a row holds the piece
abbrev pub HoldsPiece : Store → ℕ → Type 0
HoldsPiece store piece = (number : ℕ) × IsSomeAnd (row_at store.rows number) (λ row. Contains row.cells (Piece piece))

-- each name has one number
abbrev pub AreDistinct : List NameOf → Type 0
AreDistinct names = (j k : ℕ) (name : NameOf) → slice_get names j ≡ Some name → slice_get names k ≡ Some name → j ≡ k

-- what each store is: each piece in a row is live and has the row's span, each live piece is in a row, live pieces of one
-- unknown have no instant in common, and names are distinct
pub record IsStore (store : Store) : Type 0 where
  pub live : (number : ℕ) (row : SeenRow) → row_at store.rows number ≡ Some row → All (IsLiveOver store row.span) row.cells
  pub used : (number : ℕ) (piece : PieceOf) → piece_at store number ≡ Some piece → HoldsPiece store number
  pub apart : (m n : ℕ) (a b : PieceOf) → piece_at store m ≡ Some a → piece_at store n ≡ Some b → a.unknown ≡ b.unknown
      → m ≢ n → AreApart a.span b.span
  pub distinct : AreDistinct store.names

-- there is a live piece with the number
abbrev pub IsLive : Store → ℕ → Type 0
IsLive store number = IsSomeAnd (piece_at store number) (λ _. ⊤)
