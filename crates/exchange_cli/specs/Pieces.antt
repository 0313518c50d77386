-- The pieces of a source as they are stored.
use Rattle.std.specs.Prelude.{◌≡◌, ◌==◌, ℕ, ◌+◌, List, [], ◌∷◌, length, map}
use Rattle.std.specs.List.{filter}
use Rattle.rule_core.specs.declared.rules.Relation.{Relation}
use Rattle.rule_core.specs.Terms.{TermOf, constant, StampedOf}
use Rattle.term_core.specs.declared.const_id.ConstId.{ConstId}
use Rattle.fact_table.specs.declared.fact.Fact.{Fact}
use Rattle.normaliser.specs.Normalised.{IsNormalised}
use Rattle.exchange_engine.specs.Loading.{LoadedOf, text_in}
use Rattle.exchange_cli.specs.Inputs.{Inputs}
use Rattle.exchange_cli.specs.Exchanged.{IsLoadedFrom}
use Rattle.exchange_cli.specs.Target.{TargetTable, AreTableFiles}
use Rattle.exchange_cli.specs.declared.file.FileOut.{FileOut}

-- a constant as its text, and so those of a row
abbrev pub piece_term : List (List ℕ) → ConstId → TermOf (List ℕ)
piece_term pool c = constant (text_in pool c)

abbrev pub piece_terms : List (List ℕ) → List ConstId → List (TermOf (List ℕ))
piece_terms pool row = map (piece_term pool) row

-- a piece as it is stored: its constants as their texts, over its span
abbrev pub piece_row : List (List ℕ) → Fact → StampedOf (List (TermOf (List ℕ)))
piece_row pool piece = record { row = piece_terms pool piece.row; span = piece.span }

-- the pieces of the relation with this number, in their order
abbrev pub of_relation : ℕ → List Fact → List Fact
of_relation relation pieces = filter (λ piece. piece.relation == relation) pieces

-- their table
abbrev pub piece_table : List (List ℕ) → List Fact → TargetTable
piece_table pool pieces = map (piece_row pool) pieces

-- the tables of these relations, which have the numbers from the first one on
abbrev pub piece_tables : List (List ℕ) → List Fact → ℕ → List Relation → List TargetTable
piece_tables pool pieces first [] = []
piece_tables pool pieces first (r ∷ rs) = piece_table pool (of_relation first pieces) ∷ piece_tables pool pieces (first + 1) rs

-- the files are the pieces of what was read below the prefix, a table for each source relation, in their order: the source, loaded with
-- some pool, has so many facts, and its normalised table so many pieces
pub record ArePieceFiles (inputs : Inputs) (prefix : List ℕ) (files : List FileOut) (facts pieces : ℕ) : Type 0 where
  pub loaded : LoadedOf
  pub from : IsLoadedFrom inputs loaded
  pub normalised : List Fact
  pub pieced : IsNormalised loaded.rules loaded.table normalised
  pub each : AreTableFiles prefix inputs.mapping.rules.sources files
      (piece_tables loaded.pool normalised 0 inputs.mapping.rules.sources)
  pub facts_are : facts ≡ length loaded.table
  pub pieces_are : pieces ≡ length normalised
