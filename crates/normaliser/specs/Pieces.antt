-- Facts that are cut at ends. No public clause cites this module.
use Rattle.std.specs.Prelude.{◌≡◌, ◌⊎◌, ◌↔◌, ℕ, ℤ, List, [], ◌∷◌, ◌++◌, IsSomeAnd, Contains, slice_get, slice_index}
use Rattle.time_line.specs.Span.{Ends, IsInside, AreParts}
use Rattle.fact_table.specs.declared.fact.Fact.{Fact}
use Rattle.normaliser.specs.declared.cuts.Cut.{Cut}
use Rattle.normaliser.specs.Normalised.{IsPieceOf}
use Rattle.normaliser.specs.Cuts.{IsCutAt}

-- behind the list stand the pieces of the fact
abbrev pub AddsPieces : (ℤ → Type 0) → Fact → List Fact → List Fact → Type 0
AddsPieces cuts fact old new = (piece : Fact) → Contains new piece ↔ (Contains old piece ⊎ IsPieceOf cuts fact piece)

-- the fact over another span
abbrev pub over : Fact → Ends → Fact
over fact span = record { relation = fact.relation; row = fact.row; span = span }

-- the part of the span before the end stands behind the list, and the part from the end on is left
pub record IsCutOff (fact : Fact) (end : ℤ) (rest after : Ends) (old new : List Fact) : Type 0 where
  pub inside : IsInside rest end
  pub before : Ends
  pub parts : AreParts rest before after end
  pub adds : new ≡ old ++ over fact before ∷ []

-- nothing is cut off, since the end is not strictly inside the span
pub record IsNotCut (end : ℤ) (rest after : Ends) (old new : List Fact) : Type 0 where
  pub outside : ¬ (IsInside rest end)
  pub same : after ≡ rest
  pub still : new ≡ old

-- exactly the pieces of all facts, of which each is cut at the cuts of its group
abbrev pub ArePieces : List Fact → List ℕ → List Cut → List Fact → Type 0
ArePieces facts places cuts pieces = (piece : Fact) → Contains pieces piece
    ↔ ((n : ℕ) × IsSomeAnd (slice_get facts n) (λ fact. IsPieceOf (IsCutAt cuts (slice_index places n)) fact piece))
