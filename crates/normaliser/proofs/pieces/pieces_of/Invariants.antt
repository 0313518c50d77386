-- The pieces so far are those of the facts so far.
use Rattle.std.proofs.Common.{◌↔◌, ◌<◌, ℕ, Contains, slice_get, slice_index}
use Rattle.std.specs.Prelude.{IsSomeAnd}
use Rattle.fact_table.specs.declared.fact.Fact.{Fact}
use Rattle.normaliser.specs.Normalised.{IsPieceOf}
use Rattle.normaliser.specs.Cuts.{IsCutAt}
use Rattle.normaliser.proofs.pieces.pieces_of.Given as goal

abbrev pub invariant-loop-place : goal.invariant-loop-place
invariant-loop-place l = (piece : Fact) → Contains l.pieces piece ↔ ((n : ℕ) × (n < l.place)
    × IsSomeAnd (slice_get l.facts n) (λ fact. IsPieceOf (IsCutAt l.cuts (slice_index l.places n)) fact piece))
