-- Terms, facts, and what is stamped with a span. Constants are of any type `C`: a text, or the number of one.
-- A list of facts is an instance, and is read as a set.
use Rattle.std.specs.Prelude.{ℕ, List}
use Rattle.time_line.specs.Span.{Ends}

-- an unknown is told by a number, or by the place of a rule, its frontier values and the place of a variable
pub data Unknown (C : Type 0) : Type 0 where
  numbered : ℕ → Unknown C
  named : ℕ → List C → ℕ → Unknown C

-- a constant, or a value that is not known
pub data TermOf (C : Type 0) : Type 0 where
  constant : C → TermOf C
  unknown : Unknown C → TermOf C

-- a relation, by its place in the list of its side, with a list of terms
pub record FactOf (C : Type 0) : Type 0 where
  pub relation : ℕ
  pub terms : List (TermOf C)

-- a fact or a row, with the span over which it holds
pub record StampedOf (X : Type 0) : Type 0 where
  pub row : X
  pub span : Ends
