-- Which rows are shown, and for which others they stand. No public clause cites this module.
use Rattle.std.specs.Prelude.{◌≡◌, ◌⊎◌, ◌↔◌, ◌<◌, ℕ, ℤ, List, Option, Some, Bool, true, false, IsSomeAnd, Contains, length, slice_get}
use Rattle.std.specs.Bool.{⊤}
use Rattle.time_line.specs.Span.{Ends, Has}
use Rattle.rule_core.specs.declared.rules.Arg.{Arg}
use Rattle.rule_core.specs.declared.rules.Arg.TheVariants as args
use Rattle.rule_core.specs.declared.rules.Atom.{Atom}
use Rattle.fact_table.specs.Rows.{SeenRow, row_at, cell_at}
use Rattle.body_match.specs.Equality.{FitsAtom, Recurs, StandsAt}

-- the number is marked
abbrev pub IsOn : List Bool → ℕ → Type 0
IsOn marks number = slice_get marks number ≡ Some true

-- only what is neither of the two variables, and stands in one cell at most, is not looked at
abbrev pub AreLooked : List Atom → ℕ → ℕ → List Bool → Type 0
AreLooked body left right looked = (v : ℕ) → slice_get looked v ≡ Some false → (v ≡ left → ⊥) × (v ≡ right → ⊥) × ¬ (Recurs body v)

-- the variable stands at this place at most
abbrev pub StandsOnlyAt : List Atom → ℕ → ℕ → ℕ → Type 0
StandsOnlyAt body v place column =
    (other other_column : ℕ) → StandsAt body v other other_column → (other ≡ place) × (other_column ≡ column)

-- the argument is looked at
abbrev pub IsLooked : List Bool → Arg → Type 0
IsLooked looked (args.Const c) = ⊤
IsLooked looked (args.Var v) = ¬ (slice_get looked v ≡ Some false)

-- the two rows have the same cells where the atom looks
abbrev pub AreAlikeUnder : List Bool → List (Option SeenRow) → ℕ → ℕ → Atom → Type 0
AreAlikeUnder looked source row other atom = (column : ℕ) (arg : Arg) → slice_get atom.args column ≡ Some arg → IsLooked looked arg
    → cell_at source other column ≡ cell_at source row column

-- the second row has what the first has wherever the body looks
pub record IsAlike (body : List Atom) (looked : List Bool) (row other : SeenRow) : Type 0 where
  pub relation : other.relation ≡ row.relation
  pub arity : length other.cells ≡ length row.cells
  pub cells : (atom : Atom) (column : ℕ) (arg : Arg) → Contains body atom → FitsAtom atom row → slice_get atom.args column ≡ Some arg
      → IsLooked looked arg → slice_get other.cells column ≡ slice_get row.cells column

-- the row fits an atom of the body
abbrev pub FitsSome : List Atom → SeenRow → Type 0
FitsSome body row = (atom : Atom) × Contains body atom × FitsAtom atom row

-- a row that is like this one and has the instant is marked
pub record IsOnAt (body : List Atom) (looked : List Bool) (source : List (Option SeenRow)) (marks : List Bool) (row : SeenRow) (t : ℤ) : Type 0 where
  pub number : ℕ
  pub other : SeenRow
  pub on : IsOn marks number
  pub there : row_at source number ≡ Some other
  pub like : IsAlike body looked row other
  pub instant : Has other.span t

-- at each instant of the row with the number one that is like it is marked, if it fits the body
abbrev pub IsStoodFor : List Atom → List Bool → List (Option SeenRow) → List Bool → ℕ → Type 0
IsStoodFor body looked source marks number = (row : SeenRow) (t : ℤ) → row_at source number ≡ Some row → FitsSome body row
    → Has row.span t → IsOnAt body looked source marks row t

-- such a row is marked that has another number
pub record IsOtherAt (body : List Atom) (looked : List Bool) (source : List (Option SeenRow)) (marks : List Bool) (number : ℕ) (row : SeenRow) (t : ℤ) : Type 0 where
  pub at : IsOnAt body looked source marks row t
  pub apart : ¬ (at.number ≡ number)

-- at each instant of the row with the number another one that is like it is marked
abbrev pub AreEnough : List Atom → List Bool → List (Option SeenRow) → List Bool → ℕ → Type 0
AreEnough body looked source marks number = (row : SeenRow) (t : ℤ) → row_at source number ≡ Some row → Has row.span t
    → IsOtherAt body looked source marks number row t

-- the instant is in the span, if there is one
abbrev pub HasInstantIn : Option Ends → ℤ → Type 0
HasInstantIn span t = IsSomeAnd span (λ s. Has s t)

-- the marks are as before but for those of the rows, which are marked no more; those that were are on the list
pub record AreHidden (rows : List ℕ) (old new : List Bool) (gone : List ℕ) : Type 0 where
  pub off : (number : ℕ) → Contains rows number → ¬ (IsOn new number)
  pub others : (number : ℕ) → ¬ (Contains rows number) → IsOn new number ↔ IsOn old number
  pub were : (number : ℕ) → Contains gone number → Contains rows number

-- the marks are as before but for that of the row, which is marked no more, and is on the list if it was
pub record IsHidden (row : ℕ) (old new : List Bool) (list longer : List ℕ) : Type 0 where
  pub size : length new ≡ length old
  pub off : ¬ (IsOn new row)
  pub less : (number : ℕ) → IsOn new number → IsOn old number
  pub others : (number : ℕ) → ¬ (number ≡ row) → IsOn old number → IsOn new number
  pub added : (number : ℕ) → Contains longer number → Contains list number ⊎ (number ≡ row)

-- for each row that was marked those stand that are still
abbrev pub StandStill : List Atom → List Bool → List (Option SeenRow) → List Bool → List Bool → Type 0
StandStill body looked source old new = (number : ℕ) → IsOn old number → IsStoodFor body looked source new number

-- fewer are marked, and stand for those that were
pub record StandsForLess (body : List Atom) (looked : List Bool) (source : List (Option SeenRow)) (old new : List Bool) : Type 0 where
  pub size : length new ≡ length old
  pub less : (number : ℕ) → IsOn new number → IsOn old number
  pub stand : StandStill body looked source old new

-- the row may be marked too, and others no more, for which those stand that are
pub record MayMark (body : List Atom) (looked : List Bool) (source : List (Option SeenRow)) (row : ℕ) (old new : List Bool) : Type 0 where
  pub size : length new ≡ length old
  pub on : (number : ℕ) → IsOn new number → IsOn old number ⊎ (number ≡ row)
  pub stand : StandStill body looked source old new

-- so it is with some of the rows, and one that is like it is marked for each of the first
pub record AreChosen (body : List Atom) (looked : List Bool) (source : List (Option SeenRow)) (rows : List ℕ) (old new : List Bool) (first : ℕ) : Type 0 where
  pub size : length new ≡ length old
  pub on : (number : ℕ) → IsOn new number → IsOn old number ⊎ Contains rows number
  pub still : StandStill body looked source old new
  pub stand : (k number : ℕ) → k < first → slice_get rows k ≡ Some number → IsStoodFor body looked source new number
