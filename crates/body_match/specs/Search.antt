-- What is searched for, what a search has chosen, and what it adds. No public clause cites this module.
use Rattle.std.specs.Prelude.{◌≡◌, ◌↔◌, ℕ, ℤ, ◌≤◌, ◌<◌, ◌+◌, ◌-◌, ◌⊎◌, List, [], ◌∷◌, ◌++◌, Option, Some, Bool, true, All, AllPairs, Contains, length, take, slice_get}
use Rattle.std.specs.Option.{option_and_then}
use Rattle.time_line.specs.Span.{Ends, Has, HasInstant}
use Rattle.term_core.specs.declared.term.Seen.{Seen}
use Rattle.term_core.specs.declared.term.Seen.TheVariants as cells
use Rattle.rule_core.specs.declared.rules.Arg.{Arg}
use Rattle.rule_core.specs.declared.rules.Arg.TheVariants.{Var, Const}
use Rattle.rule_core.specs.declared.rules.Atom.{Atom}
use Rattle.fact_table.specs.Rows.{SeenRow, cell_at}
use Rattle.body_match.specs.declared.found.Match.{Match}
use Rattle.body_match.specs.declared.places.Place.{Place}
use Rattle.body_match.specs.Matches.{IsMatch, IsImageAt, HoldsAt, StandsBefore}
use Rattle.body_match.specs.declared.levels.Level.{Level}
use Rattle.body_match.specs.Places.{AreFirstPlaces, OccurBelow}
use Rattle.body_match.specs.Keys.{AreBound, IsListedUnder}
use Rattle.body_match.specs.Visits.{TakesInTurn}

-- a body, a place for each of its variables, the rows of a store, and a level for each atom but the first
pub record Task : Type 0 where
  pub body : List Atom
  pub places : List Place
  pub rows : List (Option SeenRow)
  pub levels : List Level

-- what is searched for, from its parts
abbrev pub task_of : List Atom → List Place → List (Option SeenRow) → List Level → Task
task_of body places rows levels = record { body = body; places = places; rows = rows; levels = levels }

-- the columns of each level are told by earlier atoms
abbrev pub AreTold : List Atom → List Place → List Level → Type 0
AreTold body places levels = (before : ℕ) (atom : Atom) (level : Level) → 1 ≤ before → slice_get body before ≡ Some atom
    → slice_get levels (before - 1) ≡ Some level → AreBound places before atom level.columns.items

-- the places are those of exactly the variables that occur, and each level looks up by what is told
pub record IsTask (task : Task) : Type 0 where
  pub places : AreFirstPlaces task.body (length task.places) task.places
  pub vars : OccurBelow (length task.places) task.body
  pub size : length task.body ≤ length task.levels + 1
  pub told : AreTold task.body task.places task.levels

-- each row is listed
abbrev pub ListsAll : Task → Type 0
ListsAll task = (number : ℕ) → IsListedUnder task.body task.levels task.rows number

-- each row of the match behind the first is listed, so that a search finds it
abbrev pub IsFindable : Task → Match → Type 0
IsFindable task found = (before number : ℕ) → 1 ≤ before → slice_get found.rows before ≡ Some number
    → IsListedUnder task.body task.levels task.rows number

-- the cell at a place, where rows are chosen for the first atoms
abbrev pub cell_in : Task → List ℕ → Place → Option Seen
cell_in task chosen place = option_and_then (λ number. cell_at task.rows number place.column) (slice_get chosen place.atom)

-- what an argument stands for, where each variable has the value at its place
abbrev pub placed_value : Task → List ℕ → Arg → Option Seen
placed_value task chosen (Var v) = option_and_then (cell_in task chosen) (slice_get task.places v)
placed_value task chosen (Const c) = Some (cells.Const c)

-- each cell of the row is what the argument in its column stands for
abbrev pub Agrees : Task → List ℕ → Atom → ℕ → Type 0
Agrees task chosen atom number =
    (k : ℕ) (arg : Arg) → slice_get atom.args k ≡ Some arg → cell_at task.rows number k ≡ placed_value task chosen arg

-- rows are chosen for the first atoms: each is its atom's image, and the span has the instants that all have in common,
-- of which there is one
pub record IsPartial (task : Task) (chosen : List ℕ) (span : Ends) : Type 0 where
  pub within : length chosen ≤ length task.body
  pub images : (k number : ℕ) (atom : Atom) → slice_get task.body k ≡ Some atom → slice_get chosen k ≡ Some number
      → IsImageAt task.rows (placed_value task chosen) atom number
  pub common : (t : ℤ) → Has span t ↔ All (HoldsAt task.rows t) chosen
  pub instant : HasInstant span

-- the list goes on from these
abbrev pub BeginsWith : List ℕ → List ℕ → Type 0
BeginsWith front list = (rest : List ℕ) × (list ≡ front ++ rest)

-- a match whose rows begin with these
abbrev pub IsListedFrom : Task → List ℕ → Match → Type 0
IsListedFrom task chosen found = IsMatch task.body (length task.places) task.rows found × BeginsWith chosen found.rows

-- what an argument in a column of an atom stands for
abbrev pub value_in : Task → List ℕ → Atom → ℕ → Option Seen
value_in task chosen atom column = option_and_then (placed_value task chosen) (slice_get atom.args column)

-- all rows that may be chosen next are there
abbrev pub HasNext : Task → List ℕ → List ℕ → Type 0
HasNext task chosen rows = (found : Match) (number : ℕ) → IsListedFrom task (chosen ++ number ∷ []) found → IsFindable task found
    → Contains rows number

-- behind the list stand all rows that may be chosen next, in order, each once
pub record AddsNext (task : Task) (chosen old new : List ℕ) : Type 0 where
  pub kept : take (length old) new ≡ old
  pub longer : length old ≤ length new
  pub ascending : (j k a b : ℕ) → length old ≤ j → j < k → slice_get new j ≡ Some a → slice_get new k ≡ Some b → a < b
  pub all : (found : Match) (number : ℕ) → IsListedFrom task (chosen ++ number ∷ []) found → IsFindable task found
      → (k : ℕ) × (length old ≤ k) × (slice_get new k ≡ Some number)

-- the list has ones of which it is so, in order: of those that can be found the first
pub record IsFirstPart (IsSo CanFind : Match → Type 0) (list : List Match) : Type 0 where
  pub each : (found : Match) → Contains list found → IsSo found
  pub ordered : AllPairs StandsBefore list
  pub later : (found : Match) → IsSo found → CanFind found
      → Contains list found ⊎ ((other : Match) → Contains list other → StandsBefore other found)

-- what takes matches was given ones of which it is so, in turn: of those that can be found the first, and all if it wanted more to
-- the end
pub record Gives {S : Type 0} (takes : S → Match → S → Type 0) (IsSo CanFind : Match → Type 0) (old new : S) (more : Bool) : Type 0 where
  pub list : List Match
  pub first : IsFirstPart IsSo CanFind list
  pub whole : more ≡ true → (found : Match) → IsSo found → CanFind found → Contains list found
  pub taken : TakesInTurn takes old list new
