-- Keys of rows by what stands in some of their columns. No public clause cites this module.
use Rattle.std.specs.Prelude.{◌≡◌, ℕ, ℤ, pos, negsuc, ◌+◌, ◌*◌, ◌%◌, ◌^◌, ◌<◌, ◌≤◌, ◌-◌, ◌≤ℤ◌, List, Option, Some, None, Contains, length, fold, slice_get}
use Rattle.std.specs.Bool.{⊤}
use Rattle.time_line.specs.Span.{IsSpan}
use Rattle.term_core.specs.declared.term.Seen.{Seen}
use Rattle.term_core.specs.declared.term.Seen.TheVariants.{Const, Piece}
use Rattle.rule_core.specs.declared.rules.Arg.{Arg}
use Rattle.rule_core.specs.declared.rules.Arg.TheVariants as args
use Rattle.rule_core.specs.declared.rules.Atom.{Atom}
use Rattle.fact_table.specs.Rows.{SeenRow, row_at, cell_at}
use Rattle.body_match.specs.declared.lookup.Entry.{Entry}
use Rattle.body_match.specs.declared.levels.Level.{Level}
use Rattle.body_match.specs.declared.places.Place.{Place}

-- a number for a cell
abbrev pub cell_number : Seen → ℕ
cell_number (Const c) = c.0
cell_number (Piece p) = (p + 9223372036854775808) % 2 ^ 64

-- a key, and one more cell mixed into it
unfoldable pub mixed : ℕ → Seen → ℕ
mixed key cell = ((key + cell_number cell) % 2 ^ 64 * 11400714819323198485) % 2 ^ 64

-- a key, and a cell mixed into it, if there is one
abbrev pub mixed_some : ℕ → Option Seen → ℕ
mixed_some key None = key
mixed_some key (Some cell) = mixed key cell

-- the key of the cells in columns
abbrev pub key_of : (ℕ → Option Seen) → List ℕ → ℕ
key_of cell columns = fold (λ key column. mixed_some key (cell column)) 0 columns

-- what an argument stands for is told by rows of atoms before this one
abbrev pub IsBound : List Place → ℕ → Arg → Type 0
IsBound places before (args.Const c) = ⊤
IsBound places before (args.Var v) = (place : Place) × (slice_get places v ≡ Some place) × (place.atom < before)

-- in each of the columns stands such an argument
abbrev pub AreBound : List Place → ℕ → Atom → List ℕ → Type 0
AreBound places before atom columns = (column : ℕ) → Contains columns column
    → (arg : Arg) × (slice_get atom.args column ≡ Some arg) × IsBound places before arg

-- a start and a stop as instants, before and after all others where they are absent
abbrev pub start_number : Option ℤ → ℤ
start_number None = negsuc 9223372036854775807
start_number (Some lo) = lo

abbrev pub stop_number : Option ℤ → ℤ
stop_number None = pos 9223372036854775807
stop_number (Some hi) = hi

-- the row is listed by the entry, under the key of its cells in the columns and over no less than its time
pub record IsEntryOf (rows : List (Option SeenRow)) (columns : List ℕ) (number : ℕ) (seen : SeenRow) (entry : Entry) : Type 0 where
  pub row : entry.row ≡ number
  pub key : entry.key ≡ key_of (cell_at rows number) columns
  pub from : entry.from ≤ℤ start_number seen.span.lo
  pub to : stop_number seen.span.hi ≤ℤ entry.to
  pub span : IsSpan seen.span

-- the row has the atom's form
pub record HasForm (rows : List (Option SeenRow)) (atom : Atom) (number : ℕ) (row : SeenRow) : Type 0 where
  pub there : row_at rows number ≡ Some row
  pub relation : row.relation ≡ atom.relation
  pub arity : length row.cells ≡ length atom.args

-- if the row has the atom's form, it is listed
abbrev pub ListsOne : List (Option SeenRow) → Atom → List ℕ → ℕ → List Entry → Type 0
ListsOne rows atom columns number entries = (row : SeenRow) → HasForm rows atom number row
    → (entry : Entry) × Contains entries entry × IsEntryOf rows columns number row entry

-- each of the first rows that has the atom's form is listed
abbrev pub ListsRows : List (Option SeenRow) → Atom → List ℕ → ℕ → List Entry → Type 0
ListsRows rows atom columns first entries = (number : ℕ) → number < first → ListsOne rows atom columns number entries

-- the columns are bound by the atoms before this one, and each row of its form is listed
pub record IsLevel (places : List Place) (rows : List (Option SeenRow)) (before : ℕ) (atom : Atom) (level : Level) : Type 0 where
  pub bound : AreBound places before atom level.columns.items
  pub listed : ListsRows rows atom level.columns.items (length rows) level.listed

-- there is a level for each of the first atoms but the very first
abbrev pub AreLevels : List Atom → List Place → List (Option SeenRow) → ℕ → List Level → Type 0
AreLevels body places rows first levels = (before : ℕ) (atom : Atom) → 1 ≤ before → before < first → slice_get body before ≡ Some atom
    → (level : Level) × (slice_get levels (before - 1) ≡ Some level) × IsLevel places rows before atom level

-- the row is listed for each atom behind the first whose form it has
abbrev pub IsListedUnder : List Atom → List Level → List (Option SeenRow) → ℕ → Type 0
IsListedUnder body levels rows number = (before : ℕ) (atom : Atom) (level : Level) → 1 ≤ before → slice_get body before ≡ Some atom
    → slice_get levels (before - 1) ≡ Some level → ListsOne rows atom level.columns.items number level.listed
