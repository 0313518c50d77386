-- A lasting index for the matches of a body that give two variables different values: which rows it shows, and for which others they stand.
use Rattle.std.specs.Prelude.{◌≡◌, ◌⊎◌, ℕ, ℤ, List, Option, Some, Bool, true, IsSomeAnd, Contains, length, slice_get}
use Rattle.std.specs.Bool.{⊤}
use Rattle.time_line.specs.Span.{Has}
use Rattle.rule_core.specs.declared.rules.Arg.{Arg}
use Rattle.rule_core.specs.declared.rules.Arg.TheVariants as args
use Rattle.rule_core.specs.declared.rules.Atom.{Atom}
use Rattle.fact_table.specs.Rows.{SeenRow, row_at}
use Rattle.body_match.specs.Index.{Index, ListsRow}

-- how the matches of a body are looked up, two of its variables, and whether the row with a number is shown
pub record Equality : Type 0 where
  pub index : Index
  pub left : ℕ
  pub right : ℕ
  pub shown : List Bool

-- the variable stands in a column of the atom at a place of the body
abbrev pub StandsAt : List Atom → ℕ → ℕ → ℕ → Type 0
StandsAt body v place column = IsSomeAnd (slice_get body place) (λ atom. slice_get atom.args column ≡ Some (args.Var v))

-- the variable stands in more than one cell of the body
pub record Recurs (body : List Atom) (v : ℕ) : Type 0 where
  pub place : ℕ
  pub column : ℕ
  pub other_place : ℕ
  pub other_column : ℕ
  pub stands : StandsAt body v place column
  pub again : StandsAt body v other_place other_column
  pub apart : ¬ ((place ≡ other_place) × (column ≡ other_column))

-- it is looked at what an argument stands for: a constant, one of the two variables, or one that recurs
abbrev pub IsLookedAt : Equality → Arg → Type 0
IsLookedAt e (args.Const c) = ⊤
IsLookedAt e (args.Var v) = (v ≡ e.left) ⊎ ((v ≡ e.right) ⊎ Recurs e.index.body v)

-- the row has the atom's relation, and as many cells as the atom has arguments
pub record FitsAtom (atom : Atom) (row : SeenRow) : Type 0 where
  pub relation : row.relation ≡ atom.relation
  pub arity : length row.cells ≡ length atom.args

-- and so for an atom of the body
abbrev pub FitsBody : Equality → SeenRow → Type 0
FitsBody e row = (atom : Atom) × Contains e.index.body atom × FitsAtom atom row

-- the second row has what the first has wherever the body looks
pub record IsLike (e : Equality) (row other : SeenRow) : Type 0 where
  pub relation : other.relation ≡ row.relation
  pub arity : length other.cells ≡ length row.cells
  pub cells : (atom : Atom) (column : ℕ) (arg : Arg) → Contains e.index.body atom → FitsAtom atom row
      → slice_get atom.args column ≡ Some arg → IsLookedAt e arg → slice_get other.cells column ≡ slice_get row.cells column

-- the row with the number is shown
abbrev pub IsShown : Equality → ℕ → Type 0
IsShown e number = slice_get e.shown number ≡ Some true

-- a row that is like this one and has the instant is shown
pub record IsShownAt (e : Equality) (rows : List (Option SeenRow)) (row : SeenRow) (t : ℤ) : Type 0 where
  pub number : ℕ
  pub other : SeenRow
  pub shown : IsShown e number
  pub there : row_at rows number ≡ Some other
  pub like : IsLike e row other
  pub instant : Has other.span t

-- for the row with the number, at each instant of it, one that is like it is shown, if it fits the body
abbrev pub IsShownFor : Equality → List (Option SeenRow) → ℕ → Type 0
IsShownFor e rows number = (row : SeenRow) (t : ℤ) → row_at rows number ≡ Some row → FitsBody e row → Has row.span t → IsShownAt e rows row t

-- the rows that are shown are listed, and at each instant of each row that fits the body one that is like it is shown
pub record Shows (e : Equality) (rows : List (Option SeenRow)) : Type 0 where
  pub listed : (number : ℕ) → IsShown e number → ListsRow e.index rows number
  pub stand : (number : ℕ) → IsShownFor e rows number

-- the same body and variables
pub record IsSameEquality (old new : Equality) : Type 0 where
  pub body : new.index.body ≡ old.index.body
  pub vars : new.index.vars ≡ old.index.vars
  pub left : new.left ≡ old.left
  pub right : new.right ≡ old.right
