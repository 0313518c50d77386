-- Matches of a body in the rows of a store: a row for each atom, a value for each variable, and the common instants.
use Rattle.std.specs.Prelude.{◌≡◌, ◌↔◌, ℕ, ℤ, List, Option, Some, IsSomeAnd, All, AllPairs, Contains, length, map, slice_get}
use Rattle.std.specs.List.{AllZip}
use Rattle.std.specs.declared.cmp.Ordering.TheVariants.{Less}
use Rattle.std.specs.Ordering.{nat_cmp}
use Rattle.std.specs.Cmp.Lexicographic.{slice_cmp}
use Rattle.time_line.specs.Span.{Has, HasInstant}
use Rattle.term_core.specs.declared.term.Seen.{Seen}
use Rattle.term_core.specs.declared.term.Seen.TheVariants as cells
use Rattle.rule_core.specs.declared.rules.Arg.{Arg}
use Rattle.rule_core.specs.declared.rules.Arg.TheVariants.{Var, Const}
use Rattle.rule_core.specs.declared.rules.Atom.{Atom}
use Rattle.fact_table.specs.Rows.{SeenRow, row_at}
use Rattle.body_match.specs.declared.found.Match.{Match}

-- what an argument stands for under the values of the variables
abbrev pub seen_value : List Seen → Arg → Option Seen
seen_value binding (Var v) = slice_get binding v
seen_value binding (Const c) = Some (cells.Const c)

-- the row has the atom's relation, and as its cells what the arguments stand for
pub record IsImage (value : Arg → Option Seen) (atom : Atom) (row : SeenRow) : Type 0 where
  pub relation : row.relation ≡ atom.relation
  pub cells : map Some row.cells ≡ map value atom.args

-- there is a row with the number, and it is the atom's image
abbrev pub IsImageAt : List (Option SeenRow) → (Arg → Option Seen) → Atom → ℕ → Type 0
IsImageAt rows value atom number = IsSomeAnd (row_at rows number) (IsImage value atom)

-- there is a row with the number, and its span has the instant
abbrev pub HoldsAt : List (Option SeenRow) → ℤ → ℕ → Type 0
HoldsAt rows t number = IsSomeAnd (row_at rows number) (λ row. Has row.span t)

-- a row for each atom that is its image, a value for each variable, and all instants that the rows have in common, of
-- which there is one
pub record IsMatch (body : List Atom) (vars : ℕ) (rows : List (Option SeenRow)) (found : Match) : Type 0 where
  pub images : AllZip (IsImageAt rows (seen_value found.binding)) body found.rows
  pub values : length found.binding ≡ vars
  pub common : (t : ℤ) → Has found.span t ↔ All (HoldsAt rows t) found.rows
  pub instant : HasInstant found.span

-- the order of matches: by their rows, from left to right
abbrev pub StandsBefore : Match → Match → Type 0
StandsBefore a b = slice_cmp nat_cmp a.rows b.rows ≡ Less

-- the list has exactly the matches, each once, in order
pub record AreMatches (body : List Atom) (vars : ℕ) (rows : List (Option SeenRow)) (list : List Match) : Type 0 where
  pub each : (found : Match) → Contains list found ↔ IsMatch body vars rows found
  pub ordered : AllPairs StandsBefore list
