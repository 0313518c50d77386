-- A lasting index for the matches of one body: which rows it has listed, and what is found over it.
use Rattle.std.specs.Prelude.{◌≡◌, ◌≢◌, ℕ, ℤ, List, Option, Some, None, IsSomeAnd, All, Contains, slice_get, ⊤}
use Rattle.time_line.specs.Span.{Has, IsSpan}
use Rattle.rule_core.specs.declared.rules.Atom.{Atom}
use Rattle.fact_table.specs.Rows.{SeenRow}
use Rattle.body_match.specs.declared.found.Match.{Match}
use Rattle.body_match.specs.declared.plan.Plan.{Plan}
use Rattle.body_match.specs.Matches.{IsMatch}
use Rattle.body_match.specs.Keys.{IsListedUnder}

-- a body whose variables are numbered below some number, and for each of its atoms how the others are looked up where a row stands there
pub record Index : Type 0 where
  pub body : List Atom
  pub vars : ℕ
  pub plans : List Plan

-- the row is listed wherever a search may look for it, under its own key and over no less than its own time
abbrev pub ListsRow : Index → List (Option SeenRow) → ℕ → Type 0
ListsRow index rows number = All (λ plan. IsListedUnder plan.body plan.levels.items rows number) index.plans

-- each row of the source is listed
abbrev pub Lists : Index → List (Option SeenRow) → Type 0
Lists index rows = (number : ℕ) → ListsRow index rows number

-- the index is for the same body, and what was listed is listed still, whatever the source
pub record Grows (old new : Index) : Type 0 where
  pub body : new.body ≡ old.body
  pub vars : new.vars ≡ old.vars
  pub kept : (rows : List (Option SeenRow)) (number : ℕ) → ListsRow old rows number → ListsRow new rows number

-- the row is gone, or as it was but for times that it no longer has
abbrev pub IsNoMore : Option SeenRow → Option SeenRow → Type 0
IsNoMore old None = ⊤
IsNoMore old (Some row) = IsSomeAnd old (λ before. (row.relation ≡ before.relation) × (row.cells ≡ before.cells)
    × IsSpan row.span × ((t : ℤ) → Has row.span t → Has before.span t))

-- a match that uses the row and gives the two variables different values
pub record IsUnequal (index : Index) (rows : List (Option SeenRow)) (row left right : ℕ) (found : Match) : Type 0 where
  pub match : IsMatch index.body index.vars rows found
  pub uses : Contains found.rows row
  pub unequal : slice_get found.binding left ≢ slice_get found.binding right

-- a match that has these rows and gives the two variables different values
pub record IsUnequalWith (index : Index) (rows : List (Option SeenRow)) (left right : ℕ) (numbers : List ℕ) (found : Match) : Type 0 where
  pub match : IsMatch index.body index.vars rows found
  pub uses : found.rows ≡ numbers
  pub unequal : slice_get found.binding left ≢ slice_get found.binding right
