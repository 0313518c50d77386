-- The search for matches with unequal sides. No public clause cites this module.
use Rattle.std.specs.Prelude.{◌≡◌, ◌≢◌, ◌⊎◌, ◌↔◌, ◌<◌, ◌≤◌, ◌++◌, ℕ, List, Option, Some, Contains, All, drop, length, slice_get}
use Rattle.std.specs.List.{AllZip}
use Rattle.time_line.specs.Span.{IsSpan}
use Rattle.rule_core.specs.declared.rules.Egd.{Egd}
use Rattle.rule_core.specs.Validity.{occurrences}
use Rattle.fact_table.specs.Rows.{SeenRow, row_at}
use Rattle.body_match.specs.declared.found.Match.{Match}
use Rattle.body_match.specs.Matches.{IsMatch}
use Rattle.body_match.specs.Index.{ListsRow, IsNoMore}
use Rattle.body_match.specs.Equality.{Equality, IsShown, IsShownFor, Shows, IsSameEquality}
use Rattle.egd_chase.specs.declared.search.Part.{Part}

-- the span of each row has an instant, and its ends are within the limit
abbrev pub HaveSpans : List (Option SeenRow) → Type 0
HaveSpans rows = (number : ℕ) (row : SeenRow) → row_at rows number ≡ Some row → IsSpan row.span

-- a match of the egd's body that gives its sides different values
pub record IsUnequalMatch (rows : List (Option SeenRow)) (egd : Egd) (found : Match) : Type 0 where
  pub match : IsMatch egd.body (length egd.vars) rows found
  pub unequal : slice_get found.binding egd.left ≢ slice_get found.binding egd.right

-- the variables that occur in the egd's body are those of the egd
abbrev pub AreInBody : Egd → Type 0
AreInBody egd = (v : ℕ) → Contains (occurrences egd.body) v ↔ (v < length egd.vars)

-- the index is for the egd's body and sides, and shows the rows
pub record IsIndexFor (rows : List (Option SeenRow)) (egd : Egd) (e : Equality) : Type 0 where
  pub occur : AreInBody egd
  pub body : e.index.body ≡ egd.body
  pub vars : e.index.vars ≡ length egd.vars
  pub left : e.left ≡ egd.left
  pub right : e.right ≡ egd.right
  pub shows : Shows e rows

-- a match with unequal sides whose rows are all shown
pub record IsShownMatch (rows : List (Option SeenRow)) (egd : Egd) (e : Equality) (found : Match) : Type 0 where
  pub unequal : IsUnequalMatch rows egd found
  pub shown : All (IsShown e) found.rows

-- each match with unequal sides whose rows are all shown uses a row that waits
abbrev pub AllWait : List (Option SeenRow) → Egd → Equality → List ℕ → Type 0
AllWait rows egd e waiting = (found : Match) → IsShownMatch rows egd e found → (row : ℕ) × Contains waiting row × Contains found.rows row

-- the index of the part is for the egd, and all wait
pub record IsPartFor (rows : List (Option SeenRow)) (egd : Egd) (part : Part) : Type 0 where
  pub index : IsIndexFor rows egd part.index
  pub wait : AllWait rows egd part.index (drop part.next part.waiting.items)
  pub within : part.next ≤ length part.waiting.items

-- a part for each egd
abbrev pub AreParts : List (Option SeenRow) → List Egd → List Part → Type 0
AreParts rows egds parts = AllZip (IsPartFor rows) egds parts

-- the egd has no match with unequal sides
abbrev pub HasNoUnequal : List (Option SeenRow) → Egd → Type 0
HasNoUnequal rows egd = (found : Match) → ¬ (IsUnequalMatch rows egd found)

-- no egd has a match with unequal sides
abbrev pub NoneIsUnequal : List (Option SeenRow) → List Egd → Type 0
NoneIsUnequal rows egds = (k : ℕ) (egd : Egd) (found : Match) → slice_get egds k ≡ Some egd → ¬ (IsUnequalMatch rows egd found)

-- each row is as it was but for times that it lost, or gone, or one of these
abbrev pub ChangeOnly : List ℕ → List (Option SeenRow) → List (Option SeenRow) → Type 0
ChangeOnly numbers old new = (number : ℕ) → ¬ (Contains numbers number) → IsNoMore (row_at old number) (row_at new number)

-- the part's shown rows, but for these, are listed
abbrev pub CanTake : List (Option SeenRow) → List ℕ → Part → Type 0
CanTake rows numbers part = (number : ℕ) → ¬ (Contains numbers number) → IsShown part.index number → ListsRow part.index.index rows number

-- the part has taken in these rows as they are now, and those of them that it shows wait behind what waited
pub record HasTaken (rows : List (Option SeenRow)) (numbers : List ℕ) (old new : Part) : Type 0 where
  pub same : IsSameEquality old.index new.index
  pub listed : (number : ℕ) → IsShown new.index number → ListsRow new.index.index rows number
  pub others : (number : ℕ) → IsShown new.index number → IsShown old.index number ⊎ Contains numbers number
  pub stand : (number : ℕ) → Contains numbers number ⊎ IsShown old.index number → IsShownFor new.index rows number
  pub came : List ℕ
  pub shown : (number : ℕ) → Contains came number ↔ (Contains numbers number × IsShown new.index number)
  pub waiting : new.waiting.items ≡ old.waiting.items ++ came
  pub next : new.next ≡ old.next
