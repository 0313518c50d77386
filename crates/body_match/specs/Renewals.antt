-- Rows that are dropped from the levels of plans, and rows that are listed in them. No public clause cites this module.
use Rattle.std.specs.Prelude.{◌≡◌, ◌≢◌, ℕ, negsuc, List, Option, Some, Contains, length, slice_get}
use Rattle.rule_core.specs.declared.rules.Atom.{Atom}
use Rattle.fact_table.specs.Rows.{SeenRow}
use Rattle.body_match.specs.declared.lookup.Entry.{Entry}
use Rattle.body_match.specs.declared.levels.Level.{Level}
use Rattle.body_match.specs.declared.plan.Plan.{Plan}
use Rattle.body_match.specs.Keys.{IsListedUnder, ListsOne}
use Rattle.body_match.specs.Plans.{IsPlan}

-- the entry was not dropped
abbrev pub IsLive : Entry → Type 0
IsLive entry = entry.to ≢ negsuc 9223372036854775807

-- the entry at the place is one of the row
abbrev pub IsRowAt : List Entry → ℕ → ℕ → Type 0
IsRowAt entries row at = (entry : Entry) × (slice_get entries at ≡ Some entry) × (entry.row ≡ row)

-- the entries of all rows but one stay
abbrev pub KeepsOthers : ℕ → List Entry → List Entry → Type 0
KeepsOthers row old new = (entry : Entry) → Contains old entry → entry.row ≢ row → IsLive entry → Contains new entry

-- the entries of all rows but some stay
abbrev pub KeepsBut : List ℕ → List Entry → List Entry → Type 0
KeepsBut gone old new = (entry : Entry) → Contains old entry → ¬ (Contains gone entry.row) → IsLive entry → Contains new entry

-- each of the rows that has the atom's form is listed
abbrev pub ListsEach : List (Option SeenRow) → Atom → List ℕ → List ℕ → List Entry → Type 0
ListsEach source atom columns rows entries = (number : ℕ) → Contains rows number → ListsOne source atom columns number entries

-- in each level the entries of all rows but some stay
abbrev pub LevelsKeepBut : List ℕ → List Level → List Level → Type 0
LevelsKeepBut gone old new = (k : ℕ) (a b : Level) → slice_get old k ≡ Some a → slice_get new k ≡ Some b → KeepsBut gone a.listed b.listed

-- and so in each plan
abbrev pub PlansKeepBut : List ℕ → List Plan → List Plan → Type 0
PlansKeepBut gone old new =
    (k : ℕ) (a b : Plan) → slice_get old k ≡ Some a → slice_get new k ≡ Some b → LevelsKeepBut gone a.levels.items b.levels.items

-- each of the rows is listed for each atom behind the first whose form it has
abbrev pub AreListedUnder : List Atom → List Level → List (Option SeenRow) → List ℕ → Type 0
AreListedUnder body levels source rows = (number : ℕ) → Contains rows number → IsListedUnder body levels source number

-- and so for each plan
abbrev pub AreListedInEach : List Plan → List (Option SeenRow) → List ℕ → Type 0
AreListedInEach plans source rows =
    (k : ℕ) (plan : Plan) → slice_get plans k ≡ Some plan → AreListedUnder plan.body plan.levels.items source rows

-- a plan for each of the first atoms
pub record AreBarePlans (body : List Atom) (vars : ℕ) (plans : List Plan) (first : ℕ) : Type 0 where
  pub size : length plans ≡ first
  pub each : (k : ℕ) (plan : Plan) → slice_get plans k ≡ Some plan → IsPlan body vars k plan
