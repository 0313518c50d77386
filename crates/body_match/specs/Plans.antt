-- In which order a search takes the atoms of a body. No public clause cites this module.
use Rattle.std.specs.Prelude.{◌≡◌, ◌↔◌, ◌≤◌, ◌<◌, ◌+◌, ◌-◌, ℕ, List, [], ◌∷◌, Option, Some, Contains, IsPermutation, length, map, slice_get}
use Rattle.std.specs.List.{range_with_len}
use Rattle.rule_core.specs.declared.rules.Atom.{Atom}
use Rattle.rule_core.specs.Validity.{occurrences}
use Rattle.body_match.specs.declared.levels.Level.{Level}
use Rattle.body_match.specs.declared.lookup.Entry.{Entry}
use Rattle.body_match.specs.declared.plan.Plan.{Plan}
use Rattle.body_match.specs.Keys.{IsListedUnder}
use Rattle.body_match.specs.Places.{AreFirstPlaces}
use Rattle.fact_table.specs.Rows.{SeenRow}
use Rattle.body_match.specs.declared.found.Match.{Match}
use Rattle.body_match.specs.Index.{Index}
use Rattle.body_match.specs.Matches.{IsMatch}
use Rattle.body_match.specs.Search.{Task, AreTold, IsFindable, IsTask, task_of, IsListedFrom}
use Rattle.body_match.specs.Unequal.{Differ}

-- all places below the size, each once, and this one first
pub record IsOrder (size start : ℕ) (order : List ℕ) : Type 0 where
  pub moved : IsPermutation (range_with_len 0 size) order
  pub first : slice_get order 0 ≡ Some start

-- the second list has at each place what the first has at the place that stands there in the order
abbrev pub IsOrdered : {X : Type 0} → List X → List ℕ → List X → Type 0
IsOrdered {X} xs order ys = map (λ y. Some y) ys ≡ map (λ place. slice_get xs place) order

-- the plan takes the atoms of the body in an order that begins with this one
pub record IsPlan (body : List Atom) (vars first : ℕ) (plan : Plan) : Type 0 where
  pub order : IsOrder (length body) first plan.order.items
  pub atoms : IsOrdered body plan.order.items plan.body
  pub places : AreFirstPlaces plan.body vars plan.places.items
  pub size : length plan.body ≤ length plan.levels.items + 1
  pub told : AreTold plan.body plan.places.items plan.levels.items

-- there is a plan for each atom
pub record IsIndex (index : Index) : Type 0 where
  pub vars : (v : ℕ) → Contains (occurrences index.body) v ↔ (v < index.vars)
  pub size : length index.plans ≡ length index.body
  pub each : (first : ℕ) (plan : Plan) → slice_get index.plans first ≡ Some plan → IsPlan index.body index.vars first plan

-- what is searched for by the plan
abbrev pub task_in : Plan → List (Option SeenRow) → Task
task_in plan rows = task_of plan.body plan.places.items rows plan.levels.items

-- the second match is the first with its rows put back from the order
pub record IsBack (order : List ℕ) (found back : Match) : Type 0 where
  pub size : length back.rows ≡ length order
  pub rows : IsOrdered back.rows order found.rows
  pub binding : back.binding ≡ found.binding
  pub span : back.span ≡ found.span

-- the match is one of the plan with the row at its first atom and different values, its rows put back into the order of the body
pub record IsPutBack (plan : Plan) (source : List (Option SeenRow)) (row left right : ℕ) (found : Match) : Type 0 where
  pub ordered : Match
  pub listed : IsListedFrom (task_in plan source) (row ∷ []) ordered
  pub back : IsBack plan.order.items ordered found
  pub differ : Differ left right ordered

-- the match is one of the plan that has these rows, which are in the order of the body
pub record HasRows (plan : Plan) (source : List (Option SeenRow)) (numbers : List ℕ) (found : Match) : Type 0 where
  pub match : IsMatch plan.body (length plan.places.items) source found
  pub rows : IsOrdered numbers plan.order.items found.rows

-- the match is such a one with different values, its rows put back into the order of the body
pub record IsUnequalIn (plan : Plan) (source : List (Option SeenRow)) (numbers : List ℕ) (left right : ℕ) (found : Match) : Type 0 where
  pub ordered : Match
  pub has : HasRows plan source numbers ordered
  pub back : IsBack plan.order.items ordered found
  pub differ : Differ left right ordered

-- the plan can be searched in
pub record CanSearch (plan : Plan) (rows : List (Option SeenRow)) : Type 0 where
  pub some : 1 ≤ length plan.body
  pub size : length plan.order.items ≡ length plan.body
  pub order : IsPermutation (range_with_len 0 (length plan.order.items)) plan.order.items
  pub task : IsTask (task_in plan rows)

-- no match of the plan with the row at its first atom that can be found has different values
abbrev pub HasNone : Plan → List (Option SeenRow) → ℕ → ℕ → ℕ → Type 0
HasNone plan rows row left right =
    (m : Match) → IsListedFrom (task_in plan rows) (row ∷ []) m → IsFindable (task_in plan rows) m → ¬ (Differ left right m)

-- so it is for the first plans
abbrev pub HaveNone : List Plan → List (Option SeenRow) → ℕ → ℕ → ℕ → ℕ → Type 0
HaveNone plans rows row left right first =
    (k : ℕ) (plan : Plan) → k < first → slice_get plans k ≡ Some plan → HasNone plan rows row left right

-- a plan for each of the first atoms, and each row is listed for it
pub record ArePlans (body : List Atom) (vars : ℕ) (rows : List (Option SeenRow)) (plans : List Plan) (first : ℕ) : Type 0 where
  pub size : length plans ≡ first
  pub each : (k : ℕ) (plan : Plan) → slice_get plans k ≡ Some plan
      → IsPlan body vars k plan × ((number : ℕ) → IsListedUnder plan.body plan.levels.items rows number)

-- the columns are ones of the atoms
abbrev pub AreWithin : List Atom → List Level → Type 0
AreWithin body levels = (before : ℕ) (atom : Atom) (level : Level) → 1 ≤ before → slice_get body before ≡ Some atom
    → slice_get levels (before - 1) ≡ Some level → (column : ℕ) → Contains level.columns.items column → column < length atom.args

-- as many levels, each with the same columns
pub record AreSameLevels (old new : List Level) : Type 0 where
  pub size : length new ≡ length old
  pub columns : (k : ℕ) (a b : Level) → slice_get old k ≡ Some a → slice_get new k ≡ Some b → b.columns.items ≡ a.columns.items

-- what was listed in the ones is listed in the others
abbrev pub KeepsListed : List Level → List Level → Type 0
KeepsListed old new = (k : ℕ) (a b : Level) → slice_get old k ≡ Some a → slice_get new k ≡ Some b
    → (entry : Entry) → Contains a.listed entry → Contains b.listed entry

-- the two plans look up the same
pub record IsSamePlan (old new : Plan) : Type 0 where
  pub order : new.order.items ≡ old.order.items
  pub body : new.body ≡ old.body
  pub places : new.places.items ≡ old.places.items
  pub levels : AreSameLevels old.levels.items new.levels.items

-- as many plans, each of which looks up the same
pub record AreSamePlans (old new : List Plan) : Type 0 where
  pub size : length new ≡ length old
  pub each : (k : ℕ) (a b : Plan) → slice_get old k ≡ Some a → slice_get new k ≡ Some b → IsSamePlan a b

-- what was listed for the ones is listed for the others
abbrev pub KeepListed : List Plan → List Plan → Type 0
KeepListed old new = (k : ℕ) (a b : Plan) → slice_get old k ≡ Some a → slice_get new k ≡ Some b → KeepsListed a.levels.items b.levels.items

-- a row can be listed in the plan
pub record CanList (plan : Plan) : Type 0 where
  pub size : length plan.body ≤ length plan.levels.items + 1
  pub within : AreWithin plan.body plan.levels.items

-- the row is listed for the first plans
abbrev pub IsListedFor : List Plan → List (Option SeenRow) → ℕ → ℕ → Type 0
IsListedFor plans rows row first = (k : ℕ) (plan : Plan) → k < first → slice_get plans k ≡ Some plan
    → IsListedUnder plan.body plan.levels.items rows row
