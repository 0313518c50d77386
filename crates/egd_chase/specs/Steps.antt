-- Where settling stands, and what a turn of it comes to. No public clause cites this module.
use Rattle.std.specs.Prelude.{◌≡◌, ◌≢◌, ◌<◌, ◌≤◌, ℕ, List, [], Some, IsSomeAnd, All, slice_get}
use Rattle.term_core.specs.declared.const_id.ConstId.{ConstId}
use Rattle.rule_core.specs.declared.rules.Egd.{Egd}
use Rattle.rule_core.specs.Mapping.{RuleSet}
use Rattle.failure_trace.specs.declared.journal.JournalStep.{JournalStep}
use Rattle.failure_trace.specs.JournalRun.{RowOf, IsRun, IsClash}
use Rattle.null_store.specs.Store.{Store, facts_in}
use Rattle.body_match.specs.declared.found.Match.{Match}
use Rattle.egd_chase.specs.declared.search.Batch.{Batch}
use Rattle.egd_chase.specs.declared.search.Search.{Search}
use Rattle.egd_chase.specs.declared.settling.Outcome.{Outcome}
use Rattle.egd_chase.specs.declared.settling.Outcome.TheVariants as outcomes
use Rattle.egd_chase.specs.declared.settling.Turn.{Turn}
use Rattle.egd_chase.specs.declared.settling.Turn.TheVariants.{Settled, Equated, Clashed}
use Rattle.egd_chase.specs.Measure.{measure, ComesFrom}
use Rattle.egd_chase.specs.Search.{AreParts, HaveSpans, IsUnequalMatch, NoneIsUnequal}

-- the journal leads from the rows to those of the store; the parts of the search are for its rows; the store's ends and unknowns are
-- among those of the rows, and its rows have spans
pub record IsUnderway (rules : RuleSet) (rows : List (RowOf ConstId)) (store : Store) (search : Search) (journal : List JournalStep) : Type 0 where
  pub run : IsRun rules rows journal (facts_in store)
  pub parts : AreParts store.rows rules.egds search.parts.items
  pub limit : 1 ≤ search.limit
  pub from : ComesFrom rows (facts_in store)
  pub spans : HaveSpans store.rows

-- the measure of the rows is less than it was
abbrev pub IsLower : List (RowOf ConstId) → Store → Store → Type 0
IsLower rows old new = measure rows (facts_in new) < measure rows (facts_in old)

-- the egd has no match with unequal sides that has these rows
abbrev pub NoneHas : RuleSet → Store → ℕ → List ℕ → Type 0
NoneHas rules store k numbers = (egd : Egd) (found : Match) → slice_get rules.egds k ≡ Some egd → IsUnequalMatch store.rows egd found
    → ¬ (found.rows ≡ numbers)

-- some matches of an egd with unequal sides
pub record IsBatch (rules : RuleSet) (store : Store) (batch : Batch) : Type 0 where
  pub each : IsSomeAnd (slice_get rules.egds batch.egd) (λ egd. All (IsUnequalMatch store.rows egd) batch.found)
  pub some : batch.found ≢ []

-- what becomes of a match of an egd that has these rows
abbrev pub Comes : RuleSet → List (RowOf ConstId) → Store → Store → Search → List JournalStep → ℕ → List ℕ → Outcome → Type 0
Comes rules rows old new search journal k numbers outcomes.Equated =
    IsUnderway rules rows new search journal × IsLower rows old new
Comes rules rows old new search journal k numbers outcomes.Passed =
    IsUnderway rules rows new search journal × (new ≡ old) × NoneHas rules old k numbers
Comes rules rows old new search journal k numbers (outcomes.Clashed last) =
    IsRun rules rows journal (facts_in new) × IsClash rules (facts_in new) last

-- what a turn comes to
abbrev pub Turns : RuleSet → List (RowOf ConstId) → Store → Store → Search → List JournalStep → Turn → Type 0
Turns rules rows old new search journal Settled = IsRun rules rows journal (facts_in new) × NoneIsUnequal new.rows rules.egds
Turns rules rows old new search journal Equated = IsUnderway rules rows new search journal × IsLower rows old new
Turns rules rows old new search journal (Clashed last) =
    IsRun rules rows journal (facts_in new) × IsClash rules (facts_in new) last
