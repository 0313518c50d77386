-- What settling the rows of a store comes to.
use Rattle.std.specs.Prelude.{ℤ, List, Contains, ⊤}
use Rattle.time_line.specs.Span.{Has}
use Rattle.term_core.specs.declared.const_id.ConstId.{ConstId}
use Rattle.rule_core.specs.Terms.{FactOf}
use Rattle.rule_core.specs.Mapping.{RuleSet}
use Rattle.rule_core.specs.Snapshot.{snapshot_at}
use Rattle.rule_core.specs.Homomorphism.{Homomorphism}
use Rattle.failure_trace.specs.declared.journal.JournalStep.{JournalStep}
use Rattle.failure_trace.specs.JournalRun.{RowOf, IsRun, IsClash}
use Rattle.null_store.specs.Store.{Store}
use Rattle.egd_chase.specs.declared.settling.Settled.{Settled}
use Rattle.egd_chase.specs.declared.settling.Settled.TheVariants.{Done, Clash}
use Rattle.egd_chase.specs.Settling.{EgdsHold, AreSettled}

-- what is so of the store and the journal, where the rows are settled
abbrev pub IfDone : Settled → (Store → List JournalStep → Type 0) → Type 0
IfDone (Done store journal) P = P store journal
IfDone (Clash journal last) P = ⊤

-- what is so of the journal and the clash after it, where there is one
abbrev pub IfClash : Settled → (List JournalStep → JournalStep → Type 0) → Type 0
IfClash (Done store journal) P = ⊤
IfClash (Clash journal last) P = P journal last

-- the journal is an allowed run from the rows, and ends with rows in which no match over a common time has unequal sides
pub record LeadsTo (rules : RuleSet) (rows : List (RowOf ConstId)) (last : List (RowOf ConstId)) (journal : List JournalStep) : Type 0 where
  pub run : IsRun rules rows journal last
  pub settled : AreSettled rules last

-- the journal is an allowed run from the rows, and an allowed clash comes after it
pub record LeadsToClash (rules : RuleSet) (rows : List (RowOf ConstId)) (journal : List JournalStep) (clash : JournalStep) : Type 0 where
  pub last : List (RowOf ConstId)
  pub run : IsRun rules rows journal last
  pub allowed : IsClash rules last clash

-- the facts map into an instance in which every egd holds
abbrev pub MapsIntoModel : RuleSet → List (FactOf ConstId) → List (FactOf ConstId) → Type 0
MapsIntoModel rules facts instance = EgdsHold rules instance × Homomorphism (Contains facts) instance

-- at every instant every egd holds in the second rows, the first rows map into them, and the second rows map into each instance in which
-- every egd holds and into which the first rows map
pub record AreSettledForm (rules : RuleSet) (rows last : List (RowOf ConstId)) : Type 0 where
  pub hold : (t : ℤ) → EgdsHold rules (snapshot_at last t)
  pub maps : (t : ℤ) → Homomorphism (Contains (snapshot_at rows t)) (snapshot_at last t)
  pub least : (t : ℤ) (instance : List (FactOf ConstId)) → MapsIntoModel rules (snapshot_at rows t) instance
      → Homomorphism (Contains (snapshot_at last t)) instance

-- at no instant of the clash do the rows map into an instance in which every egd holds
abbrev pub HaveNoModel : RuleSet → List (RowOf ConstId) → JournalStep → Type 0
HaveNoModel rules rows clash = (t : ℤ) → Has clash.span t → (instance : List (FactOf ConstId))
    → ¬ (MapsIntoModel rules (snapshot_at rows t) instance)
