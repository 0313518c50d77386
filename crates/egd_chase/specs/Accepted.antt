-- What a failed run tells at one instant: the trace that its firings and its journal come to is accepted there.
use Rattle.std.specs.Prelude.{◌↔◌, ℕ, ℤ, List, All, Contains}
use Rattle.time_line.specs.Span.{Has}
use Rattle.term_core.specs.declared.const_id.ConstId.{ConstId}
use Rattle.term_core.specs.Pool.{IsPool}
use Rattle.rule_core.specs.Terms.{FactOf, StampedOf}
use Rattle.rule_core.specs.Mapping.{RuleSet}
use Rattle.rule_core.specs.Snapshot.{snapshot_at}
use Rattle.rule_core.specs.Firing.{IsFiringFact}
use Rattle.rule_core.specs.Renaming.{renamed_stamped}
use Rattle.rule_core.specs.Validity.{IsValid}
use Rattle.failure_trace.specs.declared.firing.Firing.{Firing}
use Rattle.failure_trace.specs.declared.journal.JournalStep.{JournalStep}
use Rattle.failure_trace.specs.declared.trace.Trace.{Trace}
use Rattle.failure_trace.specs.Firings.{AreFirings}
use Rattle.failure_trace.specs.JournalRun.{RowOf, IsRun, IsClash}
use Rattle.failure_trace.specs.Projected.{pool_text, IsInPool, IsProjected}
use Rattle.failure_trace.specs.TraceRun.{IsAccepted}

-- at the instant the rows hold exactly the firing facts of the source's snapshot
abbrev pub HoldFiringFactsAt : RuleSet → List (StampedOf (FactOf ConstId)) → ℤ → List (RowOf ConstId) → Type 0
HoldFiringFactsAt rules source t rows = (fact : FactOf ConstId)
    → Contains (snapshot_at rows t) fact ↔ IsFiringFact (λ c. c) rules (snapshot_at source t) fact

-- a run that fails: these are what fires on the source; rows that hold the firing facts at the instant lead by the journal to a state
-- with an allowed clash, whose span has the instant
pub record FailsAt (rules : RuleSet) (source : List (StampedOf (FactOf ConstId))) (firings : List Firing) (journal : List JournalStep)
    (last : JournalStep) (t : ℤ) : Type 0 where
  pub firings_are : AreFirings rules source firings
  pub rows : List (RowOf ConstId)
  pub rows_are : HoldFiringFactsAt rules source t rows
  pub state : List (RowOf ConstId)
  pub run : IsRun rules rows journal state
  pub clash : IsClash rules state last
  pub at : Has last.span t

-- what is projected of a run that fails at the instant is accepted on the source as it is told by the pool's texts; the clash's constants
-- have texts
abbrev pub ProjectedTracesAreAccepted : Type 0
ProjectedTracesAreAccepted =
    (rules : RuleSet) (pool : List (List ℕ)) (source : List (StampedOf (FactOf ConstId))) (firings : List Firing)
    → (journal : List JournalStep) (last : JournalStep) (t : ℤ) (trace : Trace) → IsValid rules → IsPool pool
    → FailsAt rules source firings journal last t → All (IsInPool pool) last.binding
    → IsProjected rules pool firings journal last t trace
    → IsAccepted (pool_text pool) rules (renamed_stamped (pool_text pool) source) trace
