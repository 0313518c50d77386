-- What an exchange gives where it has failed: a trace of one instant.
use Rattle.std.specs.Prelude.{◌≡◌, ℕ, ◌≤◌, List, All, ⊤}
use Rattle.time_line.specs.Span.{instant_between}
use Rattle.term_core.specs.declared.const_id.ConstId.{ConstId}
use Rattle.rule_core.specs.Terms.{FactOf, StampedOf}
use Rattle.rule_core.specs.Renaming.{renamed_stamped}
use Rattle.rule_core.specs.Solution.{IsSolution}
use Rattle.fact_table.specs.Snapshots.{stamped_facts, snapshot_of}
use Rattle.failure_trace.specs.declared.firing.Firing.{Firing}
use Rattle.failure_trace.specs.declared.journal.JournalStep.{JournalStep}
use Rattle.failure_trace.specs.declared.trace.Trace.{Trace}
use Rattle.failure_trace.specs.Trace.{numbers_in}
use Rattle.failure_trace.specs.TraceRun.{IsAccepted}
use Rattle.failure_trace.specs.Projected.{pool_text, IsProjected}
use Rattle.egd_chase.specs.Settled.{LeadsToClash}
use Rattle.exchange_engine.specs.Loading.{LoadedOf}
use Rattle.exchange_engine.specs.Ran.{AreFiredOn, rows_for}
use Rattle.exchange_engine.specs.declared.outcome.Outcome.{Outcome}
use Rattle.exchange_engine.specs.declared.outcome.Outcome.TheVariants as outcome

-- what is so of the trace, where the exchange has failed
abbrev pub IfFailed : Outcome → (Trace → Type 0) → Type 0
IfFailed (outcome.Solved solved) P = ⊤
IfFailed (outcome.Failed trace) P = P trace

-- no instance is a solution at the trace's instant; constants stand for themselves
abbrev pub HasNoSolution : LoadedOf → Trace → Type 0
HasNoSolution loaded trace = (instance : List (FactOf ConstId))
    → ¬ (IsSolution (λ c. c) loaded.rules (snapshot_of loaded.table trace.instant) instance)

-- the source over its spans, with the texts of its constants
abbrev pub told_source : LoadedOf → List (StampedOf (FactOf (List ℕ)))
told_source loaded = renamed_stamped (pool_text loaded.pool) (stamped_facts loaded.table)

-- the trace is accepted on the mapping and the source, as the pool's texts tell them
abbrev pub IsAcceptedOn : LoadedOf → Trace → Type 0
IsAcceptedOn loaded trace = IsAccepted (pool_text loaded.pool) loaded.rules (told_source loaded) trace

-- each unknown's number is at least 1
abbrev pub CountsFromOne : Trace → Type 0
CountsFromOne trace = All (λ step. All (λ number. 1 ≤ number) (numbers_in step.binding)) trace.steps

-- the trace is what firings and a journal come to at the instant inside a clash: the firings are those on the normalised table, the journal
-- is an allowed run from their rows, and the clash is allowed after it
pub record IsInsideClash (loaded : LoadedOf) (trace : Trace) : Type 0 where
  pub firings : List Firing
  pub fired : AreFiredOn loaded firings
  pub journal : List JournalStep
  pub clash : JournalStep
  pub leads : LeadsToClash loaded.rules (rows_for loaded firings) journal clash
  pub inside : trace.instant ≡ instant_between clash.span.lo clash.span.hi
  pub told : IsProjected loaded.rules loaded.pool firings journal clash trace.instant trace
