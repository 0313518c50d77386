-- How an exchange stands on its way: where it starts to settle, and what comes of it. No public clause cites this module.
use Rattle.std.specs.Prelude.{List, All, IsPermutation}
use Rattle.term_core.specs.declared.const_id.ConstId.{ConstId}
use Rattle.failure_trace.specs.declared.firing.Firing.{Firing}
use Rattle.failure_trace.specs.declared.journal.JournalStep.{JournalStep}
use Rattle.failure_trace.specs.declared.trace.Trace.{Trace}
use Rattle.failure_trace.specs.JournalRun.{RowOf}
use Rattle.failure_trace.specs.Printed.{IsWritable}
use Rattle.tgd_chase.specs.Fired.{HoldFiringFacts}
use Rattle.egd_chase.specs.Settled.{LeadsTo, LeadsToClash, AreSettledForm, HaveNoModel}
use Rattle.exchange_engine.specs.declared.outcome.Solved.{Solved}
use Rattle.exchange_engine.specs.Loading.{LoadedOf}
use Rattle.exchange_engine.specs.Ran.{AreFiredOn, rows_for}
use Rattle.exchange_engine.specs.Solved.{AreTargetTables, AreCoalesced, AreUniversal, AreUnknownsOf, IsMadeBy, AreWithinPool, AreCountsOf, IsRunOf}
use Rattle.exchange_engine.specs.Answered.{AreAnswered}
use Rattle.exchange_engine.specs.Failed.{HasNoSolution, IsAcceptedOn, CountsFromOne, IsInsideClash}

-- the rows are those of the firings on the normalised table, and hold the firing facts of the source
pub record AreStarted (loaded : LoadedOf) (firings : List Firing) (rows : List (RowOf ConstId)) : Type 0 where
  pub fired : AreFiredOn loaded firings
  pub rows_are : IsPermutation (rows_for loaded firings) rows
  pub hold : HoldFiringFacts loaded.rules loaded.table rows

-- such rows were settled by the journal, and these came of it
pub record AreSettledFrom (loaded : LoadedOf) (firings : List Firing) (journal : List JournalStep)
    (last : List (RowOf ConstId)) : Type 0 where
  pub rows : List (RowOf ConstId)
  pub started : AreStarted loaded firings rows
  pub leads : LeadsTo loaded.rules rows last journal
  pub form : AreSettledForm loaded.rules rows last

-- such rows led by the journal to the clash
pub record IsClashFrom (loaded : LoadedOf) (firings : List Firing) (journal : List JournalStep) (clash : JournalStep) : Type 0 where
  pub rows : List (RowOf ConstId)
  pub started : AreStarted loaded firings rows
  pub leads : LeadsToClash loaded.rules rows journal clash
  pub none : HaveNoModel loaded.rules rows clash

-- all that is said of what is solved
pub record IsSolvedOf (loaded : LoadedOf) (solved : Solved) : Type 0 where
  pub tables : AreTargetTables loaded.rules.targets solved.tables
  pub coalesced : AreCoalesced solved.tables
  pub universal : AreUniversal loaded solved.tables
  pub nulls : AreUnknownsOf solved.tables solved.nulls
  pub made : All (IsMadeBy loaded.rules) solved.nulls
  pub within : AreWithinPool loaded solved.tables
  pub answers : AreAnswered loaded solved.answers
  pub counts : AreCountsOf loaded solved
  pub run : IsRunOf loaded solved

-- and of what has failed
pub record IsFailedOf (loaded : LoadedOf) (trace : Trace) : Type 0 where
  pub failed : HasNoSolution loaded trace
  pub accepted : IsAcceptedOn loaded trace
  pub writable : IsWritable trace
  pub numbers : CountsFromOne trace
  pub inside : IsInsideClash loaded trace
