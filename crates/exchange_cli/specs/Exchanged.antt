-- What is loaded of what was read, and what an exchange gives of it.
use Rattle.term_core.specs.Pool.{IsPool}
use Rattle.rule_core.specs.Rebase.{IsRebased}
use Rattle.rule_core.specs.Validity.{IsValid}
use Rattle.mapping_core.specs.Mapping.{HasItsConstants}
use Rattle.fact_table.specs.Facts.{IsTable}
use Rattle.failure_trace.specs.declared.trace.Trace.{Trace}
use Rattle.failure_trace.specs.Printed.{IsWritable}
use Rattle.exchange_engine.specs.Loading.{LoadedOf, HasEachConstant, AreFactsOf}
use Rattle.exchange_engine.specs.Solved.{AreTargetTables, AreCoalesced, AreUniversal, AreWithinPool, AreUnknownsOf, AreCountsOf, IsRunOf}
use Rattle.exchange_engine.specs.Answered.{AreAnswered}
use Rattle.exchange_engine.specs.Failed.{IsAcceptedOn}
use Rattle.exchange_engine.specs.declared.outcome.Solved.{Solved}
use Rattle.exchange_cli.specs.Inputs.{Inputs}

-- what is loaded of what was read: the same mapping by the numbers of a pool, and the same facts, each once
pub record IsLoadedFrom (inputs : Inputs) (loaded : LoadedOf) : Type 0 where
  pub read_valid : IsValid inputs.mapping.rules
  pub constants : HasItsConstants inputs.mapping.rules inputs.mapping.pool
  pub valid : IsValid loaded.rules
  pub pool : IsPool loaded.pool
  pub each : HasEachConstant loaded
  pub rules : IsRebased inputs.mapping.pool loaded.pool inputs.mapping.rules loaded.rules
  pub facts : AreFactsOf inputs.tables loaded.pool loaded.table
  pub once : IsTable loaded.table

-- what an exchange gives of what is loaded, where it is solved
pub record IsSolvedFrom (loaded : LoadedOf) (solved : Solved) : Type 0 where
  pub tables : AreTargetTables loaded.rules.targets solved.tables
  pub coalesced : AreCoalesced solved.tables
  pub universal : AreUniversal loaded solved.tables
  pub within : AreWithinPool loaded solved.tables
  pub nulls : AreUnknownsOf solved.tables solved.nulls
  pub answers : AreAnswered loaded solved.answers
  pub counts : AreCountsOf loaded solved
  pub run : IsRunOf loaded solved

-- and the trace that it gives, where it has failed
pub record IsFailedFrom (loaded : LoadedOf) (trace : Trace) : Type 0 where
  pub accepted : IsAcceptedOn loaded trace
  pub writable : IsWritable trace
