-- What an exchange promises of its outcome, one by one, as what is known of it together.
use Rattle.std.specs.Prelude.{IfOk}
use Rattle.std.specs.declared.result.Result.{Result}
use Rattle.std.specs.declared.result.Result.TheVariants.{Ok, Err}
use Rattle.failure_trace.specs.Printed.{IsWritable}
use Rattle.exchange_engine.specs.Loading.{LoadedOf}
use Rattle.exchange_engine.specs.Solved.{IfSolved, AreTargetTables, AreCoalesced, AreUniversal, AreWithinPool, AreUnknownsOf, AreCountsOf, IsRunOf}
use Rattle.exchange_engine.specs.Answered.{AreAnswered}
use Rattle.exchange_engine.specs.Failed.{IfFailed, IsAcceptedOn}
use Rattle.exchange_engine.specs.declared.outcome.Outcome.{Outcome}
use Rattle.exchange_engine.specs.declared.outcome.Outcome.TheVariants as outcome
use Rattle.exchange_cli.specs.Exchanged.{IsSolvedFrom, IsFailedFrom}

module _ (loaded : LoadedOf) {E : Type 0} where
  -- where it is solved
  pub solved_from : (result : Result Outcome E)
      → IfOk result (λ o. IfSolved o (λ s. AreTargetTables loaded.rules.targets s.tables))
      → IfOk result (λ o. IfSolved o (λ s. AreCoalesced s.tables))
      → IfOk result (λ o. IfSolved o (λ s. AreUniversal loaded s.tables))
      → IfOk result (λ o. IfSolved o (λ s. AreWithinPool loaded s.tables))
      → IfOk result (λ o. IfSolved o (λ s. AreUnknownsOf s.tables s.nulls))
      → IfOk result (λ o. IfSolved o (λ s. AreAnswered loaded s.answers))
      → IfOk result (λ o. IfSolved o (AreCountsOf loaded)) → IfOk result (λ o. IfSolved o (IsRunOf loaded))
      → IfOk result (λ o. IfSolved o (IsSolvedFrom loaded))
  solved_from (Err e) tables coalesced universal within nulls answers counts run = tt
  solved_from (Ok (outcome.Failed trace)) tables coalesced universal within nulls answers counts run = tt
  solved_from (Ok (outcome.Solved solved)) tables coalesced universal within nulls answers counts run = record {
    tables = tables;
    coalesced = coalesced;
    universal = universal;
    within = within;
    nulls = nulls;
    answers = answers;
    counts = counts;
    run = run;
  }

  -- where it has failed
  pub failed_from : (result : Result Outcome E) → IfOk result (λ o. IfFailed o (IsAcceptedOn loaded))
      → IfOk result (λ o. IfFailed o IsWritable) → IfOk result (λ o. IfFailed o (IsFailedFrom loaded))
  failed_from (Err e) accepted writable = tt
  failed_from (Ok (outcome.Solved solved)) accepted writable = tt
  failed_from (Ok (outcome.Failed trace)) accepted writable = record { accepted = accepted; writable = writable }
