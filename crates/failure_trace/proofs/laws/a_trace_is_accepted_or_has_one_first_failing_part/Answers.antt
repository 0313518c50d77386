-- A trace is computed to its end, and no step comes to two outcomes.
use Rattle.std.proofs.Common.{◌≡◌, ◌⊎◌, ℕ, Option, Some, None, List, refl, inl, inr}
use Rattle.term_core.specs.declared.const_id.ConstId.{ConstId}
use Rattle.rule_core.specs.Mapping.{RuleSet}
use Rattle.rule_core.specs.Terms.{FactOf}
use Rattle.failure_trace.specs.declared.trace.TraceStep.{TraceStep}
use Rattle.failure_trace.specs.declared.why.Why.{Why}
use Rattle.rule_core.specs.Snapshot.{snapshot_at}
use Rattle.failure_trace.specs.TraceRun.{Stage, clashed, start, Pass, FailsFrom}
use Rattle.failure_trace.proofs.TraceTests.{first_failure, passes, fails}
use Rattle.failure_trace.proofs.TraceOnce.{accepted_fails_nowhere, one_first_failure}
use Rattle.failure_trace.proofs.laws.a_trace_is_accepted_or_has_one_first_failing_part.Goals as goal

-- steps on an instance are allowed up to a clash, or one is the first that fails
decided : (name : ConstId → List ℕ) (rules : RuleSet) (source : List (FactOf (List ℕ))) (stage : Stage) (steps : List TraceStep)
    → Pass name rules source stage steps clashed ⊎ ((step : ℕ) × (why : Why) × FailsFrom name rules source 1 stage steps step why)
decided name rules source stage steps = by (first_failure name rules source 1 stage steps) refl
  where
    by : (o : Option (ℕ × Why)) → first_failure name rules source 1 stage steps ≡ o
        → Pass name rules source stage steps clashed ⊎ ((step : ℕ) × (why : Why) × FailsFrom name rules source 1 stage steps step why)
    by None e = inl (passes name rules source 1 stage steps e)
    by (Some f) e = inr (f.0, f.1, fails name rules source 1 stage steps f.0 f.1 e)

pub returns : goal.returns
returns c = record {
  some = λ name rules source trace. decided name rules (snapshot_at source trace.instant) start trace.steps;
  one = λ name rules source trace step other why reason valid x y.
      one_first_failure name rules (snapshot_at source trace.instant) valid.rules 1 start trace.steps step other why reason x y;
  apart = λ name rules source trace step why valid accepted refused.
      accepted_fails_nowhere name rules (snapshot_at source trace.instant) valid.rules 1 start trace.steps step why accepted refused;
}
