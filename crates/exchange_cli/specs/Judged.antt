-- The verdict on the trace that was read, on the mapping and the source as texts.
use Rattle.std.specs.Prelude.{◌≡◌, ℕ, ℤ, List}
use Rattle.std.specs.declared.option.Option.TheVariants.{Some}
use Rattle.rule_core.specs.Terms.{FactOf}
use Rattle.rule_core.specs.Snapshot.{snapshot_at}
use Rattle.rule_core.specs.Solution.{IsSolution}
use Rattle.failure_trace.specs.declared.trace.Trace.{Trace}
use Rattle.trace_checker.specs.Checked.{IsVerdict}
use Rattle.trace_checker.specs.declared.verdict.Verdict.{Verdict}
use Rattle.trace_checker.specs.declared.verdict.Verdict.TheVariants.{Accepted}
use Rattle.exchange_cli.specs.Inputs.{Inputs, name_of, source_of}

-- the trace run on what was read comes to this verdict
abbrev pub Judges : Inputs → Trace → Verdict → Type 0
Judges inputs = IsVerdict (name_of inputs) inputs.mapping.rules (source_of inputs)

-- no instance is a solution at the instant
abbrev pub HasNoneAt : Inputs → ℤ → Type 0
HasNoneAt inputs t = (target : List (FactOf (List ℕ)))
    → ¬ (IsSolution (name_of inputs) inputs.mapping.rules (snapshot_at (source_of inputs) t) target)

-- the trace that was read has this verdict and no other; where it is accepted, its instant has no solution
pub record IsVerdictOf (inputs : Inputs) (verdict : Verdict) : Type 0 where
  pub trace : Trace
  pub read : inputs.trace ≡ Some trace
  pub right : Judges inputs trace verdict
  pub one : (other : Verdict) → Judges inputs trace other → other ≡ verdict
  pub shows : verdict ≡ Accepted → HasNoneAt inputs trace.instant
