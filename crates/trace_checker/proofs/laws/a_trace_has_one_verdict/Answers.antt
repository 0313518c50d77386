use Rattle.std.proofs.Common.{◌≡◌, ℕ, List, refl}
use Rattle.term_core.specs.declared.const_id.ConstId.{ConstId}
use Rattle.rule_core.specs.Mapping.{RuleSet}
use Rattle.rule_core.specs.Terms.{FactOf, StampedOf}
use Rattle.rule_core.specs.Validity.{IsValid}
use Rattle.rule_core.specs.Snapshot.{snapshot_at}
use Rattle.failure_trace.specs.declared.trace.Trace.{Trace}
use Rattle.failure_trace.specs.TraceRun.{start}
use Rattle.failure_trace.proofs.TraceOnce.{accepted_fails_nowhere, one_first_failure}
use Rattle.trace_checker.specs.declared.verdict.Verdict.{Verdict}
use Rattle.trace_checker.specs.declared.verdict.Verdict.TheVariants.{Accepted, Refused}
use Rattle.trace_checker.specs.Checked.{IsVerdict}
use Rattle.trace_checker.proofs.laws.a_trace_has_one_verdict.Goals as goal

one_verdict : (name : ConstId → List ℕ) (rules : RuleSet) (source : List (StampedOf (FactOf (List ℕ)))) (trace : Trace) (one other : Verdict)
    → IsValid rules → IsVerdict name rules source trace one → IsVerdict name rules source trace other → one ≡ other
one_verdict name rules source trace Accepted Accepted valid x y = refl
one_verdict name rules source trace Accepted (Refused step why) valid x y =
    absurd (accepted_fails_nowhere name rules (snapshot_at source trace.instant) valid.rules 1 start trace.steps step why x y)
one_verdict name rules source trace (Refused step why) Accepted valid x y =
    absurd (accepted_fails_nowhere name rules (snapshot_at source trace.instant) valid.rules 1 start trace.steps step why y x)
one_verdict name rules source trace (Refused step why) (Refused at reason) valid x y =
    let same = one_first_failure name rules (snapshot_at source trace.instant) valid.rules 1 start trace.steps step at why reason x y in
    λ i. Refused (same.0 i) (same.1 i)

pub returns : goal.returns
returns c = one_verdict
