-- How the verdict on a trace is written, with its status, and the fault of a trace's text.
use Rattle.std.specs.Prelude.{ℕ, List, ◌++◌, codes}
use Rattle.std.specs.Fmt.{decimal}
use Rattle.failure_trace.specs.declared.fault.TraceCode.{TraceCode}
use Rattle.failure_trace.specs.declared.fault.TraceCode.TheVariants.{L1, L2, L3, L4, L5, L6}
use Rattle.failure_trace.specs.declared.fault.TraceFault.{TraceFault}
use Rattle.failure_trace.specs.declared.why.Why.{Why}
use Rattle.failure_trace.specs.declared.why.Why.TheVariants.{K1, K2, K3, K4, K5, K6, K7, K8}
use Rattle.trace_checker.specs.declared.verdict.Verdict.{Verdict}
use Rattle.trace_checker.specs.declared.verdict.Verdict.TheVariants.{Accepted, Refused}

-- the number of a fault of a trace's text
abbrev pub trace_code : TraceCode → List ℕ
trace_code L1 = codes "L1"
trace_code L2 = codes "L2"
trace_code L3 = codes "L3"
trace_code L4 = codes "L4"
trace_code L5 = codes "L5"
trace_code L6 = codes "L6"

-- a fault of a trace's text, as `L3 at line 4`
abbrev pub trace_fault : TraceFault → List ℕ
trace_fault fault = trace_code fault.code ++ codes " at line " ++ decimal fault.line

-- the number of a part of the table by which a trace is checked
abbrev pub why_code : Why → List ℕ
why_code K1 = codes "K1"
why_code K2 = codes "K2"
why_code K3 = codes "K3"
why_code K4 = codes "K4"
why_code K5 = codes "K5"
why_code K6 = codes "K6"
why_code K7 = codes "K7"
why_code K8 = codes "K8"

-- a verdict, as `not accepted: K3 at step 2`
abbrev pub verdict_text : Verdict → List ℕ
verdict_text Accepted = codes "accepted"
verdict_text (Refused step why) = codes "not accepted: " ++ why_code why ++ codes " at step " ++ decimal step

-- the answer of the program, by the verdict
abbrev pub status_judged : Verdict → ℕ
status_judged Accepted = 0
status_judged (Refused step why) = 6
