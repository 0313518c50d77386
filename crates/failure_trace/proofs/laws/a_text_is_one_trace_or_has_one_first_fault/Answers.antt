use Rattle.failure_trace.proofs.TextOnce.{trace_once}
use Rattle.failure_trace.proofs.TextFaults.{fault_once, trace_apart}
use Rattle.failure_trace.proofs.laws.a_text_is_one_trace_or_has_one_first_fault.Goals as goal

pub returns : goal.returns
returns c = record { trace = trace_once; fault = fault_once; apart = trace_apart }
