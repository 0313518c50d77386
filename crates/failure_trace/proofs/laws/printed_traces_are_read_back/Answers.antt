use Rattle.failure_trace.proofs.ReadBack.{trace_says}
use Rattle.failure_trace.proofs.laws.printed_traces_are_read_back.Goals as goal

pub returns : goal.returns
returns c = trace_says
