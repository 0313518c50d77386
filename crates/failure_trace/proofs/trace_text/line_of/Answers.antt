use Rattle.std.proofs.Common.{◌≤◌, length, drop}
use Rattle.std.proofs.lemmas.List.{take_rest}
use Rattle.failure_trace.proofs.LineLemmas.{line_front}
use Rattle.failure_trace.proofs.trace_text.line_of.Goals as goal

pub returns-in-len1-up-clause-line : goal.returns-in-len1-up-clause-line
returns-in-len1-up-clause-line c =
    let some : 1 ≤ length (drop c.line_len-len.result c.args.bytes.now) = simp take_rest at c.in-len1-up.len_at_least in
    line_front c.args.bytes.now c.line_len-len.result c.line_len-len.ensures.line c.line_len-len.ensures.whole some
