use Rattle.std.proofs.Common.{◌≡◌, take, drop, codes, false, rules}
use Rattle.failure_trace.proofs.LineLemmas.{line_once, no_both}
use Rattle.failure_trace.proofs.trace_text.first_end.Goals as goal

pub returns-then-not-is_first-clause-none : goal.returns-then-not-is_first-clause-none
returns-then-not-is_first-clause-none c rest begins =
    let same = line_once c.args.bytes.now (take c.in-Some.line.len c.args.bytes.now) (codes "trace 1")
    (drop c.in-Some.line.end c.args.bytes.now) rest c.in-Some.ensures.line begins in
    let failed : c.is_first.result ≡ false = search rules in
    no_both c.is_first.result failed (c.is_first.ensures.1 same.0)
