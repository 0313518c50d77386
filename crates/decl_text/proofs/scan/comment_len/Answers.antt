use Rattle.std.proofs.Common.{arith}
use Rattle.decl_text.proofs.GapLemmas.{comment_from_line}
use Rattle.decl_text.proofs.scan.comment_len.Goals as goal

pub returns-in-35-clause-comment : goal.returns-in-35-clause-comment
returns-in-35-clause-comment c =
    comment_from_line c.args.bytes.now c.line_len.result (omega arith) c.line_len.ensures.line c.line_len.ensures.whole
