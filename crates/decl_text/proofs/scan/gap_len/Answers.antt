use Rattle.std.proofs.lemmas.List.{take_rest}
use Rattle.decl_text.proofs.GapLemmas.{IsGap-parts}
use Rattle.decl_text.proofs.scan.gap_len.Goals as goal

pub returns-clause-gap : goal.returns-clause-gap
returns-clause-gap c =
    let comment = simp take_rest at c.comment_len.ensures.comment in
    IsGap-parts c.args.bytes.now c.blanks_len-blanks.result c.comment_len.result c.blanks_len-blanks.ensures.blank comment
