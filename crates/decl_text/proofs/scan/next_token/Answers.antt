use Rattle.std.proofs.lemmas.List.{take_rest}
use Rattle.decl_text.proofs.ScanLemmas.{gap_between}
use Rattle.decl_text.proofs.scan.next_token.Goals as goal

pub returns-clause-token : goal.returns-clause-token
returns-clause-token c =
    let fits = simp take_rest at c.gap_len.ensures.within in
    let gap = simp take_rest at c.gap_len.ensures.gap in
    c.token_from.ensures.token c.args.from (gap_between c.args.bytes.now c.args.from c.gap_len.result fits gap)

pub returns-clause-fault : goal.returns-clause-fault
returns-clause-fault c =
    let fits = simp take_rest at c.gap_len.ensures.within in
    let gap = simp take_rest at c.gap_len.ensures.gap in
    c.token_from.ensures.fault c.args.from (gap_between c.args.bytes.now c.args.from c.gap_len.result fits gap)
