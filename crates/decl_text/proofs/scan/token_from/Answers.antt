use Rattle.std.proofs.Common.{refl}
use Rattle.std.proofs.lemmas.List.{take_rest}
use Rattle.decl_text.proofs.ScanLemmas.{no_gap_between, token_behind, fault_behind}
use Rattle.decl_text.proofs.scan.token_from.Goals as goal

pub returns-in-Ok-clause-at : goal.returns-in-Ok-clause-at
returns-in-Ok-clause-at c =
    let fits = simp take_rest at c.in-Ok.ensures.within in
    let whole = simp take_rest at c.in-Ok.ensures.token in
    let before = no_gap_between c.args.bytes.now c.args.start in
    record {
      next = token_behind c.args.bytes.now c.args.start c.args.start c.in-Ok.front.len c.in-Ok.front.kind before fits whole;
      start_is = refl;
    }

pub returns-in-Ok-clause-token : goal.returns-in-Ok-clause-token
returns-in-Ok-clause-token c from before =
    let fits = simp take_rest at c.in-Ok.ensures.within in
    let whole = simp take_rest at c.in-Ok.ensures.token in
    token_behind c.args.bytes.now from c.args.start c.in-Ok.front.len c.in-Ok.front.kind before fits whole

pub returns-in-Err-clause-fault : goal.returns-in-Err-clause-fault
returns-in-Err-clause-fault c from before =
    let bad = simp take_rest at c.in-Err.ensures.fault in
    fault_behind c.args.bytes.now from c.args.start c.in-Err.bad.after c.in-Err.bad.code before bad
