use Rattle.std.proofs.Common.{arith}
use Rattle.normaliser.proofs.GroupLemmas.{unites_alone, unites_all}
use Rattle.normaliser.proofs.grouping.unite_matches.Goals as goal

pub returns-then-len-lt2 : goal.returns-then-len-lt2
returns-then-len-lt2 g c =
    unites_alone c.args.tgd.now c.args.table.now c.args.union.now (let n = c.len.ensures in let l = c.if-len-lt2.true in omega (arith, n, l))

pub returns : goal.returns
returns g c =
    let visits = c.in_ok-whole.ensures.visits in
    unites_all c.args.tgd.now c.args.table.now visits.0 visits.1 visits.2 (visits.3 c.if-prove.false) c.args.union.now
    c.visit_matches.new.visitor visits.4
