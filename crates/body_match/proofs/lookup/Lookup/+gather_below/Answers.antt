use Rattle.std.proofs.Common.{◌<◌, sym, ◌∙◌, arith}
use Rattle.std.proofs.lemmas.Bool.{false≢true}
use Rattle.std.proofs.lemmas.Result.{on_ok_weaker}
use Rattle.body_match.proofs.TreeLemmas.{adds_none_below, adds_both_below}
use Rattle.body_match.proofs.lookup.Lookup.+gather_below.Goals as goal

pub returns-then-not-may_have : goal.returns-then-not-may_have
returns-then-not-may_have t c =
    adds_none_below c.args.self.now c.reach.ensures.tree c.args.probe.now c.args.node c.reach.result c.args.rows.now.items c.requires.some
    c.reach.ensures.value (λ entry e s. false≢true (sym c.if-not-may_have.true ∙ c.may_have.ensures entry e s))

pub returns : goal.returns
returns t c =
    let tree = c.args.self.now in
    let probe = c.args.probe.now in
    let node = c.args.node in
    let less : node < tree.leaves = omega arith in
    on_ok_weaker c.gather_below-2.result
    (adds_both_below tree c.reach.ensures.tree probe node c.args.rows.now.items c.gather_below.new.rows.items
    c.gather_below-2.new.rows.items less c.in_ok-gather_below.ensures) c.gather_below-2.ensures
