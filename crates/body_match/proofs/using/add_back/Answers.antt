use Rattle.std.proofs.Common.{◌≡◌, length, arith}
use Rattle.body_match.proofs.UsingLemmas.{none_put_back, one_put_back, all_put_back}
use Rattle.body_match.proofs.using.add_back.Goals as goal

pub loop-ordered-init : goal.loop-ordered-init
loop-ordered-init c = none_put_back c.args.order.now c.args.found.items c.args.list.now.items

pub loop-ordered-preserved : goal.loop-ordered-preserved
loop-ordered-preserved c =
    one_put_back c.args.order.now c.args.found.items c.args.list.now.items c.loop-ordered.left.items c.pop.new.self.items
    c.loop-ordered.list.items c.push.new.self.items c.in-Some.ordered c.in_ok-back.back c.in-Some.ensures.items c.in_ok-push.ensures.items
    c.in_ok-back.ensures c.loop-ordered.invariant

pub returns : goal.returns
returns c =
    let empty : length c.loop-ordered.left.items ≡ 0 = omega (arith, c.in_default.ensures.cases.0, c.loop-ordered.left.ok) in
    all_put_back c.args.order.now c.args.found.items c.args.list.now.items c.loop-ordered.left.items c.loop-ordered.list.items empty
    c.loop-ordered.invariant
