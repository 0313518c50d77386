use Rattle.body_match.proofs.ChoiceLemmas.{less_twice}
use Rattle.body_match.proofs.choice.hide_inside.Goals as goal

pub returns-then-not-branch : goal.returns-then-not-branch
returns-then-not-branch g c =
    less_twice c.args.body.now c.args.looked.now (g.F.FactSource.rows c.args.source.now) c.args.choice.now.shown.items
    c.loop.choice.shown.items c.hide_if.new.choice.shown.items c.loop.invariant c.in_ok-hide_if.ensures

pub loop-preserved : goal.loop-preserved
loop-preserved g c =
    less_twice c.args.body.now c.args.looked.now (g.F.FactSource.rows c.args.source.now) c.args.choice.now.shown.items
    c.loop.choice.shown.items c.hide_if.new.choice.shown.items c.loop.invariant c.in_ok-hide_if.ensures
