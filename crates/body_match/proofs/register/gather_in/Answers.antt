use Rattle.std.proofs.Common.{subst, List}
use Rattle.std.proofs.lemmas.List.{take_all}
use Rattle.body_match.specs.Lookup.{Tree, HasSought, all_in}
use Rattle.body_match.proofs.RegisterLemmas.{sought_more}
use Rattle.body_match.proofs.register.gather_in.Goals as goal

pub loop-lookup-preserved : goal.loop-lookup-preserved
loop-lookup-preserved c =
    sought_more c.args.lookups.now c.loop-lookup.lookup-index _ _ c.args.probe.now c.loop-lookup.rows.items c.gather.new.rows.items
    c.loop-lookup-test.true c.lookup-item.is c.loop-lookup.invariant c.in_ok-gather.ensures.kept c.in_ok-gather.ensures.sought

pub returns : goal.returns
returns c =
    subst (λ (l : List Tree). HasSought (all_in l) c.args.probe.now c.loop-lookup.rows.items)
    (take_all c.loop-lookup.lookup-index c.args.lookups.now c.loop-lookup-test.false) c.loop-lookup.invariant
