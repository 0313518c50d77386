use Rattle.tgd_chase.proofs.AddingLemmas.{can_add, named_added}
use Rattle.tgd_chase.proofs.chase.add_named.Goals as goal

pub add_firing-requires : goal.add_firing-requires
add_firing-requires g c =
    can_add c.args.rules.now c.args.firing.now c.args.store.now c.name.new.self c.in_ok-name.name c.requires.fits c.requires.fresh
    c.name.ensures.keeps c.in_ok-name.ensures.ok

pub returns : goal.returns
returns g c =
    named_added c.args.rules.now c.args.firing.now c.args.store.now c.name.new.self c.add_firing.new.self c.in_ok-name.name
    c.name.ensures.keeps c.in_ok-name.ensures.ok c.add_firing.ensures.adds
