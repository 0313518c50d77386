use Rattle.body_match.proofs.IndexLemmas.{index_of, lists_of}
use Rattle.std.proofs.Common.{length}
use Rattle.body_match.proofs.index.BodyIndex.make.Goals as goal

pub returns-clause-lists : goal.returns-clause-lists
returns-clause-lists g c =
    lists_of c.args.body c.args.vars (g.F.FactSource.rows c.args.source.now) c.in_ok-plans.plans.items (length c.args.body)
    c.in_ok-plans.ensures

pub invariant_of-result : goal.invariant_of-result
invariant_of-result g c =
    index_of c.args.body c.args.vars (g.F.FactSource.rows c.args.source.now) c.in_ok-plans.plans.items c.requires.vars c.in_ok-plans.ensures
