-- The list has some of the plans so far.
use Rattle.body_match.proofs.UnequalLemmas.{AreUnequal}
use Rattle.body_match.proofs.unequal.unequal_of.Given as goal

abbrev pub invariant-loop-plan : goal.invariant-loop-plan
invariant-loop-plan g l =
    AreUnequal l.plans (g.F.FactSource.rows l.source) l.wanted.row l.wanted.left l.wanted.right l.plan-index l.list.items
