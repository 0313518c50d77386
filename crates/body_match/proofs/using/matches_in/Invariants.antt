-- The list has those of the plans so far.
use Rattle.body_match.specs.Using.{AreOfPlans}
use Rattle.body_match.proofs.using.matches_in.Given as goal

abbrev pub invariant-loop-plan : goal.invariant-loop-plan
invariant-loop-plan g l = AreOfPlans l.plans (g.F.FactSource.rows l.source) l.row l.plan-index l.list.items
