-- A plan for each atom so far.
use Rattle.body_match.specs.Renewals.{AreBarePlans}
use Rattle.body_match.proofs.plan.bare_plans.Given as goal

abbrev pub invariant-loop-first : goal.invariant-loop-first
invariant-loop-first l = AreBarePlans l.body l.vars l.plans.items l.first
