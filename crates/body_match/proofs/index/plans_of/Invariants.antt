-- A plan for each atom so far.
use Rattle.body_match.specs.Plans.{ArePlans}
use Rattle.body_match.proofs.index.plans_of.Given as goal

abbrev pub invariant-loop-first : goal.invariant-loop-first
invariant-loop-first g l = ArePlans l.body l.vars (g.F.FactSource.rows l.source) l.plans.items l.first
