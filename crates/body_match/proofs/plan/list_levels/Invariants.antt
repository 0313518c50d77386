-- The row is listed for the atoms so far.
use Rattle.std.proofs.Common.{◌-◌}
use Rattle.body_match.proofs.IndexLemmas.{AreListedIn}
use Rattle.body_match.proofs.plan.list_levels.Given as goal

abbrev pub invariant-loop-before : goal.invariant-loop-before
invariant-loop-before g l = AreListedIn l.body (g.F.FactSource.rows l.source) l.row l.fn.levels.items l.levels.items (l.before - 1)
