-- The rows hidden so far are stood for.
use Rattle.body_match.specs.Choice.{StandsForLess}
use Rattle.body_match.proofs.choice.hide_inside.Given as goal

abbrev pub invariant-loop : goal.invariant-loop
invariant-loop g l =
    StandsForLess l.body l.looked (g.F.FactSource.rows l.source) l.fn.choice.shown.items l.choice.shown.items
