-- The variables so far are marked.
use Rattle.std.proofs.Common.{◌≡◌, length}
use Rattle.body_match.specs.Choice.{AreLooked}
use Rattle.body_match.proofs.looked.looked_of.Given as goal

abbrev pub invariant-loop-variable : goal.invariant-loop-variable
invariant-loop-variable l = record {
  size : length l.looked.items ≡ l.variable;
  marks : AreLooked l.body l.left l.right l.looked.items;
}
