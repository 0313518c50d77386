-- The entries so far lie within the reaches of their leaves.
use Rattle.std.proofs.Common.{◌≡◌, ◌*◌, length}
use Rattle.body_match.specs.Lookup.{AreInLeaves}
use Rattle.body_match.proofs.lookup.leaf_reaches.Given as goal

abbrev pub invariant-loop-at : goal.invariant-loop-at
invariant-loop-at l = record {
  size : length l.reaches.items ≡ 2 * l.leaves;
  leaf : AreInLeaves l.entries l.reaches.items l.leaves l.at;
}
