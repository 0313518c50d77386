-- The reaches of the leaves are as they were, and from the node on each is the join of the two below.
use Rattle.std.proofs.Common.{◌≡◌, ℕ, ◌*◌, ◌≤◌, length, slice_get}
use Rattle.body_match.specs.Lookup.{AreJoined}
use Rattle.body_match.proofs.lookup.join_up.Given as goal

abbrev pub decreases-loop-node : goal.decreases-loop-node
decreases-loop-node l = l.node

abbrev pub invariant-loop-node : goal.invariant-loop-node
invariant-loop-node l = record {
  within : l.node ≤ l.leaves;
  size : length l.reaches.items ≡ 2 * l.leaves;
  leaf : (at : ℕ) → l.leaves ≤ at → slice_get l.reaches.items at ≡ slice_get l.fn.reaches.items at;
  joined : AreJoined l.reaches.items l.node;
}
