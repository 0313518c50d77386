-- The entries so far stand within the stretches of their keys.
use Rattle.body_match.specs.Directory.{AreDirected}
use Rattle.body_match.proofs.directory.stretches_of.Given as goal

abbrev pub invariant-loop-at : goal.invariant-loop-at
invariant-loop-at l = AreDirected l.entries l.stretches.items l.at
