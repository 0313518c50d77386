-- No two of the texts so far are equal.
use Rattle.std.proofs.Common.{AllPairs, take}
use Rattle.std.specs.Prelude.{◌≢◌}
use Rattle.rule_core.proofs.names.are_distinct.Given as goal

abbrev pub invariant-loop-at : goal.invariant-loop-at
invariant-loop-at l = AllPairs (λ a b. a ≢ b) (take l.at l.texts)
