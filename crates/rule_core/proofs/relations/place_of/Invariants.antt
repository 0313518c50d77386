-- No relation so far has the name.
use Rattle.std.proofs.Common.{All, take}
use Rattle.std.specs.Prelude.{◌≢◌}
use Rattle.rule_core.proofs.relations.place_of.Given as goal

abbrev pub invariant-loop-place : goal.invariant-loop-place
invariant-loop-place l = All (λ r. r.name ≢ l.name) (take l.place l.relations)
