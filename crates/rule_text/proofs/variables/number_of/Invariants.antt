-- No variable so far has the name.
use Rattle.std.proofs.Common.{All, take}
use Rattle.std.specs.Prelude.{◌≢◌}
use Rattle.rule_text.proofs.variables.number_of.Given as goal

abbrev pub invariant-loop-number : goal.invariant-loop-number
invariant-loop-number l = All (λ other. other ≢ l.name) (take l.number l.names)
