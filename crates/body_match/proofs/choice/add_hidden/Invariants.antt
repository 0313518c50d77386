-- What was added so far is not shown.
use Rattle.std.proofs.Common.{◌⊎◌, ℕ, Contains}
use Rattle.body_match.specs.Choice.{IsOn}
use Rattle.body_match.proofs.choice.add_hidden.Given as goal

abbrev pub invariant-loop-row : goal.invariant-loop-row
invariant-loop-row l = (number : ℕ) → Contains l.gone.items number → Contains l.fn.gone.items number ⊎ ¬ (IsOn l.shown number)
