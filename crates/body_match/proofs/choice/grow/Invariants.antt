-- There is room for so many rows, and the same are shown.
use Rattle.std.proofs.Common.{◌≡◌, ◌↔◌, ℕ, length}
use Rattle.body_match.specs.Choice.{IsOn}
use Rattle.body_match.proofs.choice.grow.Given as goal

abbrev pub invariant-loop : goal.invariant-loop
invariant-loop l = record {
  size : length l.shown.items ≡ l.counter;
  same : (number : ℕ) → IsOn l.shown.items number ↔ IsOn l.fn.shown.items number;
}
