-- The rows so far are at their places.
use Rattle.std.proofs.Common.{◌≡◌, ℕ, ◌<◌, Some, length}
use Rattle.std.specs.Prelude.{slice_get}
use Rattle.body_match.proofs.plan.put_back.Given as goal

abbrev pub invariant-loop-at : goal.invariant-loop-at
invariant-loop-at l = record {
  size : length l.back.items ≡ length l.order;
  done : (k place row : ℕ) → k < l.at → slice_get l.order k ≡ Some place → slice_get l.rows k ≡ Some row
      → slice_get l.back.items place ≡ Some row;
}
