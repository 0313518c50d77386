-- The rows so far are found.
use Rattle.std.proofs.Common.{ℕ, ◌<◌, Contains}
use Rattle.body_match.proofs.search.find_all.Given as goal

abbrev pub invariant-loop-row : goal.invariant-loop-row
invariant-loop-row g l = (row : ℕ) → row < l.row → Contains l.found.items row
