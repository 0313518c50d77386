-- The columns so far are the variables of the head's names.
use Rattle.std.proofs.Common.{◌≡◌, ℕ, ◌<◌}
use Rattle.std.specs.Prelude.{slice_get, slice_index_or}
use Rattle.rule_core.proofs.queries.are_columns.Given as goal

abbrev pub invariant-loop-k : goal.invariant-loop-k
invariant-loop-k l = (k : ℕ) → k < l.k → slice_get l.vars (slice_index_or l.columns k 0) ≡ slice_get l.head k
