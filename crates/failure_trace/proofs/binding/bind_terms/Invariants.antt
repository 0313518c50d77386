-- The terms so far are bound.
use Rattle.std.proofs.Common.{◌≡◌, map, take, length}
use Rattle.failure_trace.specs.Projected.{told_value, BindsFirst}
use Rattle.failure_trace.proofs.binding.bind_terms.Given as goal

abbrev pub invariant-loop-term : goal.invariant-loop-term
invariant-loop-term l = record {
  size : length l.binding ≡ l.term-index;
  bound : BindsFirst l.names (map (told_value l.pool l.unknowns) (take l.term-index l.terms)) l.binding;
}
