-- The constants so far are bound.
use Rattle.std.proofs.Common.{◌≡◌, map, take, length}
use Rattle.failure_trace.specs.declared.trace.Value.TheVariants.{Const}
use Rattle.failure_trace.specs.Projected.{pool_text, BindsFirst}
use Rattle.failure_trace.proofs.binding.bind_constants.Given as goal

abbrev pub invariant-loop-constant : goal.invariant-loop-constant
invariant-loop-constant l = record {
  size : length l.binding ≡ l.constant-index;
  bound : BindsFirst l.names (map (λ c. Const (pool_text l.pool c)) (take l.constant-index l.constants)) l.binding;
}
