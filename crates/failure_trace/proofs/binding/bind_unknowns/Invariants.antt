-- The unknowns of the variables so far are bound.
use Rattle.std.proofs.Common.{◌≡◌, ◌+◌, ◌++◌, List, map, length}
use Rattle.std.specs.List.{range_with_len}
use Rattle.failure_trace.specs.declared.trace.Value.{Value}
use Rattle.failure_trace.specs.declared.trace.Value.TheVariants.{Null}
use Rattle.failure_trace.specs.Projected.{number_among, BindsFirst}
use Rattle.failure_trace.proofs.binding.bind_unknowns.Given as goal

abbrev pub invariant-loop-var : goal.invariant-loop-var
invariant-loop-var l = record {
  rule : l.unknown.rule ≡ l.firing.rule;
  frontier : l.unknown.frontier ≡ l.firing.frontier;
  size : length l.binding ≡ l.tgd.body_vars + l.var;
  bound : (told : List Value) → BindsFirst l.tgd.vars told l.fn.binding
      → BindsFirst l.tgd.vars (told ++ map (λ u. Null (number_among l.unknowns u))
      (map (λ var. record { rule = l.firing.rule; frontier = l.firing.frontier; var = var }) (range_with_len 0 l.var))) l.binding;
}
