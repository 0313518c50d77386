-- As many values are taken as there are frontier variables so far, and each stands at its variable.
use Rattle.std.proofs.Common.{◌≡◌, length, filter}
use Rattle.std.specs.List.{range_with_len}
use Rattle.rule_core.specs.Firing.{has_variable}
use Rattle.null_store.specs.declared.firing.TheConstants.{MOST_VARIABLES}
use Rattle.null_store.specs.Layout.{HasValuesBelow}
use Rattle.null_store.proofs.firing.frontier_values.Given as goal

abbrev pub invariant-loop-variable : goal.invariant-loop-variable
invariant-loop-variable l = record {
  taken : l.taken ≡ length (filter (has_variable l.tgd.head) (range_with_len 0 l.variable));
  size : length l.values ≡ MOST_VARIABLES;
  values : HasValuesBelow l.tgd l.frontier l.variable l.values;
}
