use Rattle.rule_core.proofs.SetLemmas.{solution_same_sets, universal_same_sets, solvable_same_sets, answer_same_sets, certain_same_sets}
use Rattle.rule_core.proofs.laws.instances_are_read_as_sets.Goals as goal

pub returns : goal.returns
returns c = record {
  solution = λ name rules source other target result s t. solution_same_sets name source other target result s t rules;
  universal = λ name rules source other target result s t. universal_same_sets name rules source other target result s t;
  solvable = λ name rules source other s. solvable_same_sets name rules source other s;
  answer = λ name query instance other terms s. answer_same_sets name query instance other terms s;
  certain = λ name rules query source other constants s. certain_same_sets name rules query source other constants s;
}
