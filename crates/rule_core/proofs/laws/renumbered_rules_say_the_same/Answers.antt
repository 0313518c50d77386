use Rattle.rule_core.proofs.RenumberLemmas.{solutions_renumbered, solvable_renumbered, universal_renumbered, answers_renumbered, certain_renumbered}
use Rattle.rule_core.proofs.laws.renumbered_rules_say_the_same.Goals as goal

pub returns : goal.returns
returns c = record {
  solution = λ name other number rules kept source target. solutions_renumbered name other number rules kept source target;
  solvable = λ name other number rules kept source. solvable_renumbered name other number rules kept source;
  universal = λ name other number rules kept source target. universal_renumbered name other number rules kept source target;
  answer = λ name other number query kept instance terms. answers_renumbered name other number query kept instance terms;
  certain = λ name other number rules query kept asked source constants.
      certain_renumbered name other number rules query kept asked source constants;
}
