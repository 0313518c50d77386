-- The line leads through the head variables so far.
use Rattle.std.proofs.Common.{ℕ, ◌≤◌, ◌-◌, List, [], length}
use Rattle.rule_core.specs.Mapping.{RuleSet}
use Rattle.decl_text.specs.Tests.{Leads}
use Rattle.rule_text.specs.RuleLine.{wants_head_variable, rule_tests}
use Rattle.rule_text.proofs.query.read_head_variables.Given as goal

abbrev pub invariant-loop-names : goal.invariant-loop-names
invariant-loop-names l = record {
  within : l.from ≤ length l.bytes;
  leads : (set : RuleSet) (pool : List (List ℕ)) (name : List ℕ)
      → Leads (rule_tests set pool) l.bytes l.fn.from (wants_head_variable name []) l.from (wants_head_variable name l.names);
}

abbrev pub decreases-loop-names : goal.decreases-loop-names
decreases-loop-names l = 16 - length l.names
