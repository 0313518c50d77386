-- The line leads through the variables so far.
use Rattle.std.proofs.Common.{ℕ, ◌≤◌, ◌-◌, List, length}
use Rattle.rule_core.specs.Mapping.{RuleSet}
use Rattle.rule_core.specs.declared.rules.Atom.{Atom}
use Rattle.decl_text.specs.Tests.{Leads}
use Rattle.rule_text.specs.RuleLine.{wants_exists_variable, rule_tests}
use Rattle.rule_text.proofs.tgd.read_exists.Given as goal

abbrev pub invariant-loop-vars : goal.invariant-loop-vars
invariant-loop-vars l = record {
  within : l.from ≤ length l.bytes;
  leads : (set : RuleSet) (pool : List (List ℕ)) (name : List ℕ) (body : List Atom) (count : ℕ)
      → Leads (rule_tests set pool) l.bytes l.fn.from (wants_exists_variable name body count l.fn.vars)
      l.from (wants_exists_variable name body count l.vars);
}

abbrev pub decreases-loop-vars : goal.decreases-loop-vars
decreases-loop-vars l = 32 - length l.vars
