-- The line leads through the disjuncts so far.
use Rattle.std.proofs.Common.{ℕ, ◌≤◌, ◌-◌, List, [], length}
use Rattle.decl_text.specs.Tests.{Leads}
use Rattle.rule_text.specs.RuleLine.{disjunct_of, nothing_said, wants_atom, rule_tests}
use Rattle.rule_text.proofs.query.read_disjuncts.Given as goal

abbrev pub invariant-loop-branches : goal.invariant-loop-branches
invariant-loop-branches l = record {
  within : l.from ≤ length l.bytes;
  leads : (name : List ℕ) → Leads (rule_tests l.rules l.pool) l.bytes l.fn.from (wants_atom (disjunct_of name l.head []) nothing_said)
      l.from (wants_atom (disjunct_of name l.head l.branches) nothing_said);
}

abbrev pub decreases-loop-branches : goal.decreases-loop-branches
decreases-loop-branches l = 8 - length l.branches
