use Rattle.std.proofs.Common.{◌≡◌, map, take}
use Rattle.rule_core.specs.declared.rules.Branch.{Branch}
use Rattle.rule_text.specs.Canonical.{atoms_text}
use Rattle.rule_text.proofs.printing.print_branches.Given as goal

abbrev pub invariant-loop-branch : goal.invariant-loop-branch
invariant-loop-branch l = l.texts ≡ map (λ (b : Branch). atoms_text l.pool l.relations b.vars b.body) (take l.branch-index l.branches)
