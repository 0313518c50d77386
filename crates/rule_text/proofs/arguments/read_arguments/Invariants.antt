-- The line leads through the arguments so far.
use Rattle.std.proofs.Common.{ℕ, ◌≤◌, ◌-◌, List, [], length}
use Rattle.rule_core.specs.Mapping.{RuleSet}
use Rattle.rule_core.specs.declared.rules.Atom.{Atom}
use Rattle.rule_text.specs.Frames.{said_of, LeadsIn}
use Rattle.rule_text.specs.RuleLine.{wants_argument}
use Rattle.rule_text.proofs.arguments.read_arguments.Given as goal

abbrev pub invariant-loop-args : goal.invariant-loop-args
invariant-loop-args l = record {
  within : l.from ≤ length l.bytes;
  leads : (set : RuleSet) (atoms : List Atom) (number : ℕ) → LeadsIn set l.pool l.bytes l.part
      l.fn.from (λ f. wants_argument f (said_of l.fn.vars atoms) (record { relation = number; width = l.width; args = [] }))
      l.from (λ f. wants_argument f (said_of l.vars atoms) (record { relation = number; width = l.width; args = l.args }));
}

abbrev pub decreases-loop-args : goal.decreases-loop-args
decreases-loop-args l = l.width - length l.args
