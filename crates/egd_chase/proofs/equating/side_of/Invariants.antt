-- No atom so far has the variable.
use Rattle.std.proofs.Common.{◌≡◌, ℕ, ◌<◌, Some, Contains}
use Rattle.std.specs.Prelude.{slice_get}
use Rattle.rule_core.specs.declared.rules.Arg.TheVariants.{Var}
use Rattle.rule_core.specs.declared.rules.Atom.{Atom}
use Rattle.egd_chase.proofs.equating.side_of.Given as goal

abbrev pub invariant-loop-at : goal.invariant-loop-at
invariant-loop-at l = (k : ℕ) (atom : Atom) → k < l.at → slice_get l.egd.body k ≡ Some atom → ¬ (Contains atom.args (Var l.variable))
