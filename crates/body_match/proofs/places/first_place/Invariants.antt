-- No atom so far has the variable.
use Rattle.std.proofs.Common.{◌≡◌, ℕ, ◌<◌, Some, Contains}
use Rattle.std.specs.Prelude.{slice_get}
use Rattle.rule_core.specs.declared.rules.Arg.TheVariants.{Var}
use Rattle.rule_core.specs.declared.rules.Atom.{Atom}
use Rattle.body_match.proofs.places.first_place.Given as goal

abbrev pub invariant-loop-atom : goal.invariant-loop-atom
invariant-loop-atom l = (k : ℕ) (atom : Atom) → k < l.atom → slice_get l.body k ≡ Some atom → ¬ (Contains atom.args (Var l.variable))
