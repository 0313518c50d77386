-- In the columns so far the variable stands in the one at most.
use Rattle.std.proofs.Common.{◌≡◌, ◌<◌, ℕ, Some}
use Rattle.std.specs.Prelude.{slice_get}
use Rattle.rule_core.specs.declared.rules.Arg.TheVariants.{Var}
use Rattle.body_match.proofs.looked.stands_but.Given as goal

abbrev pub invariant-loop-column : goal.invariant-loop-column
invariant-loop-column l = (column : ℕ) → column < l.column → slice_get l.atom.args column ≡ Some (Var l.variable) → l.except ≡ Some column
