-- The rows are alike where the atoms so far look.
use Rattle.std.proofs.Common.{◌≡◌, ◌<◌, ℕ, Some, length}
use Rattle.std.specs.Prelude.{slice_get}
use Rattle.rule_core.specs.declared.rules.Atom.{Atom}
use Rattle.body_match.specs.Choice.{AreAlikeUnder}
use Rattle.body_match.proofs.looked.are_alike.Given as goal

abbrev pub invariant-loop-atom : goal.invariant-loop-atom
invariant-loop-atom g l = (k : ℕ) (atom : Atom) → k < l.atom-index → slice_get l.body k ≡ Some atom → l.head.relation ≡ atom.relation
    → l.head.arity ≡ length atom.args → AreAlikeUnder l.looked (g.F.FactSource.rows l.source) l.row l.other atom
