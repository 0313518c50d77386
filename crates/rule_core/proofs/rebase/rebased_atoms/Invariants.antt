-- What is read so far is copied with other numbers.
use Rattle.std.proofs.Common.{◌≡◌, take, map}
use Rattle.rule_core.specs.Rebase.{number_in, renumbered_atom}
use Rattle.rule_core.proofs.rebase.rebased_atoms.Given as goal

abbrev pub invariant-loop-atom : goal.invariant-loop-atom
invariant-loop-atom l = l.copies ≡ map (renumbered_atom (number_in l.ids)) (take l.atom-index l.atoms)
