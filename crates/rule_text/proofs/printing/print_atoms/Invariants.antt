use Rattle.std.proofs.Common.{◌≡◌, map, take}
use Rattle.rule_text.specs.Canonical.{atom_text}
use Rattle.rule_text.proofs.printing.print_atoms.Given as goal

abbrev pub invariant-loop-atom : goal.invariant-loop-atom
invariant-loop-atom l = l.texts ≡ map (atom_text l.pool l.relations l.vars) (take l.atom-index l.atoms)
