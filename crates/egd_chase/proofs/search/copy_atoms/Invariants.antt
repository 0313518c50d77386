-- The atoms so far are copied.
use Rattle.std.proofs.Common.{◌≡◌, take}
use Rattle.egd_chase.proofs.search.copy_atoms.Given as goal

abbrev pub invariant-loop-atom : goal.invariant-loop-atom
invariant-loop-atom l = l.copies ≡ take l.atom-index l.atoms
