-- The atoms at the places so far.
use Rattle.std.proofs.Common.{take}
use Rattle.body_match.specs.Plans.{IsOrdered}
use Rattle.body_match.proofs.plan.atoms_in.Given as goal

abbrev pub invariant-loop-place : goal.invariant-loop-place
invariant-loop-place l = IsOrdered l.body (take l.place-index l.order) l.atoms
