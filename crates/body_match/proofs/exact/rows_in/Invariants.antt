-- The rows at the places so far.
use Rattle.std.proofs.Common.{take}
use Rattle.body_match.specs.Plans.{IsOrdered}
use Rattle.body_match.proofs.exact.rows_in.Given as goal

abbrev pub invariant-loop-place : goal.invariant-loop-place
invariant-loop-place l = IsOrdered l.rows (take l.place-index l.order) l.chosen.items
