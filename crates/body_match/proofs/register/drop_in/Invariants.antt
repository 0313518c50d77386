-- The row was dropped from the look-ups so far.
use Rattle.body_match.proofs.RenewalLemmas.{AreDropped}
use Rattle.body_match.proofs.register.drop_in.Given as goal

abbrev pub invariant-loop-at : goal.invariant-loop-at
invariant-loop-at l = AreDropped l.entry.row l.fn.lookups.items l.lookups.items l.at
