-- The list has those of the rows so far that are shown.
use Rattle.body_match.proofs.ChoiceLemmas.{AreShownSoFar}
use Rattle.body_match.proofs.choice.shown_among.Given as goal

abbrev pub invariant-loop-row : goal.invariant-loop-row
invariant-loop-row l = AreShownSoFar l.shown l.rows l.list.items l.row-index
