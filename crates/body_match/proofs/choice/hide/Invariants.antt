-- The rows so far are hidden.
use Rattle.body_match.proofs.ChoiceLemmas.{AreHiddenSoFar}
use Rattle.body_match.proofs.choice.hide.Given as goal

abbrev pub invariant-loop-row : goal.invariant-loop-row
invariant-loop-row l = AreHiddenSoFar l.rows l.fn.shown.items l.shown.items l.gone.items l.row-index
