-- The candidates of the tgds so far.
use Rattle.tgd_chase.proofs.CandidateLemmas.{AreFoundBelow}
use Rattle.tgd_chase.proofs.candidates.find_candidates.Given as goal

abbrev pub invariant-loop-rule : goal.invariant-loop-rule
invariant-loop-rule g l = AreFoundBelow l.rules l.table l.rule l.list.items
