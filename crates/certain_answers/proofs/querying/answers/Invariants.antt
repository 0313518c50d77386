-- The answers of the first disjuncts.
use Rattle.std.proofs.Common.{take}
use Rattle.certain_answers.proofs.AnswerLemmas.{CoversBranches}
use Rattle.certain_answers.proofs.querying.answers.Given as goal

abbrev pub invariant-loop-branch : goal.invariant-loop-branch
invariant-loop-branch g l = CoversBranches (g.F.FactSource.rows l.source) (take l.branch-index l.branch-items) l.rows.items
