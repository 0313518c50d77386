-- The texts so far have their numbers.
use Rattle.rule_core.proofs.RebaseLemmas.{AreNumbers}
use Rattle.rule_core.proofs.rebase.numbers.Given as goal

abbrev pub invariant-loop-at : goal.invariant-loop-at
invariant-loop-at l = AreNumbers l.from l.to l.ids l.at
