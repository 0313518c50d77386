-- The labels so far are by the matches of the tgds so far.
use Rattle.normaliser.proofs.GroupLemmas.{AreLabelsSoFar}
use Rattle.normaliser.proofs.grouping.groups.Given as goal

abbrev pub invariant-loop-tgd : goal.invariant-loop-tgd
invariant-loop-tgd g l = AreLabelsSoFar l.rules l.table l.tgd-index l.union
