-- What is read so far is copied with other numbers.
use Rattle.std.proofs.Common.{◌≡◌, take, map}
use Rattle.rule_core.specs.Rebase.{number_in, renumbered_egd}
use Rattle.rule_core.proofs.rebase.rebased_egds.Given as goal

abbrev pub invariant-loop-egd : goal.invariant-loop-egd
invariant-loop-egd l = l.copies ≡ map (renumbered_egd (number_in l.ids)) (take l.egd-index l.egds)
