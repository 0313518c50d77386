-- What is read so far is copied with other numbers.
use Rattle.std.proofs.Common.{◌≡◌, take, map}
use Rattle.rule_core.specs.Rebase.{number_in, renumbered_tgd}
use Rattle.rule_core.proofs.rebase.rebased_tgds.Given as goal

abbrev pub invariant-loop-tgd : goal.invariant-loop-tgd
invariant-loop-tgd l = l.copies ≡ map (renumbered_tgd (number_in l.ids)) (take l.tgd-index l.tgds)
