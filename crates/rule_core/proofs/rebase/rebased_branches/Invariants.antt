-- What is read so far is copied with other numbers.
use Rattle.std.proofs.Common.{◌≡◌, take, map}
use Rattle.rule_core.specs.Rebase.{number_in, renumbered_branch}
use Rattle.rule_core.proofs.rebase.rebased_branches.Given as goal

abbrev pub invariant-loop-branch : goal.invariant-loop-branch
invariant-loop-branch l = l.copies ≡ map (renumbered_branch (number_in l.ids)) (take l.branch-index l.branches)
