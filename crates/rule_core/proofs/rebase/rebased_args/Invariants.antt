-- What is read so far is copied with other numbers.
use Rattle.std.proofs.Common.{◌≡◌, take, map}
use Rattle.rule_core.specs.Rebase.{number_in, renumbered_arg}
use Rattle.rule_core.proofs.rebase.rebased_args.Given as goal

abbrev pub invariant-loop-arg : goal.invariant-loop-arg
invariant-loop-arg l = l.copies ≡ map (renumbered_arg (number_in l.ids)) (take l.arg-index l.args)
