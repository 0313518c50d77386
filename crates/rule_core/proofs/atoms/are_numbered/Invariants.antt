-- The variables of what is read so far are numbered, and are as many as were seen.
use Rattle.std.proofs.Common.{take, ◌++◌}
use Rattle.rule_core.specs.Validity.{AreNumbered, variables_in, occurrences}
use Rattle.rule_core.proofs.atoms.are_numbered.Given as goal

abbrev pub invariant-loop-arg : goal.invariant-loop-arg
invariant-loop-arg l = AreNumbered l.seen (occurrences (take l.atom-index l.atoms) ++ variables_in (take l.arg-index l.args))

abbrev pub invariant-loop-atom : goal.invariant-loop-atom
invariant-loop-atom l = AreNumbered l.seen (occurrences (take l.atom-index l.atoms))
