-- The numbers so far are those of the terms so far.
use Rattle.std.proofs.Common.{take}
use Rattle.trace_checker.specs.States.{NameThem}
use Rattle.trace_checker.proofs.matching.ids_of.Given as goal

abbrev pub invariant-loop-name : goal.invariant-loop-name
invariant-loop-name l = NameThem l.pool l.ids (take l.name-index l.names)
