-- The numbers of the terms so far have inner ones, and what had one keeps it.
use Rattle.std.proofs.Common.{ℕ, map, take, Contains}
use Rattle.rule_core.specs.Terms.{numbered, unknown}
use Rattle.trace_checker.specs.Names.{term_named}
use Rattle.trace_checker.specs.Numbered.{AreOwn, IsTaken, KeepsInner}
use Rattle.trace_checker.proofs.numbers.Numbers.take_in.Given as goal

abbrev pub invariant-loop-name : goal.invariant-loop-name
invariant-loop-name l =
    AreOwn l.self × KeepsInner l.fn.self l.self
    × ((number : ℕ) → Contains (map term_named (take l.name-index l.names)) (unknown (numbered number)) → IsTaken l.self number)
