-- The fact is listed under the terms so far, and what was listed is.
use Rattle.std.proofs.Common.{ℕ, map, take, Contains}
use Rattle.rule_core.specs.Terms.{numbered, unknown}
use Rattle.trace_checker.specs.Names.{term_named}
use Rattle.trace_checker.specs.States.{fact_named}
use Rattle.trace_checker.specs.Listed.{IsListed, KeepsListed}
use Rattle.trace_checker.proofs.holders.Holders.list.Given as goal

abbrev pub invariant-loop-name : goal.invariant-loop-name
invariant-loop-name l =
    KeepsListed l.fn.self l.self
    × ((number : ℕ) → Contains (map term_named (take l.name-index l.names)) (unknown (numbered number)) → IsListed l.self number (fact_named l.row))
