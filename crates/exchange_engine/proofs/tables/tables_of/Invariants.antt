-- The tables so far are the coalesced lists so far.
use Rattle.std.specs.List.{AllZip}
use Rattle.exchange_engine.specs.Grouped.{IsCoalescedFrom}
use Rattle.exchange_engine.proofs.tables.tables_of.Given as goal

abbrev pub invariant-loop-list : goal.invariant-loop-list
invariant-loop-list g l = AllZip IsCoalescedFrom l.yielded l.tables
