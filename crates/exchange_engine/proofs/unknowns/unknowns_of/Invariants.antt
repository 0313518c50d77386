-- The unknowns of the tables so far are there.
use Rattle.std.proofs.Common.{[], take}
use Rattle.exchange_engine.specs.Solved.{IsUnknownOf}
use Rattle.exchange_engine.specs.Grouped.{AddsUnknowns}
use Rattle.exchange_engine.proofs.unknowns.unknowns_of.Given as goal

abbrev pub invariant-loop-table : goal.invariant-loop-table
invariant-loop-table l = AddsUnknowns (IsUnknownOf (take l.table-index l.tables)) [] l.found
