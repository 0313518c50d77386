-- The unknowns of the rows so far are there.
use Rattle.std.proofs.Common.{take}
use Rattle.exchange_engine.specs.Grouped.{IsUnknownAmong, AddsUnknowns}
use Rattle.exchange_engine.proofs.unknowns.add_of_table.Given as goal

abbrev pub invariant-loop-entry : goal.invariant-loop-entry
invariant-loop-entry l = AddsUnknowns (IsUnknownAmong (take l.entry-index l.table)) l.fn.found l.found
