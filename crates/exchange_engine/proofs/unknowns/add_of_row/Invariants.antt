-- The unknowns of the terms so far are there.
use Rattle.std.proofs.Common.{take}
use Rattle.exchange_engine.specs.Grouped.{IsUnknownIn, AddsUnknowns}
use Rattle.exchange_engine.proofs.unknowns.add_of_row.Given as goal

abbrev pub invariant-loop-term : goal.invariant-loop-term
invariant-loop-term l = AddsUnknowns (IsUnknownIn (take l.term-index l.row)) l.fn.found l.found
