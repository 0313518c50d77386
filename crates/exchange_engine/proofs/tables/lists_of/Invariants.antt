-- The lists have the rows so far.
use Rattle.std.proofs.Common.{◌≡◌, length}
use Rattle.exchange_engine.specs.Grouped.{HaveFacts}
use Rattle.exchange_engine.proofs.GroupedLemmas.{facts_before}
use Rattle.exchange_engine.proofs.tables.lists_of.Given as goal

abbrev pub invariant-loop-row : goal.invariant-loop-row
invariant-loop-row g l = record {
  size : length l.lists.items ≡ l.relations;
  facts : HaveFacts (facts_before l.store l.row) l.lists.items;
}
