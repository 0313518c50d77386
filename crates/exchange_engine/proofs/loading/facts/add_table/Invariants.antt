-- The facts of the rows of the heads so far are added.
use Rattle.std.proofs.Common.{take}
use Rattle.exchange_engine.proofs.FactLemmas.{AddsInTurn}
use Rattle.exchange_engine.proofs.loading.facts.add_table.Given as goal

abbrev pub invariant-loop-head : goal.invariant-loop-head
invariant-loop-head l = AddsInTurn l.pool l.relation l.table (take l.head-index l.head-items) l.fn.facts l.facts
