-- The cells of the tables so far are found.
use Rattle.std.proofs.Common.{take}
use Rattle.exchange_engine.specs.Gathered.{Gains}
use Rattle.exchange_engine.specs.Loading.{HasText, cell_count}
use Rattle.exchange_engine.proofs.loading.pool.add_tables.Given as goal

abbrev pub invariant-loop-table : goal.invariant-loop-table
invariant-loop-table l = Gains l.fn.gathered l.gathered (HasText (take l.table-index l.tables)) (cell_count (take l.table-index l.tables))
