-- The cells so far are found.
use Rattle.std.proofs.Common.{take, Contains}
use Rattle.exchange_engine.specs.Gathered.{Gains}
use Rattle.exchange_engine.proofs.loading.pool.add_cells.Given as goal

abbrev pub invariant-loop-cell : goal.invariant-loop-cell
invariant-loop-cell l = Gains l.fn.gathered l.gathered (Contains (take l.cell-index l.cells)) l.cell-index
