-- The key of the cells so far.
use Rattle.std.proofs.Common.{◌≡◌, take}
use Rattle.fact_table.specs.Rows.{cell_at}
use Rattle.body_match.specs.Keys.{key_of}
use Rattle.body_match.proofs.levels.row_key.Given as goal

abbrev pub invariant-loop-column : goal.invariant-loop-column
invariant-loop-column g l = l.key ≡ key_of (cell_at (g.F.FactSource.rows l.source) l.row) (take l.column-index l.columns)
