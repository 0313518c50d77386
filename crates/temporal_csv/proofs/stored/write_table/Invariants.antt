use Rattle.std.proofs.Common.{take}
use Rattle.temporal_csv.proofs.WriterLemmas.{SoFar}
use Rattle.temporal_csv.proofs.stored.write_table.Given as goal

abbrev pub invariant-loop-row : goal.invariant-loop-row
invariant-loop-row g l = SoFar l.header (take l.row (g.R.RowSource.rows l.rows)) l.out
