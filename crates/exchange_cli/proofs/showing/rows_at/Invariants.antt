-- The rows so far that hold at the instant are written.
use Rattle.std.proofs.Common.{◌≡◌, map, take}
use Rattle.temporal_csv.specs.Stored.{bare_row}
use Rattle.exchange_cli.proofs.SnapshotLemmas.{rows_of}
use Rattle.exchange_cli.proofs.showing.rows_at.Given as goal

abbrev pub invariant-loop-entry : goal.invariant-loop-entry
invariant-loop-entry l = l.rows ≡ map bare_row (rows_of l.pool l.nulls l.instant (take l.entry-index l.table))
