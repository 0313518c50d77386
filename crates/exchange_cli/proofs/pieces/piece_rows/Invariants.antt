-- The rows so far are written.
use Rattle.std.proofs.Common.{◌≡◌, map, take}
use Rattle.temporal_csv.specs.Stored.{stamped_row}
use Rattle.exchange_cli.specs.Pieces.{piece_table}
use Rattle.exchange_cli.proofs.pieces.piece_rows.Given as goal

abbrev pub invariant-loop-piece : goal.invariant-loop-piece
invariant-loop-piece l = l.rows ≡ map stamped_row (piece_table l.pool (take l.piece-index l.pieces))
