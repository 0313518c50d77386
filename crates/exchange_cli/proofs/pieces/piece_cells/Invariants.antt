-- The terms so far are written.
use Rattle.std.proofs.Common.{◌≡◌, map, take}
use Rattle.temporal_csv.specs.Cells.{term_of}
use Rattle.exchange_cli.specs.Pieces.{piece_terms}
use Rattle.exchange_cli.proofs.pieces.piece_cells.Given as goal

abbrev pub invariant-loop-id : goal.invariant-loop-id
invariant-loop-id l = map term_of l.cells ≡ piece_terms l.pool (take l.id-index l.row)
