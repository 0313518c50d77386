-- The relations so far have their files.
use Rattle.std.proofs.Common.{take}
use Rattle.exchange_cli.specs.Pieces.{piece_tables}
use Rattle.exchange_cli.specs.Target.{AreTableFiles}
use Rattle.exchange_cli.proofs.pieces.piece_files.Given as goal

abbrev pub invariant-loop-place : goal.invariant-loop-place
invariant-loop-place l =
    AreTableFiles l.out (take l.place l.relations) l.files (piece_tables l.loaded.pool l.pieces 0 (take l.place l.relations))
