-- The tables so far have their files.
use Rattle.std.proofs.Common.{map, take}
use Rattle.exchange_cli.specs.Rendering.{stored_table}
use Rattle.exchange_cli.specs.Target.{AreTableFiles}
use Rattle.exchange_cli.proofs.rendering.table_files.Given as goal

abbrev pub invariant-loop-place : goal.invariant-loop-place
invariant-loop-place l =
    AreTableFiles l.target (take l.place l.relations) l.files
    (map (stored_table l.loaded.pool l.solved.nulls) (take l.place l.tables))
