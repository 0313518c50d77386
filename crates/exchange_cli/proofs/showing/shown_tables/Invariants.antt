-- The tables so far have their files, and their rows are counted.
use Rattle.std.proofs.Common.{◌≡◌, map, take}
use Rattle.exchange_cli.specs.Rendering.{stored_table}
use Rattle.exchange_cli.specs.Snapshot.{AreBareFiles, row_count, tables_at}
use Rattle.exchange_cli.proofs.showing.shown_tables.Given as goal

abbrev pub invariant-loop-place : goal.invariant-loop-place
invariant-loop-place l = record {
  each : AreBareFiles l.out (take l.place l.relations) l.files
      (tables_at l.instant (map (stored_table l.loaded.pool l.solved.nulls) (take l.place l.tables)));
  counted : l.count ≡ row_count (tables_at l.instant (map (stored_table l.loaded.pool l.solved.nulls) (take l.place l.tables)));
}
