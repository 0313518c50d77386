-- The answers so far have their files.
use Rattle.std.proofs.Common.{map, take}
use Rattle.exchange_cli.specs.Rendering.{stored_table}
use Rattle.exchange_cli.specs.Answers.{answer_relation}
use Rattle.exchange_cli.specs.Target.{AreTableFiles}
use Rattle.exchange_cli.proofs.rendering.answer_files.Given as goal

abbrev pub invariant-loop-place : goal.invariant-loop-place
invariant-loop-place l =
    AreTableFiles l.target (map answer_relation (take l.place l.queries)) l.files
    (map (stored_table l.loaded.pool l.solved.nulls) (take l.place l.answers))
