-- The rows of the first tables.
use Rattle.std.proofs.Common.{◌≡◌, take}
use Rattle.certain_answers.specs.Shown.{held_rows, rows_from}
use Rattle.certain_answers.proofs.table_rows.TableRows.make.Given as goal

abbrev pub invariant-loop-relation : goal.invariant-loop-relation
invariant-loop-relation l = held_rows l.rows ≡ rows_from l.nulls 0 (take l.relation l.tables)
