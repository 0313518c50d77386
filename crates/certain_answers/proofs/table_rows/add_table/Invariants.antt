-- The rows of the first entries are there too.
use Rattle.std.proofs.Common.{◌≡◌, ◌++◌, take}
use Rattle.certain_answers.specs.Shown.{held_rows, rows_for}
use Rattle.certain_answers.proofs.table_rows.add_table.Given as goal

abbrev pub invariant-loop-entry : goal.invariant-loop-entry
invariant-loop-entry l = held_rows l.rows ≡ held_rows l.fn.rows ++ rows_for l.nulls l.relation (take l.entry-index l.table)
