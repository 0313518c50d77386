-- The entries of all other rows are there still.
use Rattle.body_match.specs.Renewals.{KeepsBut}
use Rattle.body_match.proofs.levels.drop_rows.Given as goal

abbrev pub invariant-loop-row : goal.invariant-loop-row
invariant-loop-row g l = KeepsBut l.rows l.fn.listed l.listed
