-- There is a count for each relation.
use Rattle.std.proofs.Common.{◌≡◌, length}
use Rattle.exchange_engine.proofs.tables.row_counts.Given as goal

abbrev pub invariant-loop-row : goal.invariant-loop-row
invariant-loop-row l = length l.counts.items ≡ l.relations
