-- The rows so far are in one of the lists.
use Rattle.std.proofs.Common.{◌++◌}
use Rattle.egd_chase.proofs.IndexLemmas.{HasRowsBelow}
use Rattle.egd_chase.proofs.search.all_rows.Given as goal

abbrev pub invariant-loop-row : goal.invariant-loop-row
invariant-loop-row g l = HasRowsBelow l.store.rows l.row (l.rows.items ++ l.later.items)
