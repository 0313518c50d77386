-- The rows so far have spans.
use Rattle.std.proofs.Common.{◌≡◌, ◌<◌, ℕ, Some}
use Rattle.time_line.specs.Span.{IsSpan}
use Rattle.fact_table.specs.Rows.{SeenRow, row_at}
use Rattle.egd_chase.proofs.search.rows_have_spans.Given as goal

abbrev pub invariant-loop-row : goal.invariant-loop-row
invariant-loop-row l = (number : ℕ) (row : SeenRow) → number < l.row → row_at l.store.rows number ≡ Some row → IsSpan row.span
