-- The terms so far are those of the row's first cells.
use Rattle.std.specs.Prelude.{IsSomeAnd}
use Rattle.fact_table.specs.Rows.{row_at}
use Rattle.exchange_engine.proofs.GroupedLemmas.{AreFirstTerms}
use Rattle.exchange_engine.proofs.tables.row_of.Given as goal

abbrev pub invariant-loop-column : goal.invariant-loop-column
invariant-loop-column g l = IsSomeAnd (row_at l.store.rows l.row) (AreFirstTerms l.store l.row l.column l.terms.items)
