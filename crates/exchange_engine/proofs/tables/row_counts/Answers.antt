use Rattle.std.proofs.Common.{◌<◌, ℕ, sym, subst}
use Rattle.std.specs.Option.{IfSome}
use Rattle.fact_table.specs.Rows.{SeenRow, row_at}
use Rattle.exchange_engine.proofs.GroupedLemmas.{row_below}
use Rattle.exchange_engine.proofs.tables.row_counts.Goals as goal

pub count_row-requires : goal.count_row-requires
count_row-requires c =
    subst (λ (n : ℕ). IfSome (row_at c.args.store.now.rows c.loop-row.row) (λ (seen : SeenRow). seen.relation < n))
    (sym c.loop-row.invariant)
    (row_below c.args.relations c.args.store.now c.requires c.loop-row.row)
