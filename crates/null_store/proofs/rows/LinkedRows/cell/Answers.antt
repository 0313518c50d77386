use Rattle.std.proofs.Common.{sym, subst}
use Rattle.fact_table.specs.Rows.{HasCell}
use Rattle.null_store.specs.Lists.{rows_seen}
use Rattle.null_store.specs.Layout.{LinkedArena}
use Rattle.null_store.proofs.ViewLemmas.{has_column, cell_seen}
use Rattle.null_store.proofs.rows.LinkedRows.cell.Goals as goal

pub cell_at-id-requires : goal.cell_at-id-requires
cell_at-id-requires g c = has_column c.self.inside.arena c.args.row c.args.column
    (subst (λ (h : LinkedArena). HasCell (rows_seen h.arena) c.args.row c.args.column) (sym c.self.view_is) c.requires)

pub returns-clause-value : goal.returns-clause-value
returns-clause-value g c =
    let asked = subst (λ (h : LinkedArena). HasCell (rows_seen h.arena) c.args.row c.args.column) (sym c.self.view_is) c.requires in
    rw (← c.self.view_is) (cell_seen c.self.inside.arena c.args.row c.args.column asked c.cell_at-id.result c.cell.result
    c.cell_at-id.ensures.number c.cell.ensures.cell)
