use Rattle.std.proofs.Common.{◌++◌, ℕ, List, sym, ap, ◌∙◌}
use Rattle.fact_table.specs.Rows.{SeenRow}
use Rattle.certain_answers.specs.Shown.{TermTable, held_rows, rows_for}
use Rattle.certain_answers.proofs.ShownLemmas.{rows_more}
use Rattle.certain_answers.proofs.table_rows.TableRows.make.Goals as goal

pub loop-relation-preserved : goal.loop-relation-preserved
loop-relation-preserved c =
    let tables : List TermTable = c.args.tables.now in
    let nulls = c.args.nulls.now in
    let i : ℕ = c.loop-relation.relation in
    let table : TermTable = c.index-tables-relation.result in
    c.in_ok-add_table.ensures
    ∙ ap (λ (l : TermTable). held_rows c.loop-relation.rows ++ rows_for nulls i l) c.as_slice.ensures
    ∙ ap (λ (l : List SeenRow). l ++ rows_for nulls i table) c.loop-relation.invariant
    ∙ sym (rows_more nulls tables i table c.loop-relation-test.true c.index-tables-relation.is)
