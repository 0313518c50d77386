-- A row has as many cells as its entry has terms.
use Rattle.std.proofs.Common.{◌≡◌, ◌∙◌, ap, length, sym}
use Rattle.std.proofs.lemmas.List.{length-map}
use Rattle.exchange_cli.specs.Rendering.{stored_term}
use Rattle.exchange_cli.proofs.RenderingLemmas.{say_of_row}
use Rattle.exchange_cli.proofs.rendering.TableRowsRowSource.width.Goals as goal

pub returns : goal.returns
returns c =
    let pool = c.self.inside.pool.now in
    let nulls = c.self.inside.nulls.now in
    let entry = c.entry_at-entry.result.now in
    let wide = c.len.ensures ∙ ap (λ e. length e.row) c.entry.view_is ∙ sym (length-map entry.row (stored_term pool nulls)) in
    rw (← c.self.view_is) (say_of_row pool nulls c.self.inside.table.now c.args.row entry (λ r. c.len.result ≡ length r.cells)
    c.entry_at-entry.ensures wide)
