-- A row holds when its entry does.
use Rattle.std.proofs.Common.{◌≡◌, Some, ap, sym}
use Rattle.exchange_cli.proofs.RenderingLemmas.{say_of_row}
use Rattle.exchange_cli.proofs.rendering.TableRowsRowSource.span.Goals as goal

pub returns : goal.returns
returns c =
    let entry = c.entry_at-entry.result.now in
    rw (← c.self.view_is) (say_of_row c.self.inside.pool.now c.self.inside.nulls.now c.self.inside.table.now c.args.row entry
    (λ r. r.span ≡ Some c.entry.inside.span) c.entry_at-entry.ensures (ap (λ e. Some e.span) (sym c.entry.view_is)))
