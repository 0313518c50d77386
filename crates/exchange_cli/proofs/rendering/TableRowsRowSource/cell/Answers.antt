-- A cell is the term of the entry in the column.
use Rattle.std.proofs.Common.{◌≡◌, ◌<◌, ◌∙◌, All, ℕ, Some, ap, length, slice_get, subst, sym}
use Rattle.std.specs.Option.{option_map}
use Rattle.std.proofs.lemmas.List.{length-map}
use Rattle.std.proofs.lemmas.Option.{slice_get-map}
use Rattle.temporal_csv.specs.Cells.{term_of}
use Rattle.exchange_engine.specs.Solved.{IsTermWithin}
use Rattle.exchange_cli.specs.Rendering.{stored_term}
use Rattle.exchange_cli.proofs.ListLemmas.{all_at}
use Rattle.exchange_cli.proofs.RenderingLemmas.{said_of_row, say_of_row}
use Rattle.exchange_cli.proofs.rendering.TableRowsRowSource.cell.Goals as goal

pub term_at-requires : goal.term_at-requires
term_at-requires c =
    let pool = c.self.inside.pool.now in
    let nulls = c.self.inside.nulls.now in
    let entry = c.entry_at-entry.result.now in
    subst (λ (n : ℕ). c.args.column < n) (length-map entry.row (stored_term pool nulls))
    (said_of_row pool nulls c.self.inside.table.now c.args.row entry (λ r. c.args.column < length r.cells) c.entry_at-entry.ensures
    (rw (← c.self.view_is) at c.requires))

pub stored_cell-requires-clause-within : goal.stored_cell-requires-clause-within
stored_cell-requires-clause-within c =
    let size = length c.self.inside.pool.now in
    let entry = c.entry_at-entry.result.now in
    all_at (IsTermWithin size) entry.row c.args.column c.term_at.result.now c.term_at.ensures
    (all_at (λ e. All (IsTermWithin size) e.row) c.self.inside.table.now c.args.row entry c.entry_at-entry.ensures c.self.invariant.within)

pub returns : goal.returns
returns c =
    let pool = c.self.inside.pool.now in
    let nulls = c.self.inside.nulls.now in
    let stored = stored_term pool nulls in
    let entry = c.entry_at-entry.result.now in
    let found =
    slice_get-map stored entry.row c.args.column ∙ ap (option_map stored) c.term_at.ensures ∙ ap Some (sym c.stored_cell.ensures) in
    rw (← c.self.view_is) (say_of_row pool nulls c.self.inside.table.now c.args.row entry
    (λ r. slice_get r.cells c.args.column ≡ Some (term_of c.stored_cell.result)) c.entry_at-entry.ensures found)
