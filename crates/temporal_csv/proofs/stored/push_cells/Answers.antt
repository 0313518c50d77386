use Rattle.std.proofs.Common.{◌≡◌, ◌++◌, ◌∷◌, ◌∙◌, [], ap, append_assoc, length, map, sym, take}
use Rattle.std.specs.Prelude.{Some, slice_get}
use Rattle.std.proofs.lemmas.List.{map-append, take_all}
use Rattle.std.proofs.lemmas.List.Elements.{All-push}
use Rattle.csv.specs.Records.{fields_of}
use Rattle.temporal_csv.specs.Cells.{term_of}
use Rattle.temporal_csv.specs.Stored.{cell_text}
use Rattle.temporal_csv.specs.TableWriter.{FitsWord, row_in}
use Rattle.temporal_csv.proofs.WriterLemmas.{cells-more, row_is}
use Rattle.temporal_csv.proofs.stored.push_cells.Goals as goal

pub loop-column-preserved : goal.loop-column-preserved
loop-column-preserved g c =
    let rows = g.R.RowSource.rows c.args.rows.now in
    let cells = (row_in rows c.args.row).cells in
    let column = c.loop-column.column in
    let term = term_of c.cell-cell.result in
    let found : slice_get cells column ≡ Some term =
    row_is rows c.args.row (λ r. slice_get r.cells column ≡ Some term) c.requires.within c.cell-cell.ensures in
    let before = c.loop-column.invariant in
    let pushed = c.in_ok-push_cell.ensures in
    rw (cells-more cells column term found) (record {
      all =
          pushed.one
          ∙ ap (λ f. f ++ cell_text term ∷ []) before.all
          ∙ append_assoc (fields_of c.args.scratch.now.fields) (map cell_text (take column cells)) (cell_text term ∷ [])
          ∙ ap (λ t. fields_of c.args.scratch.now.fields ++ t) (sym (map-append cell_text (take column cells) (term ∷ [])));
      whole = pushed.whole;
      fits = All-push FitsWord (take column cells) term before.fits pushed.fits;
    })

pub returns-clause-all : goal.returns-clause-all
returns-clause-all g c =
    let rows = g.R.RowSource.rows c.args.rows.now in
    let cells = (row_in rows c.args.row).cells in
    let wide = row_is rows c.args.row (λ r. c.width-column-end.result ≡ length r.cells) c.requires.within c.width-column-end.ensures in
    rw (take_all c.loop-column.column cells (rw wide at c.loop-column-test.false)) at c.loop-column.invariant.all

pub returns-clause-fits : goal.returns-clause-fits
returns-clause-fits g c =
    let rows = g.R.RowSource.rows c.args.rows.now in
    let cells = (row_in rows c.args.row).cells in
    let wide = row_is rows c.args.row (λ r. c.width-column-end.result ≡ length r.cells) c.requires.within c.width-column-end.ensures in
    rw (take_all c.loop-column.column cells (rw wide at c.loop-column-test.false)) at c.loop-column.invariant.fits
