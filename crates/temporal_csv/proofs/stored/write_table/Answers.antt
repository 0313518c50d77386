use Rattle.std.proofs.Common.{◌≡◌, ◌∙◌, [], take, sym, subst}
use Rattle.std.proofs.lemmas.List.{take_all, take_more}
use Rattle.std.proofs.lemmas.Result.{IfOk-weaker}
use Rattle.temporal_csv.specs.Stored.{HasRecords, bare_row}
use Rattle.temporal_csv.specs.TableWriter.{row_in, written_text}
use Rattle.temporal_csv.proofs.StoredLemmas.{stored-bare, stored-stamped}
use Rattle.temporal_csv.proofs.WriterLemmas.{so_far-more, storable-rows}
use Rattle.temporal_csv.proofs.stored.write_table.Goals as goal

pub loop-row-preserved : goal.loop-row-preserved
loop-row-preserved g c =
    let rows = g.R.RowSource.rows c.args.rows.now in
    let row = c.loop-row.row in
    let within = rw c.count-row-end.ensures at c.loop-row-test.true in
    rw (take_more rows row (bare_row []) within) (so_far-more c.args.header.now (take row rows) (row_in rows row) c.loop-row.out
    c.write_row.new.out c.loop-row.invariant c.in_ok-write_row.ensures)

pub returns-clause-stored : goal.returns-clause-stored
returns-clause-stored g c =
    let header = c.args.header.now in
    let rows = g.R.RowSource.rows c.args.rows.now in
    let past = rw c.count-row-end.ensures at c.loop-row-test.false in
    let written = rw (take_all c.loop-row.row rows past) at c.loop-row.invariant in
    let storable = storable-rows rows c.requires.numbers written.fits written.ends in
    let stored = c.stored_tables_are_read_back.ensures header rows c.requires.some c.requires.letters c.requires.widths storable in
    IfOk-weaker c.finish.result (λ bytes. bytes ≡ written_text c.loop-row.out) _
    (λ bytes same columns table e f.
    stored-stamped bytes header columns rows table (subst (λ b. HasRecords b header rows) (sym (same ∙ written.text)) stored) e f)
    c.finish.ensures

pub returns-clause-bare : goal.returns-clause-bare
returns-clause-bare g c =
    let header = c.args.header.now in
    let rows = g.R.RowSource.rows c.args.rows.now in
    let past = rw c.count-row-end.ensures at c.loop-row-test.false in
    let written = rw (take_all c.loop-row.row rows past) at c.loop-row.invariant in
    let storable = storable-rows rows c.requires.numbers written.fits written.ends in
    let stored = c.stored_tables_are_read_back.ensures header rows c.requires.some c.requires.letters c.requires.widths storable in
    IfOk-weaker c.finish.result (λ bytes. bytes ≡ written_text c.loop-row.out) _
    (λ bytes same table f. stored-bare bytes header rows table (subst (λ b. HasRecords b header rows) (sym (same ∙ written.text)) stored) f)
    c.finish.ensures
