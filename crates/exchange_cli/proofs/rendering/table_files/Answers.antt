-- Each table goes into the file of the relation at its place.
use Rattle.std.proofs.Common.{◌≡◌, ◌<◌, map, ap, sym, ◌∙◌, subst, length, get_or}
use Rattle.rule_core.specs.Validity.{IsRelation}
use Rattle.temporal_csv.specs.Stored.{stamped_row}
use Rattle.exchange_engine.specs.Loading.{LoadedOf}
use Rattle.exchange_cli.specs.Rendering.{stored_table}
use Rattle.exchange_cli.specs.Target.{IsTableFile}
use Rattle.exchange_cli.proofs.RenderingLemmas.{AreWide, relation_at, wide_at, widths_are, numbers_are, files_more, files_all}
use Rattle.exchange_cli.proofs.rendering.table_files.Goals as goal

pub bounds-relations-place : goal.bounds-relations-place
bounds-relations-place c =
    let are = c.as_slice-relations.ensures ∙ c.targets.ensures ∙ ap (λ (l : LoadedOf). l.rules.targets) c.loaded.view_is in
    rw are (relation_at c.args.loaded.now.rules.targets c.args.solved.now.tables c.requires.tables c.loop-place.place
    (rw c.as_slice-tables.ensures at c.loop-place-test.true))

pub table_file-requires-clause-valid : goal.table_file-requires-clause-valid
table_file-requires-clause-valid c =
    let relation = c.index-relations-place.result in
    let targets = c.loaded.inside.rules.targets in
    let within : c.loop-place.place < length targets =
    relation_at targets c.args.solved.now.tables (rw (← c.loaded.view_is) at c.requires.tables) c.loop-place.place
    (rw c.as_slice-tables.ensures at c.loop-place-test.true) in
    let is : relation ≡ get_or targets c.loop-place.place relation =
    rw (c.as_slice-relations.ensures, c.targets.ensures) at c.index-relations-place.is in
    subst IsRelation (sym is) (c.is_kept.ensures.relations.target_relations c.loop-place.place relation within)

pub table_file-requires-clause-widths : goal.table_file-requires-clause-widths
table_file-requires-clause-widths c =
    let targets = c.args.loaded.now.rules.targets in
    let tables = c.args.solved.now.tables in
    let relation = c.index-relations-place.result in
    let table = c.index-tables-place.result in
    let are = c.as_slice-relations.ensures ∙ c.targets.ensures ∙ ap (λ (l : LoadedOf). l.rules.targets) c.loaded.view_is in
    let within = rw c.as_slice-tables.ensures at c.loop-place-test.true in
    let relation_is = rw are at c.index-relations-place.is in
    let table_is = rw c.as_slice-tables.ensures at c.index-tables-place.is in
    let wide : AreWide relation table =
    wide_at targets tables c.requires.tables c.loop-place.place relation table within relation_is table_is in
    rw (c.new-rows.ensures, c.as_slice.ensures) (widths_are c.loaded.inside.pool c.as_slice-nulls.result.now relation table wide)

pub table_file-requires-clause-numbers : goal.table_file-requires-clause-numbers
table_file-requires-clause-numbers c =
    rw c.new-rows.ensures (numbers_are c.loaded.inside.pool c.as_slice-nulls.result.now c.as_slice.result.now)

pub loop-place-preserved : goal.loop-place-preserved
loop-place-preserved c =
    let target = c.args.target.now in
    let targets = c.args.loaded.now.rules.targets in
    let tables = c.args.solved.now.tables in
    let stored = stored_table c.args.loaded.now.pool c.args.solved.now.nulls in
    let relation = c.index-relations-place.result in
    let table = c.index-tables-place.result in
    let file = c.in_ok-table_file.field-0 in
    let are = c.as_slice-relations.ensures ∙ c.targets.ensures ∙ ap (λ (l : LoadedOf). l.rules.targets) c.loaded.view_is in
    let within = rw c.as_slice-tables.ensures at c.loop-place-test.true in
    let relation_is = rw are at c.index-relations-place.is in
    let table_is = rw c.as_slice-tables.ensures at c.index-tables-place.is in
    let rows_are : c.new-rows.result ≡ map stamped_row (stored table) =
    c.new-rows.ensures
    ∙ (λ i. map stamped_row (stored_table (c.loaded.view_is i).pool (c.as_slice-nulls.ensures i) (c.as_slice.ensures i))) in
    let one : IsTableFile target relation file (stored table) = c.in_ok-table_file.ensures (stored table) rows_are in
    rw (c.in_ok-push.ensures.ok, are, c.as_slice-tables.ensures)
    (files_more targets tables c.requires.tables target stored c.loop-place.files c.loop-place.place relation table file within relation_is
    table_is (rw (are, c.as_slice-tables.ensures) at c.loop-place.invariant) one)

pub returns : goal.returns
returns c =
    let are = c.as_slice-relations.ensures ∙ c.targets.ensures ∙ ap (λ (l : LoadedOf). l.rules.targets) c.loaded.view_is in
    files_all c.args.loaded.now.rules.targets c.args.solved.now.tables c.requires.tables c.args.target.now
    (stored_table c.args.loaded.now.pool c.args.solved.now.nulls) c.loop-place.files c.loop-place.place
    (rw c.as_slice-tables.ensures at c.loop-place-test.false) (rw (are, c.as_slice-tables.ensures) at c.loop-place.invariant)
