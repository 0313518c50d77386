-- Each table goes into the file of the relation at its place.
use Rattle.std.proofs.Common.{◌≡◌, ◌+◌, ◌<◌, map, take, ap, sym, ◌∙◌, subst, length, get_or, to_z, of_z, w64}
use Rattle.std.proofs.lemmas.Int.{to_z-of_z}
use Rattle.std.proofs.lemmas.List.{length-map, take_all}
use Rattle.rule_core.specs.Snapshot.{snapshot_at}
use Rattle.rule_core.specs.Validity.{IsRelation}
use Rattle.temporal_csv.specs.Stored.{bare_row}
use Rattle.exchange_engine.specs.Loading.{LoadedOf}
use Rattle.exchange_cli.specs.Rendering.{stored_table}
use Rattle.exchange_cli.specs.Snapshot.{IsBareFile, AreBareFiles, row_count, tables_at}
use Rattle.exchange_cli.proofs.RenderingLemmas.{AreWide, relation_at, wide_at}
use Rattle.exchange_cli.proofs.SnapshotLemmas.{rows_of, bare_widths, bare_numbers, bare_more, count_more, bare_all}
use Rattle.exchange_cli.proofs.showing.shown_tables.Goals as goal

pub bounds-relations-place : goal.bounds-relations-place
bounds-relations-place c =
    let are = c.as_slice-relations.ensures ∙ c.targets.ensures ∙ ap (λ (l : LoadedOf). l.rules.targets) c.loaded.view_is in
    rw are (relation_at c.args.loaded.now.rules.targets c.args.solved.now.tables c.requires.tables c.loop-place.place
    (rw c.as_slice-tables.ensures at c.loop-place-test.true))

pub bare_file-requires-clause-valid : goal.bare_file-requires-clause-valid
bare_file-requires-clause-valid c =
    let relation = c.index-relations-place.result in
    let targets = c.loaded.inside.rules.targets in
    let within : c.loop-place.place < length targets =
    relation_at targets c.args.solved.now.tables (rw (← c.loaded.view_is) at c.requires.tables) c.loop-place.place
    (rw c.as_slice-tables.ensures at c.loop-place-test.true) in
    let is : relation ≡ get_or targets c.loop-place.place relation =
    rw (c.as_slice-relations.ensures, c.targets.ensures) at c.index-relations-place.is in
    subst IsRelation (sym is) (c.is_kept.ensures.relations.target_relations c.loop-place.place relation within)

pub bare_file-requires-clause-widths : goal.bare_file-requires-clause-widths
bare_file-requires-clause-widths c =
    let targets = c.args.loaded.now.rules.targets in
    let tables = c.args.solved.now.tables in
    let relation = c.index-relations-place.result in
    let table = c.index-tables-place.result in
    let are = c.as_slice-relations.ensures ∙ c.targets.ensures ∙ ap (λ (l : LoadedOf). l.rules.targets) c.loaded.view_is in
    let within = rw c.as_slice-tables.ensures at c.loop-place-test.true in
    let relation_is = rw are at c.index-relations-place.is in
    let table_is = rw c.as_slice-tables.ensures at c.index-tables-place.is in
    let wide : AreWide relation table =
    wide_at targets tables c.requires.tables c.loop-place.place relation table within relation_is table_is in
    rw (c.in_ok-rows.ensures, c.as_slice.ensures)
    (bare_widths c.loaded.inside.pool c.as_slice-nulls.result.now (to_z w64 (of_z w64 c.args.instant)) relation table wide)

pub bare_file-requires-clause-numbers : goal.bare_file-requires-clause-numbers
bare_file-requires-clause-numbers c =
    rw c.in_ok-rows.ensures (bare_numbers c.loaded.inside.pool c.as_slice-nulls.result.now
    (to_z w64 (of_z w64 c.args.instant)) c.as_slice.result.now)

pub loop-place-preserved : goal.loop-place-preserved
loop-place-preserved c =
    let t = to_z w64 (of_z w64 c.args.instant) in
    let out = c.args.out.now in
    let targets = c.args.loaded.now.rules.targets in
    let tables = c.args.solved.now.tables in
    let stored = stored_table c.args.loaded.now.pool c.args.solved.now.nulls in
    let relation = c.index-relations-place.result in
    let table = c.index-tables-place.result in
    let file = c.in_ok-bare_file.field-0 in
    let are = c.as_slice-relations.ensures ∙ c.targets.ensures ∙ ap (λ (l : LoadedOf). l.rules.targets) c.loaded.view_is in
    let within = rw c.as_slice-tables.ensures at c.loop-place-test.true in
    let relation_is = rw are at c.index-relations-place.is in
    let table_is = rw c.as_slice-tables.ensures at c.index-tables-place.is in
    let rows_are : c.in_ok-rows.rows ≡ map bare_row (snapshot_at (stored table) t) =
    c.in_ok-rows.ensures
    ∙ (λ i. map bare_row (rows_of (c.loaded.view_is i).pool (c.as_slice-nulls.ensures i) t (c.as_slice.ensures i))) in
    let one : IsBareFile out relation file (snapshot_at (stored table) t) =
    c.in_ok-bare_file.ensures (snapshot_at (stored table) t) rows_are in
    let counted : c.loop-place.count ≡ row_count (tables_at t (map stored (take c.loop-place.place tables))) =
    rw c.as_slice-tables.ensures at c.loop-place.invariant.counted in
    let long : c.len.result ≡ length (snapshot_at (stored table) t) =
    c.len.ensures ∙ ap length rows_are ∙ length-map (snapshot_at (stored table) t) bare_row in
    record {
      each =
          rw (c.in_ok-push.ensures.ok, are, c.as_slice-tables.ensures)
          (bare_more targets tables c.requires.tables stored t out c.loop-place.files c.loop-place.place relation table file within
          relation_is table_is (rw (are, c.as_slice-tables.ensures) at c.loop-place.invariant.each) one);
      counted =
          c.in_ok-count.ensures
          ∙ (λ i. counted i + long i)
          ∙ sym (rw c.as_slice-tables.ensures
          (count_more targets tables c.requires.tables stored t c.loop-place.place table within table_is));
    }

pub returns : goal.returns
returns c =
    let t = c.args.instant in
    let same : to_z w64 (of_z w64 t) ≡ t = to_z-of_z w64 t c.ranges.instant in
    let out = c.args.out.now in
    let targets = c.args.loaded.now.rules.targets in
    let tables = c.args.solved.now.tables in
    let stored = stored_table c.args.loaded.now.pool c.args.solved.now.nulls in
    let are = c.as_slice-relations.ensures ∙ c.targets.ensures ∙ ap (λ (l : LoadedOf). l.rules.targets) c.loaded.view_is in
    let past = rw c.as_slice-tables.ensures at c.loop-place-test.false in record {
      each =
          subst (λ z. AreBareFiles out targets c.loop-place.files (tables_at z (map stored tables))) same
          (bare_all targets tables c.requires.tables stored (to_z w64 (of_z w64 t)) out c.loop-place.files c.loop-place.place past
          (rw (are, c.as_slice-tables.ensures) at c.loop-place.invariant.each));
      rows =
          rw c.as_slice-tables.ensures at c.loop-place.invariant.counted
          ∙ (λ i. row_count (tables_at (same i) (map stored (take_all c.loop-place.place tables past i))));
    }
