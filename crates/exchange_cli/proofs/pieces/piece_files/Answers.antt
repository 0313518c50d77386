-- The pieces of each relation go into its file.
use Rattle.std.proofs.Common.{◌≡◌, ◌<◌, List, map, ap, sym, ◌∙◌, subst, take, length, get_or}
use Rattle.std.specs.Prelude.{Some, slice_get}
use Rattle.std.proofs.lemmas.List.{take_all}
use Rattle.std.proofs.lemmas.List.Elements.{All-filter}
use Rattle.std.proofs.lemmas.Option.{slice_get-get_or}
use Rattle.rule_core.specs.declared.rules.Relation.{Relation}
use Rattle.rule_core.specs.Validity.{IsRelation}
use Rattle.temporal_csv.specs.Stored.{stamped_row}
use Rattle.fact_table.specs.declared.fact.Fact.{Fact}
use Rattle.exchange_engine.specs.Loading.{LoadedOf}
use Rattle.exchange_cli.specs.Cutting.{IsInPool}
use Rattle.exchange_cli.specs.Pieces.{of_relation, piece_table, piece_tables}
use Rattle.exchange_cli.specs.Target.{IsTableFile, AreTableFiles}
use Rattle.exchange_cli.proofs.CuttingLemmas.{is_of, piece_files_more, pieces_are_numbered, pieces_are_wide, wide_of_relation}
use Rattle.exchange_cli.proofs.pieces.piece_files.Goals as goal

pub piece_rows-requires : goal.piece_rows-requires
piece_rows-requires c =
    let size = length c.loaded.inside.pool in
    let within = rw (← c.loaded.view_is) at c.requires.within in
    rw c.facts_in.ensures (All-filter (is_of c.loop-place.place) (λ (f : Fact). IsInPool size f.row) c.args.pieces.now within)

pub table_file-requires-clause-valid : goal.table_file-requires-clause-valid
table_file-requires-clause-valid c =
    let relation = c.index-relations-place.result in
    let sources = c.loaded.inside.rules.sources in
    let are = c.as_slice-relations.ensures ∙ c.sources.ensures in
    let within : c.loop-place.place < length sources = rw are at c.loop-place-test.true in
    let is : relation ≡ get_or sources c.loop-place.place relation = rw are at c.index-relations-place.is in
    subst IsRelation (sym is) (c.is_kept.ensures.relations.source_relations c.loop-place.place relation within)

pub table_file-requires-clause-widths : goal.table_file-requires-clause-widths
table_file-requires-clause-widths c =
    let sources = c.args.loaded.now.rules.sources in
    let place = c.loop-place.place in
    let relation = c.index-relations-place.result in
    let are = c.as_slice-relations.ensures ∙ c.sources.ensures ∙ ap (λ (l : LoadedOf). l.rules.sources) c.loaded.view_is in
    let within : place < length sources = rw are at c.loop-place-test.true in
    let is : relation ≡ get_or sources place relation = rw are at c.index-relations-place.is in
    let at : slice_get sources place ≡ Some relation = slice_get-get_or sources place relation within ∙ ap Some (sym is) in
    let wide = wide_of_relation sources c.args.pieces.now place relation at c.requires.wide in
    rw (c.in_ok-rows.ensures, c.facts_in.ensures) (pieces_are_wide c.loaded.inside.pool relation (of_relation place c.args.pieces.now) wide)

pub table_file-requires-clause-numbers : goal.table_file-requires-clause-numbers
table_file-requires-clause-numbers c = rw c.in_ok-rows.ensures (pieces_are_numbered c.loaded.inside.pool c.facts_in.result.now)

pub loop-place-preserved : goal.loop-place-preserved
loop-place-preserved c =
    let out = c.args.out.now in
    let sources = c.args.loaded.now.rules.sources in
    let pieces = c.args.pieces.now in
    let pool = c.args.loaded.now.pool in
    let place = c.loop-place.place in
    let relation = c.index-relations-place.result in
    let file = c.in_ok-table_file.field-0 in
    let are = c.as_slice-relations.ensures ∙ c.sources.ensures ∙ ap (λ (l : LoadedOf). l.rules.sources) c.loaded.view_is in
    let within : place < length sources = rw are at c.loop-place-test.true in
    let is : relation ≡ get_or sources place relation = rw are at c.index-relations-place.is in
    let rows_are : c.in_ok-rows.rows ≡ map stamped_row (piece_table pool (of_relation place pieces)) =
    c.in_ok-rows.ensures ∙ (λ i. map stamped_row (piece_table (c.loaded.view_is i).pool (c.facts_in.ensures i))) in
    let one : IsTableFile out relation file (piece_table pool (of_relation place pieces)) =
    c.in_ok-table_file.ensures (piece_table pool (of_relation place pieces)) rows_are in
    rw (c.in_ok-push.ensures.ok, are)
    (piece_files_more pool pieces out sources c.loop-place.files place relation file within is (rw are at c.loop-place.invariant) one)

pub returns : goal.returns
returns c =
    let sources = c.args.loaded.now.rules.sources in
    let are = c.as_slice-relations.ensures ∙ c.sources.ensures ∙ ap (λ (l : LoadedOf). l.rules.sources) c.loaded.view_is in
    let past = rw are at c.loop-place-test.false in
    let all : take c.loop-place.place sources ≡ sources = take_all c.loop-place.place sources past in
    subst (λ (rs : List Relation). AreTableFiles c.args.out.now rs c.loop-place.files
    (piece_tables c.args.loaded.now.pool c.args.pieces.now 0 rs)) all (rw are at c.loop-place.invariant)
