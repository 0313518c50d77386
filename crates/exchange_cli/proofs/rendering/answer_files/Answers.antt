-- The answers of each query go into its file.
use Rattle.std.proofs.Common.{◌≡◌, ◌<◌, ◌≤◌, ◌+◌, ◌++◌, ◌∷◌, [], ℕ, List, map, take, ap, sym, ◌∙◌, subst, arith, length, get_or}
use Rattle.std.proofs.lemmas.List.{length-map, get_or-map, take-map}
use Rattle.rule_core.specs.declared.rules.Query.{Query}
use Rattle.rule_core.specs.declared.rules.Relation.{Relation}
use Rattle.rule_core.specs.Validity.{IsQuery}
use Rattle.temporal_csv.specs.Stored.{stamped_row}
use Rattle.exchange_engine.specs.Loading.{LoadedOf}
use Rattle.exchange_cli.specs.Answers.{answer_relation}
use Rattle.exchange_cli.specs.Rendering.{stored_table}
use Rattle.exchange_cli.specs.Target.{IsTableFile, AreTableFiles}
use Rattle.exchange_cli.proofs.RenderingLemmas.{AreWide, relation_at, wide_at, widths_are, numbers_are, files_more, files_all}
use Rattle.exchange_cli.proofs.rendering.answer_files.Goals as goal

-- a query that is read at a place is there as the relation of its answers
relation_read : (queries read : List Query) (k : ℕ) (query : Query) → read ≡ queries → k < length queries → query ≡ get_or read k query
    → answer_relation query ≡ get_or (map answer_relation queries) k (answer_relation query)
relation_read queries read k query same within is =
    ap answer_relation is
    ∙ ap (λ (l : List Query). answer_relation (get_or l k query)) same
    ∙ sym (get_or-map answer_relation queries k query (answer_relation query) within)

pub bounds-queries-place : goal.bounds-queries-place
bounds-queries-place c =
    let queries = c.args.loaded.now.rules.queries in
    let are = c.as_slice-queries.ensures ∙ c.queries.ensures ∙ ap (λ (l : LoadedOf). l.rules.queries) c.loaded.view_is in
    rw are (subst (λ (n : ℕ). c.loop-place.place < n) (length-map queries answer_relation)
    (relation_at (map answer_relation queries) c.args.solved.now.answers c.requires.answers c.loop-place.place
    (rw c.as_slice-answers.ensures at c.loop-place-test.true)))

pub offset_bounds-queries-place : goal.offset_bounds-queries-place
offset_bounds-queries-place c =
    let rules = c.loaded.inside.rules in
    let queries = c.args.loaded.now.rules.queries in
    let within : c.loop-place.place < length queries = subst (λ (n : ℕ). c.loop-place.place < n) (length-map queries answer_relation)
    (relation_at (map answer_relation queries) c.args.solved.now.answers c.requires.answers c.loop-place.place
    (rw c.as_slice-answers.ensures at c.loop-place-test.true)) in
    let few : length rules.queries ≤ 64 = c.is_kept.ensures.queries.most in
    let size : length rules.queries ≡ length queries = ap (λ (l : LoadedOf). length l.rules.queries) c.loaded.view_is in
    omega (arith, within, few, size)

pub answer_file-requires-clause-names : goal.answer_file-requires-clause-names
answer_file-requires-clause-names c =
    let rules = c.loaded.inside.rules in
    let query : Query = c.index-queries-place.result in
    let are = c.as_slice-queries.ensures ∙ c.queries.ensures in
    let whole = c.as_slice-queries.ensures ∙ c.queries.ensures ∙ ap (λ (l : LoadedOf). l.rules.queries) c.loaded.view_is in
    let queries = c.args.loaded.now.rules.queries in
    let within : c.loop-place.place < length queries = subst (λ (n : ℕ). c.loop-place.place < n) (length-map queries answer_relation)
    (relation_at (map answer_relation queries) c.args.solved.now.answers c.requires.answers c.loop-place.place
    (rw c.as_slice-answers.ensures at c.loop-place-test.true)) in
    let inside : c.loop-place.place < length rules.queries = subst (λ (l : List Query). c.loop-place.place < length l) (sym whole ∙ are) within in
    let is : query ≡ get_or rules.queries c.loop-place.place query = rw are at c.index-queries-place.is in
    (subst (IsQuery rules.targets) (sym is) (c.is_kept.ensures.queries.each c.loop-place.place query inside)).head

pub answer_file-requires-clause-widths : goal.answer_file-requires-clause-widths
answer_file-requires-clause-widths c =
    let queries = c.args.loaded.now.rules.queries in
    let answers = c.args.solved.now.answers in
    let query : Query = c.index-queries-place.result in
    let list = c.index-answers-place.result in
    let are = c.as_slice-queries.ensures ∙ c.queries.ensures ∙ ap (λ (l : LoadedOf). l.rules.queries) c.loaded.view_is in
    let within = rw c.as_slice-answers.ensures at c.loop-place-test.true in
    let inside : c.loop-place.place < length queries = subst (λ (n : ℕ). c.loop-place.place < n) (length-map queries answer_relation)
    (relation_at (map answer_relation queries) answers c.requires.answers c.loop-place.place within) in
    let relation_is = relation_read queries c.as_slice-queries.result.now c.loop-place.place query are inside c.index-queries-place.is in
    let table_is = rw c.as_slice-answers.ensures at c.index-answers-place.is in
    let wide : AreWide (answer_relation query) list =
    wide_at (map answer_relation queries) answers c.requires.answers c.loop-place.place (answer_relation query) list within relation_is
    table_is in
    rw (c.new-rows.ensures, c.as_slice.ensures) (widths_are c.loaded.inside.pool c.as_slice-nulls.result.now (answer_relation query) list wide)

pub answer_file-requires-clause-numbers : goal.answer_file-requires-clause-numbers
answer_file-requires-clause-numbers c =
    rw c.new-rows.ensures (numbers_are c.loaded.inside.pool c.as_slice-nulls.result.now c.as_slice.result.now)

pub loop-place-preserved : goal.loop-place-preserved
loop-place-preserved c =
    let target = c.args.target.now in
    let queries : List Query = c.args.loaded.now.rules.queries in
    let relations = map answer_relation queries in
    let answers = c.args.solved.now.answers in
    let stored = stored_table c.args.loaded.now.pool c.args.solved.now.nulls in
    let place : ℕ = c.loop-place.place in
    let query : Query = c.index-queries-place.result in
    let list = c.index-answers-place.result in
    let file = c.in_ok-answer_file.field-0 in
    let are = c.as_slice-queries.ensures ∙ c.queries.ensures ∙ ap (λ (l : LoadedOf). l.rules.queries) c.loaded.view_is in
    let within = rw c.as_slice-answers.ensures at c.loop-place-test.true in
    let inside : place < length queries = subst (λ (n : ℕ). place < n) (length-map queries answer_relation)
    (relation_at relations answers c.requires.answers place within) in
    let relation_is = relation_read queries c.as_slice-queries.result.now place query are inside c.index-queries-place.is in
    let table_is = rw c.as_slice-answers.ensures at c.index-answers-place.is in
    let rows_are : c.new-rows.result ≡ map stamped_row (stored list) =
    c.new-rows.ensures
    ∙ (λ i. map stamped_row (stored_table (c.loaded.view_is i).pool (c.as_slice-nulls.ensures i) (c.as_slice.ensures i))) in
    let one : IsTableFile target (answer_relation query) file (stored list) = c.in_ok-answer_file.ensures (stored list) rows_are in
    let before : AreTableFiles target (take place relations) c.loop-place.files (map stored (take place answers)) =
    subst (λ (rs : List Relation). AreTableFiles target rs c.loop-place.files (map stored (take place answers)))
    (sym (take-map answer_relation place queries)) (rw (are, c.as_slice-answers.ensures) at c.loop-place.invariant) in
    let after = files_more relations answers c.requires.answers target stored c.loop-place.files place (answer_relation query) list file
    within relation_is table_is before one in
    rw (c.in_ok-push.ensures.ok, are, c.as_slice-answers.ensures)
    (subst (λ (rs : List Relation). AreTableFiles target rs (c.loop-place.files ++ file ∷ []) (map stored (take (place + 1) answers)))
    (take-map answer_relation (place + 1) queries) after)

pub returns : goal.returns
returns c =
    let queries : List Query = c.args.loaded.now.rules.queries in
    let answers = c.args.solved.now.answers in
    let stored = stored_table c.args.loaded.now.pool c.args.solved.now.nulls in
    let are = c.as_slice-queries.ensures ∙ c.queries.ensures ∙ ap (λ (l : LoadedOf). l.rules.queries) c.loaded.view_is in
    files_all (map answer_relation queries) answers c.requires.answers c.args.target.now stored c.loop-place.files c.loop-place.place
    (rw c.as_slice-answers.ensures at c.loop-place-test.false)
    (subst (λ (rs : List Relation). AreTableFiles c.args.target.now rs c.loop-place.files (map stored (take c.loop-place.place answers)))
    (sym (take-map answer_relation c.loop-place.place queries)) (rw (are, c.as_slice-answers.ensures) at c.loop-place.invariant))
