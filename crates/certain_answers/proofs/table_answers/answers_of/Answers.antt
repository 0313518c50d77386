use Rattle.std.proofs.Common.{◌≡◌, ◌+◌, ◌∷◌, ◌++◌, [], ℕ, Some, List, map, take, sym, ap, ◌∙◌, subst}
use Rattle.std.specs.List.{AllZip}
use Rattle.std.proofs.lemmas.List.{take_more}
use Rattle.rule_core.specs.declared.rules.Query.{Query}
use Rattle.fact_table.specs.Rows.{SeenRow}
use Rattle.certain_answers.specs.Answering.{CoversAnswers, IsAnsweredOn}
use Rattle.certain_answers.specs.Shown.{TermTable}
use Rattle.certain_answers.proofs.ShownLemmas.{store_is, zip_push, answered_on}
use Rattle.certain_answers.proofs.table_answers.answers_of.Goals as goal

pub loop-query-preserved : goal.loop-query-preserved
loop-query-preserved g c =
    let tables : List TermTable = c.args.tables.now in
    let nulls = c.args.nulls.now in
    let queries : List Query = c.args.queries.now in
    let i : ℕ = c.loop-query.query-index in
    let query : Query = c.query-item.result in
    let list : TermTable = c.in_ok-answers.field-0 in
    let rows = store_is c.in_ok-source.source ∙ ap (λ (l : List SeenRow). map Some l) c.in_ok-source.ensures in
    let on = answered_on nulls c.unknowns_have_one_order.ensures.total c.requires.ascending tables c.requires.known query list
    c.in_ok-answers.ensures.coalesced (subst (λ l. CoversAnswers query l list) rows c.in_ok-answers.ensures.answers) in
    let more : take (i + 1) queries ≡ take i queries ++ query ∷ [] =
    take_more queries i query c.loop-query-test.true ∙ ap (λ (q : Query). take i queries ++ q ∷ []) (sym c.query-item.is) in
    subst (λ (l : List TermTable). AllZip (IsAnsweredOn tables) (take (i + 1) queries) l) (sym c.in_ok-push.ensures.ok)
    (subst (λ (l : List Query). AllZip (IsAnsweredOn tables) l (c.loop-query.lists ++ list ∷ [])) (sym more)
    (zip_push (IsAnsweredOn tables) (take i queries) c.loop-query.lists query list c.loop-query.invariant on))
