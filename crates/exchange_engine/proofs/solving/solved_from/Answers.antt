use Rattle.std.proofs.Common.{◌≡◌, ℕ, ◌<◌, List, length, sym, ap, ◌∙◌, subst, All}
use Rattle.std.specs.List.{AllZip}
use Rattle.std.proofs.lemmas.List.Elements.{All-weaker}
use Rattle.term_core.specs.declared.const_id.ConstId.{ConstId}
use Rattle.term_core.specs.declared.term.Unknown.{Unknown as HeldUnknown}
use Rattle.rule_core.specs.declared.rules.Query.{Query}
use Rattle.rule_core.specs.Validity.{IsValid, IsQuery}
use Rattle.rule_core.specs.Mapping.{RuleSet}
use Rattle.failure_trace.specs.JournalRun.{RowOf}
use Rattle.null_store.specs.Store.{facts_in}
use Rattle.certain_answers.specs.Answering.{CanAnswer, IsAnsweredOn}
use Rattle.exchange_engine.specs.Loading.{LoadedOf}
use Rattle.exchange_engine.specs.Solved.{TermTable, AreUnknownsOf}
use Rattle.exchange_engine.proofs.AnsweredLemmas.{query_answerable, are_known}
use Rattle.exchange_engine.proofs.TargetLemmas.{are_below, solved_of}
use Rattle.exchange_engine.proofs.solving.solved_from.Goals as goal

pub tables_of-requires : goal.tables_of-requires
tables_of-requires g c =
    let loaded : LoadedOf = c.args.loaded.now in
    let rows : List (RowOf ConstId) = facts_in c.args.store in
    let valid = subst (λ (l : LoadedOf). IsValid l.rules) c.loaded.view_is c.is_kept-2.ensures in
    let size : c.len-relations.result ≡ length loaded.rules.targets =
    c.len-relations.ensures ∙ ap length c.targets.ensures ∙ ap (λ (l : LoadedOf). length l.rules.targets) c.loaded.view_is in
    subst (λ (n : ℕ). All (λ (row : RowOf ConstId). row.row.relation < n) rows) (sym size)
    (are_below loaded valid c.is_kept.ensures (c.rows_of_a_table_are_its_facts.ensures loaded.table) c.args.run.firings c.args.run.journal
    rows c.requires.settled)

pub answers_of-requires-clause-queries : goal.answers_of-requires-clause-queries
answers_of-requires-clause-queries g c =
    let rules : RuleSet = c.loaded.inside.rules in
    let same : c.as_slice-queries.result.now ≡ rules.queries = c.as_slice-queries.ensures ∙ c.queries.ensures in
    subst (All CanAnswer) (sym same)
    (All-weaker (IsQuery rules.targets) CanAnswer (query_answerable rules.targets) rules.queries c.is_kept-2.ensures.queries.each)

pub answers_of-requires-clause-known : goal.answers_of-requires-clause-known
answers_of-requires-clause-known g c =
    let tables : List TermTable = c.as_slice-2.result.now in
    let nulls : List HeldUnknown = c.as_slice-3.result.now in
    let same : c.as_slice.result.now ≡ tables = c.as_slice.ensures ∙ sym c.as_slice-2.ensures in
    are_known tables nulls
    (subst (λ (l : List TermTable). AreUnknownsOf l nulls) same
    (subst (λ (l : List HeldUnknown). AreUnknownsOf c.as_slice.result.now l) (sym c.as_slice-3.ensures) c.in_ok-nulls.ensures))

pub returns : goal.returns
returns g c =
    let loaded : LoadedOf = c.args.loaded.now in
    let tables : List TermTable = c.in_ok-tables.tables in
    let nulls : List HeldUnknown = c.in_ok-nulls.nulls in
    let answers : List TermTable = c.in_ok-answers.answers in
    let rows : List (RowOf ConstId) = facts_in c.args.store in
    let valid = subst (λ (l : LoadedOf). IsValid l.rules) c.loaded.view_is c.is_kept-2.ensures in
    let size : c.len-relations.result ≡ length loaded.rules.targets =
    c.len-relations.ensures ∙ ap length c.targets.ensures ∙ ap (λ (l : LoadedOf). length l.rules.targets) c.loaded.view_is in
    let same : c.as_slice-queries.result.now ≡ loaded.rules.queries =
    c.as_slice-queries.ensures ∙ c.queries.ensures ∙ ap (λ (l : LoadedOf). l.rules.queries) c.loaded.view_is in
    let on : AllZip (IsAnsweredOn tables) loaded.rules.queries answers =
    subst (λ (l : List TermTable). AllZip (IsAnsweredOn l) loaded.rules.queries answers) c.as_slice-2.ensures
    (subst (λ (l : List Query). AllZip (IsAnsweredOn c.as_slice-2.result.now) l answers) same c.in_ok-answers.ensures) in
    solved_of loaded valid c.is_kept.ensures (c.rows_of_a_table_are_its_facts.ensures loaded.table) c.args.run.firings c.args.run.journal
    rows c.requires.settled tables (c.in_ok-tables.ensures.size ∙ size) c.in_ok-tables.ensures.coalesced c.in_ok-tables.ensures.same
    c.solutions_are_what_firing_facts_map_into.ensures.numbers c.what_is_certain_is_answered_on_a_universal_instance.ensures.numbers
    nulls (subst (λ (l : List TermTable). AreUnknownsOf l nulls) c.as_slice.ensures c.in_ok-nulls.ensures) answers on
    c.in_ok-counts.counts (record {
      pieces = λ other is. c.in_ok-counts.ensures.pieces ∙ c.requires.pieces other is;
      firings = c.in_ok-counts.ensures.firings;
      steps = c.in_ok-counts.ensures.steps;
      cuts = c.in_ok-counts.ensures.cuts;
    })
