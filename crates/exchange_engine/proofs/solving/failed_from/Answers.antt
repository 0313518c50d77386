use Rattle.std.proofs.Common.{◌≡◌, sym, ◌∙◌, subst, All, rules, to_z, of_z, w64}
use Rattle.std.specs.Prelude.{IfOk}
use mir.Val.{SFits}
use Rattle.std.proofs.lemmas.Int.{to_z-of_z}
use Rattle.time_line.specs.Span.{Has}
use Rattle.term_core.specs.Pool.{IsPool}
use Rattle.rule_core.specs.Validity.{IsValid}
use Rattle.failure_trace.specs.Projected.{CanTellFiring, CanTellStep, IsProjected}
use Rattle.exchange_engine.specs.Loading.{LoadedOf}
use Rattle.exchange_engine.proofs.FailedLemmas.{can_tell_firings, can_tell_journal, can_tell_clash, failed_result}
use Rattle.exchange_engine.proofs.solving.failed_from.Goals as goal

pub project-requires-clause-instant : goal.project-requires-clause-instant
project-requires-clause-instant c =
    let fits : SFits w64 c.inside-t.result = search rules in
    let same : to_z w64 (of_z w64 c.inside-t.result) ≡ c.inside-t.result = to_z-of_z w64 c.inside-t.result fits in
    subst (λ t. Has c.args.last.now.span t) (sym same) c.inside-t.ensures.had

pub project-requires-clause-firings : goal.project-requires-clause-firings
project-requires-clause-firings c =
    let loaded : LoadedOf = c.args.loaded.now in
    let t = to_z w64 (of_z w64 c.inside-t.result) in
    subst (λ (l : LoadedOf). All (CanTellFiring l.rules l.pool t) c.args.firings.now) (sym c.loaded.view_is)
    (can_tell_firings loaded (subst (λ (l : LoadedOf). IsValid l.rules) c.loaded.view_is c.is_kept-2.ensures) c.is_kept.ensures
    (subst (λ (l : LoadedOf). IsPool l.pool) c.loaded.view_is c.len.ensures.pool) (c.rows_of_a_table_are_its_facts.ensures loaded.table)
    c.normalised_tables_keep_what_holds.ensures.same c.args.firings.now c.args.journal.now c.args.last.now c.requires t)

pub project-requires-clause-journal : goal.project-requires-clause-journal
project-requires-clause-journal c =
    let loaded : LoadedOf = c.args.loaded.now in
    subst (λ (l : LoadedOf). All (CanTellStep l.rules l.pool) c.args.journal.now) (sym c.loaded.view_is)
    (can_tell_journal loaded (subst (λ (l : LoadedOf). IsValid l.rules) c.loaded.view_is c.is_kept-2.ensures) c.is_kept.ensures
    (subst (λ (l : LoadedOf). IsPool l.pool) c.loaded.view_is c.len.ensures.pool) (c.rows_of_a_table_are_its_facts.ensures loaded.table)
    c.normalised_tables_keep_what_holds.ensures.same c.args.firings.now c.args.journal.now c.args.last.now c.requires)

pub project-requires-clause-last : goal.project-requires-clause-last
project-requires-clause-last c =
    let loaded : LoadedOf = c.args.loaded.now in
    subst (λ (l : LoadedOf). CanTellStep l.rules l.pool c.args.last.now) (sym c.loaded.view_is)
    (can_tell_clash loaded (subst (λ (l : LoadedOf). IsValid l.rules) c.loaded.view_is c.is_kept-2.ensures) c.is_kept.ensures
    (subst (λ (l : LoadedOf). IsPool l.pool) c.loaded.view_is c.len.ensures.pool) (c.rows_of_a_table_are_its_facts.ensures loaded.table)
    c.normalised_tables_keep_what_holds.ensures.same c.args.firings.now c.args.journal.now c.args.last.now c.requires)

pub returns : goal.returns
returns c =
    let loaded : LoadedOf = c.args.loaded.now in
    let t = to_z w64 (of_z w64 c.inside-t.result) in
    let fits : SFits w64 c.inside-t.result = search rules in
    let same : t ≡ c.inside-t.result = to_z-of_z w64 c.inside-t.result fits in
    failed_result loaded (subst (λ (l : LoadedOf). IsValid l.rules) c.loaded.view_is c.is_kept-2.ensures) c.is_kept.ensures
    (subst (λ (l : LoadedOf). IsPool l.pool) c.loaded.view_is c.len.ensures.pool) (c.rows_of_a_table_are_its_facts.ensures loaded.table)
    c.normalised_tables_keep_what_holds.ensures.same c.args.firings.now c.args.journal.now c.args.last.now c.requires
    c.solutions_are_what_firing_facts_map_into.ensures.numbers t (subst (λ x. Has c.args.last.now.span x) (sym same) c.inside-t.ensures.had)
    c.projected_traces_are_accepted.ensures c.is_kept-3.ensures (same ∙ c.inside-t.ensures.exact) c.project.result
    (subst (λ (l : LoadedOf). IfOk c.project.result (IsProjected l.rules l.pool c.args.firings.now c.args.journal.now c.args.last.now t))
    c.loaded.view_is c.project.ensures.trace)
    c.project.ensures.writable
