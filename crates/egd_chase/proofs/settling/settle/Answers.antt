use Rattle.std.proofs.Common.{◌≡◌, ◌∙◌, List, subst, sym, All}
use Rattle.rule_core.specs.declared.rules.Egd.{Egd}
use Rattle.rule_core.specs.Validity.{IsEgd}
use Rattle.failure_trace.specs.declared.journal.JournalStep.{JournalStep}
use Rattle.null_store.specs.Store.{facts_in}
use Rattle.egd_chase.specs.Search.{AreParts}
use Rattle.egd_chase.specs.Steps.{IsUnderway, Turns}
use Rattle.egd_chase.proofs.EndLemmas.{begins, leads_to, has_form, has_no_model}
use Rattle.egd_chase.proofs.settling.settle.Goals as goal

pub make-requires : goal.make-requires
make-requires g c =
    let rules = c.args.rules.now in (
      rules.targets,
      subst (λ (l : List Egd). All (IsEgd rules.targets) l) (sym (c.as_slice-egds.ensures ∙ c.egds.ensures)) c.is_kept.ensures.rules.egds,
    )

pub loop-journal-init : goal.loop-journal-init
loop-journal-init g c =
    let rules = c.args.rules.now in
    let store = c.args.store in
    let search = c.in_ok-search.search in
    let are : c.as_slice-egds.result.now ≡ rules.egds = c.as_slice-egds.ensures ∙ c.egds.ensures in
    subst (λ (j : List JournalStep). IsUnderway rules (facts_in store) store search j) (sym c.new-journal.ensures)
    (begins rules store search
    (subst (λ (l : List Egd). AreParts store.rows l search.parts.items) are c.in_ok-search.ensures.parts) c.in_ok-search.ensures.limit
    c.rows_have_spans.ensures)

pub returns-in-Settled-clause-done : goal.returns-in-Settled-clause-done
returns-in-Settled-clause-done g c =
    let rules = c.args.rules.now in
    let rows = facts_in c.args.store in
    let new = c.take_batch.new in
    let turns = subst (λ t. Turns rules rows c.loop-journal.store new.store new.search new.journal t) c.in-Settled.is
    (c.in_ok-take_batch.ensures rows c.loop-journal.invariant) in
    leads_to rules rows new.store new.journal c.is_kept-in-Settled.ensures c.is_kept.ensures turns.0 turns.1

pub returns-in-Settled-clause-form : goal.returns-in-Settled-clause-form
returns-in-Settled-clause-form g c =
    let rules = c.args.rules.now in
    let rows = facts_in c.args.store in
    let new = c.take_batch.new in
    let turns = subst (λ t. Turns rules rows c.loop-journal.store new.store new.search new.journal t) c.in-Settled.is
    (c.in_ok-take_batch.ensures rows c.loop-journal.invariant) in
    has_form rules rows new.store new.journal c.is_kept-in-Settled.ensures c.is_kept.ensures turns.0 turns.1

pub returns-in-Clashed-clause-none : goal.returns-in-Clashed-clause-none
returns-in-Clashed-clause-none g c =
    let rules = c.args.rules.now in
    let rows = facts_in c.args.store in
    let new = c.take_batch.new in
    let turns = subst (λ t. Turns rules rows c.loop-journal.store new.store new.search new.journal t) c.in-Clashed.is
    (c.in_ok-take_batch.ensures rows c.loop-journal.invariant) in
    has_no_model rules rows new.store new.journal c.in-Clashed.last turns.0 turns.1
