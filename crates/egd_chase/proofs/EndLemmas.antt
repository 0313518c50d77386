-- Where settling begins, and what its two ends show.
use Rattle.std.proofs.Common.{◌≤◌, List, []}
use Rattle.std.proofs.lemmas.List.Sorted.{IsPermutation-refl}
use Rattle.rule_core.specs.Mapping.{RuleSet}
use Rattle.rule_core.specs.Validity.{IsValid}
use Rattle.term_core.specs.declared.const_id.ConstId.{ConstId}
use Rattle.failure_trace.specs.declared.journal.JournalStep.{JournalStep}
use Rattle.failure_trace.specs.JournalRun.{RowOf, IsRun, IsClash}
use Rattle.null_store.specs.Store.{Store, IsStore, facts_in}
use Rattle.egd_chase.specs.declared.search.Search.{Search}
use Rattle.egd_chase.specs.Search.{AreParts, HaveSpans, NoneIsUnequal}
use Rattle.egd_chase.specs.Settled.{LeadsTo, LeadsToClash, AreSettledForm, HaveNoModel}
use Rattle.egd_chase.specs.Steps.{IsUnderway}
use Rattle.egd_chase.proofs.FormLemmas.{form_of_run, no_model_of_clash}
use Rattle.egd_chase.proofs.MatchBridge.{settled_without_unequal}
use Rattle.egd_chase.proofs.MeasureLemmas.{comes_from_itself}

-- before the first turn
pub begins : (rules : RuleSet) (store : Store) (search : Search) → AreParts store.rows rules.egds search.parts.items → 1 ≤ search.limit
    → HaveSpans store.rows → IsUnderway rules (facts_in store) store search []
begins rules store search parts limit spans = record {
  run = IsPermutation-refl (facts_in store);
  parts = parts;
  limit = limit;
  from = comes_from_itself (facts_in store);
  spans = spans;
}

-- no match has unequal sides
pub leads_to : (rules : RuleSet) (rows : List (RowOf ConstId)) (store : Store) (journal : List JournalStep) → IsStore store → IsValid rules
    → IsRun rules rows journal (facts_in store) → NoneIsUnequal store.rows rules.egds → LeadsTo rules rows (facts_in store) journal
leads_to rules rows store journal ok valid run none = record {
  run = run;
  settled = settled_without_unequal store ok rules.targets rules valid.rules.egds none;
}

pub has_form : (rules : RuleSet) (rows : List (RowOf ConstId)) (store : Store) (journal : List JournalStep) → IsStore store → IsValid rules
    → IsRun rules rows journal (facts_in store) → NoneIsUnequal store.rows rules.egds → AreSettledForm rules rows (facts_in store)
has_form rules rows store journal ok valid run none =
    form_of_run rules rows (facts_in store) journal valid (leads_to rules rows store journal ok valid run none)

-- two constants were to be equal
pub leads_to_clash : (rules : RuleSet) (rows : List (RowOf ConstId)) (store : Store) (journal : List JournalStep) (last : JournalStep)
    → IsRun rules rows journal (facts_in store) → IsClash rules (facts_in store) last → LeadsToClash rules rows journal last
leads_to_clash rules rows store journal last run clash = record { last = facts_in store; run = run; allowed = clash }

pub has_no_model : (rules : RuleSet) (rows : List (RowOf ConstId)) (store : Store) (journal : List JournalStep) (last : JournalStep)
    → IsRun rules rows journal (facts_in store) → IsClash rules (facts_in store) last → HaveNoModel rules rows last
has_no_model rules rows store journal last run clash =
    no_model_of_clash rules rows journal last (leads_to_clash rules rows store journal last run clash)
