-- What a run of a journal does to the maps of a snapshot.
use Rattle.std.proofs.Common.{◌≡◌, ℕ, ℤ, Some, List, [], ◌∷◌, sym, subst, Contains, IsPermutation, slice_get}
use Rattle.std.proofs.lemmas.List.Elements.{All-contains}
use Rattle.std.proofs.lemmas.List.Sorted.{IsPermutation-sym, Contains-permutation}
use Rattle.term_core.specs.declared.const_id.ConstId.{ConstId}
use Rattle.term_core.specs.Order.{id_cmp}
use Rattle.term_core.proofs.OrderLemmas.{id_cmp-IsAntisymmetric}
use Rattle.rule_core.specs.declared.rules.Egd.{Egd}
use Rattle.rule_core.specs.Terms.{unknown, FactOf}
use Rattle.rule_core.specs.Mapping.{RuleSet}
use Rattle.rule_core.specs.Snapshot.{snapshot_at}
use Rattle.rule_core.specs.Solution.{EgdHolds}
use Rattle.rule_core.proofs.HomomorphismLemmas.{composed}
use Rattle.rule_core.proofs.EqualSideLemmas.{fact_image-unknown}
use Rattle.failure_trace.specs.JournalRun.{RowOf, Equates, Clashes, step_terms}
use Rattle.failure_trace.proofs.SnapshotSteps.{Shows, shown, in_snapshot}
use Rattle.egd_chase.specs.Settling.{EgdsHold, RunsKeepMaps, RunsLeadOn, ClashesEndMaps}
use Rattle.egd_chase.proofs.ListLemmas.{chosen, in_list}
use Rattle.egd_chase.proofs.StepMaps.{step_keeps, step_leads, clash_ends}

-- what is shown does not rest on the order of rows
pub shows_up_to_order : (t : ℤ) (state last : List (RowOf ConstId)) (fact : FactOf ConstId) → IsPermutation state last → Shows t state fact
    → Shows t last fact
shows_up_to_order t state last fact p s = (s.0, Contains-permutation state last s.0 p s.1, s.2, s.3)

egd_holds : (rules : RuleSet) (number : ℕ) (egd : Egd) (instance : List (FactOf ConstId)) → EgdsHold rules instance
    → slice_get rules.egds number ≡ Some egd → EgdHolds (λ c. c) egd instance
egd_holds rules number egd instance holds e =
    All-contains (λ e. EgdHolds (λ c. c) e instance) rules.egds egd holds (in_list rules.egds number egd e)

pub runs_keep_maps : RunsKeepMaps
runs_keep_maps rules state last [] run instance holds h t goes = λ fact there.
    goes fact (in_snapshot t state fact (shows_up_to_order t last state fact (IsPermutation-sym state last run) (shown t last fact there)))
runs_keep_maps rules state last (step ∷ steps) run instance holds h t goes =
    let k = chosen (λ egd. Equates (λ c. c) id_cmp state egd (step_terms step) step.span step.cuts run.0) (slice_get rules.egds step.egd) run.1 in
    runs_keep_maps rules run.0 last steps run.2 instance holds h t
    (step_keeps (λ c. c) id_cmp k.0 id_cmp-IsAntisymmetric state run.0 (step_terms step) step.span step.cuts k.2 t instance
    (egd_holds rules step.egd k.0 instance holds k.1) h goes)

pub runs_lead_on : RunsLeadOn
runs_lead_on rules state last [] run t = record {
  of_unknown = unknown;
  into = λ fact there. subst (Contains (snapshot_at last t)) (sym (fact_image-unknown fact))
      (in_snapshot t last fact (shows_up_to_order t state last fact run (shown t state fact there)));
}
runs_lead_on rules state last (step ∷ steps) run t =
    let k = chosen (λ egd. Equates (λ c. c) id_cmp state egd (step_terms step) step.span step.cuts run.0) (slice_get rules.egds step.egd) run.1 in
    composed (Contains (snapshot_at state t)) (snapshot_at run.0 t) (snapshot_at last t)
    (step_leads (λ c. c) id_cmp k.0 id_cmp-IsAntisymmetric state run.0 (step_terms step) step.span step.cuts k.2 t)
    (runs_lead_on rules run.0 last steps run.2 t)

pub clashes_end_maps : ClashesEndMaps
clashes_end_maps rules state last journal clash run is t h instance holds map =
    let k = chosen (λ egd. Clashes (λ c. c) id_cmp last egd (step_terms clash) clash.span) (slice_get rules.egds clash.egd) is.0 in
    clash_ends (λ c. c) id_cmp k.0 last (step_terms clash) clash.span k.2 t h instance
    (egd_holds rules clash.egd k.0 instance holds k.1)
    (record {
      of_unknown = map.of_unknown;
      into = runs_keep_maps rules state last journal run instance holds map.of_unknown t map.into;
    })
