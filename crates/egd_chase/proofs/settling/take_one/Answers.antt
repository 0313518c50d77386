use Rattle.std.proofs.Common.{◌≡◌, ◌∙◌, ◌<◌, ℕ, Some, Option, List, length, refl, subst, sym, ap}
use Rattle.std.specs.Prelude.{slice_get, IsSomeAnd, IfSome}
use Rattle.std.specs.List.{AllZip}
use Rattle.std.proofs.lemmas.List.Elements.{All-contains}
use Rattle.std.proofs.lemmas.Option.{slice_get_read}
use Rattle.time_line.specs.Span.{Ends}
use Rattle.term_core.specs.declared.const_id.ConstId.{ConstId}
use Rattle.term_core.specs.Order.{id_cmp}
use Rattle.rule_core.specs.declared.rules.Egd.{Egd}
use Rattle.rule_core.specs.Terms.{TermOf}
use Rattle.rule_core.specs.Validity.{IsEgd}
use Rattle.body_match.specs.declared.found.Match.{Match}
use Rattle.body_match.proofs.SearchLemmas.{some_and, same_some}
use Rattle.failure_trace.specs.declared.journal.JournalStep.{JournalStep}
use Rattle.failure_trace.specs.JournalRun.{Clashes, Equates, step_terms}
use Rattle.null_store.specs.Store.{facts_in}
use Rattle.egd_chase.specs.Search.{IsUnequalMatch, AreParts, ChangeOnly, HasTaken}
use Rattle.egd_chase.specs.Steps.{IsUnderway}
use Rattle.egd_chase.proofs.ListLemmas.{in_list}
use Rattle.egd_chase.proofs.SettleLemmas.{is_some, clash_of, underway_after, within_parts}
use Rattle.egd_chase.proofs.WaitLemmas.{can_take}
use Rattle.egd_chase.proofs.settling.take_one.Given.{Over}
use Rattle.egd_chase.proofs.settling.take_one.Goals as goal
use Rattle.egd_chase.proofs.settling.take_one.Goals.{After-index-as_slice-at}

pub again-requires : goal.again-requires
again-requires g c =
    within_parts c.args.rules.now c.requires.way.0 c.args.store.now c.args.search.now c.args.journal.now c.requires.way.1 c.args.at c.requires.egd

-- the egd stands at its place
egd_at : (g : Over) (c : After-index-as_slice-at g) → slice_get c.args.rules.now.egds c.args.at ≡ Some c.index-as_slice-at.result
egd_at g c =
    let listed : List Egd = c.as_slice.result.now in
    let egd = c.index-as_slice-at.result in
    let same : listed ≡ c.args.rules.now.egds = c.as_slice.ensures ∙ c.egds.ensures in
    let l : c.args.at < length listed = subst (λ (xs : List Egd). c.args.at < length xs) (sym same) c.requires.egd in
    subst (λ (xs : List Egd). slice_get xs c.args.at ≡ Some egd) same
    (slice_get_read listed (length listed) c.args.at egd refl l c.index-as_slice-at.is)

-- the match is one with unequal sides
is_unequal : (g : Over) (c : After-index-as_slice-at g) → IsUnequalMatch c.args.store.now.rows c.index-as_slice-at.result c.in-Some.found
is_unequal g c =
    let rules = c.args.rules.now in
    let rows = c.args.store.now.rows in
    let search = c.args.search.now in
    let found = c.in-Some.found in
    let some : IfSome (Some found) (λ m. (egds : List Egd) → AreParts rows egds search.parts.items
    → IsSomeAnd (slice_get egds c.args.at) (λ e. IsUnequalMatch rows e m)) =
    subst (λ (o : Option Match). IfSome o (λ m. (egds : List Egd) → AreParts rows egds search.parts.items
    → IsSomeAnd (slice_get egds c.args.at) (λ e. IsUnequalMatch rows e m))) c.in-Some.is c.in_ok-found.ensures.some in
    let there = some_and (λ e. IsUnequalMatch rows e found) (slice_get rules.egds c.args.at) (some rules.egds c.requires.way.1.parts) in
    subst (λ (e : Egd). IsUnequalMatch rows e found)
    (same_some (slice_get rules.egds c.args.at) there.0 c.index-as_slice-at.result there.1 (egd_at g c)) there.2

pub step_of-requires-clause-matches : goal.step_of-requires-clause-matches
step_of-requires-clause-matches g c =
    (is_unequal g (goal.at.step_of-requires-clause-matches g c).After-index-as_slice-at).match

pub returns-then-are_constants : goal.returns-then-are_constants
returns-then-are_constants g c =
    let rules = c.args.rules.now in
    let store = c.args.store.now in
    let egd = c.index-as_slice-at.result in
    let step = c.in_ok-step.step in
    let after = (goal.at.returns-then-are_constants g c).After-index-as_slice-at in
    let at = egd_at g after in
    let is : IsEgd rules.targets egd =
    All-contains (IsEgd rules.targets) rules.egds egd c.is_kept.ensures.rules.egds (in_list rules.egds c.args.at egd at) in
    λ first way. (
      way.run,
      (
        is_some (λ (e : Egd). Clashes (λ k. k) id_cmp (facts_in store) e (step_terms step) step.span) (slice_get rules.egds step.egd) egd
            (ap (slice_get rules.egds) c.in_ok-step.ensures.egd ∙ at)
            (clash_of store rules.targets egd is c.in-Some.found (is_unequal g after) (c.are_constants.ensures.0 c.if-are_constants.true)
            (step_terms step) step.span c.in_ok-step.ensures.terms c.in_ok-step.ensures.span),
        c.in_ok-step.ensures.cuts,
      ),
    )

pub equate-requires-clause-matches : goal.equate-requires-clause-matches
equate-requires-clause-matches g c = is_unequal g (goal.at.equate-requires-clause-matches g c).After-index-as_slice-at

pub add-requires : goal.add-requires
add-requires g c =
    let old = c.args.store.now.rows in
    let new = c.equate.new.store.rows in
    let numbers = c.as_slice-2.result.now in
    let change : ChangeOnly numbers old new =
    subst (λ (l : List ℕ). ChangeOnly l old new) (sym c.as_slice-2.ensures) c.in_ok-changed.ensures.changes in
    can_take old new numbers change c.rows_that_lose_times_stay_listed.ensures c.args.rules.now.egds c.args.search.now.parts.items
    c.requires.way.1.parts

pub returns : goal.returns
returns g c =
    let rules = c.args.rules.now in
    let store = c.args.store.now in
    let found = c.in-Some.found in
    let egd = c.index-as_slice-at.result in
    let at = egd_at g (goal.at.returns g c).After-index-as_slice-at in
    let new = c.equate.new.store in
    let search = c.args.search.now in
    let step : JournalStep = record {
      egd = c.in_ok-step.step.egd;
      binding = c.in_ok-step.step.binding;
      span = c.in_ok-step.step.span;
      cuts = c.equate.new.cuts;
    } in
    let equates : Equates (λ k. k) id_cmp (facts_in store) egd (step_terms step) step.span step.cuts (facts_in new) =
    subst (λ (x : Ends). Equates (λ k. k) id_cmp (facts_in store) egd (step_terms step) x step.cuts (facts_in new)) (sym c.in_ok-step.ensures.span)
    (subst (λ (x : List (TermOf ConstId)). Equates (λ k. k) id_cmp (facts_in store) egd x found.span step.cuts (facts_in new))
    (sym c.in_ok-step.ensures.terms) c.in_ok-changed.ensures.equates) in
    λ first way.
    let after = underway_after rules c.is_kept.ensures first store new search c.add.new.self c.args.journal.now way c.in_ok-changed.changed
    (subst (λ (l : List ℕ). AllZip (HasTaken new.rows l) search.parts.items c.add.new.self.parts.items) c.as_slice-2.ensures
    c.in_ok-add.ensures.taken)
    c.in_ok-add.ensures.limit c.in_ok-changed.ensures.changes c.in_ok-changed.ensures.shared c.in_ok-changed.ensures.spans step egd
    (ap (slice_get rules.egds) c.in_ok-step.ensures.egd ∙ at) equates in (
      subst (λ (j : List JournalStep). IsUnderway rules first new c.add.new.self j) (sym c.in_ok-push.ensures.ok) after.0,
      after.1,
    )
