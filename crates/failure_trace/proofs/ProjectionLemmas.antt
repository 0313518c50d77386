-- A step of a journal at one instant: a step of a trace at each instant of its span, and nothing at any other.
use Rattle.std.proofs.Common.{◌≡◌, ℕ, ℤ, ◌<◌, Some, Option, MatchOption, List, map, length}
use Rattle.std.proofs.Common.{refl, sym, ap, ◌∙◌, subst, inl, inr, arith, Contains}
use Rattle.std.specs.declared.cmp.Ordering.{Ordering}
use Rattle.std.specs.FinMap.{IsAntisymmetric}
use Rattle.std.proofs.lemmas.List.Elements.{Contains-get_or}
use Rattle.time_line.specs.Span.{Ends, Has}
use Rattle.term_core.specs.declared.const_id.ConstId.{ConstId}
use Rattle.rule_core.specs.declared.rules.Egd.{Egd}
use Rattle.rule_core.specs.declared.rules.Relation.{Relation}
use Rattle.rule_core.specs.Terms.{Unknown, numbered, TermOf, unknown, FactOf}
use Rattle.rule_core.specs.Match.{Matches}
use Rattle.rule_core.specs.Snapshot.{snapshot_at}
use Rattle.rule_core.specs.Validity.{IsEgd}
use Rattle.rule_core.specs.Frontier.{Occurs}
use Rattle.rule_core.specs.Renaming.{HasUnknown}
use Rattle.rule_core.proofs.ListLemmas.{Contains-map, Contains-from_map}
use Rattle.rule_core.proofs.FiringLemmas.{occurs_from, occurs_to}
use Rattle.rule_core.proofs.ToldLemmas.{bound_term}
use Rattle.failure_trace.specs.declared.journal.CutNote.{CutNote}
use Rattle.failure_trace.specs.Equating.{Replacement, bound_to, AreClashing, replacement_of, replaced_fact}
use Rattle.failure_trace.specs.JournalRun.{RowOf, left_of, right_of, Equates}
use Rattle.failure_trace.specs.Projection.{traced_term, traced_fact, traced_facts, AreInOrder, EquatesAll, StepsAreTraced, StepsStayElsewhere, ClashesAreTraced, EqualitiesAreAllowed, ClashesAreAllowed}
use Rattle.failure_trace.specs.TraceRun.{goes, going, stops, text_cmp}
use Rattle.failure_trace.specs.declared.why.Why.TheVariants.{K5}
use Rattle.failure_trace.proofs.SnapshotSteps.{shown, in_snapshot, gone_is_a_side, step_shows, step_shown, still_shows, shown_before, snapshot_matches}
use Rattle.failure_trace.proofs.TracedLemmas.{bound_traced, match_traced, traced_replacement, replacement_traced, fact_traced, clashing_traced}

-- the variables of an egd's body are bound
egd_bound : {C : Type 0} (relations : List Relation) (egd : Egd) (terms : List (TermOf C)) → IsEgd relations egd
    → length terms ≡ length egd.vars → (v : ℕ) → Occurs egd.body v → v < length terms
egd_bound relations egd terms is size v occurs =
    let below : v < length egd.vars = (is.body_vars.same v).0 (occurs_to egd.body v occurs) in omega (arith, size)

module _ {C D : Type 0} (name : ConstId → C) (cmp : C → C → Ordering) (order : D → D → Ordering) (to : C → D) (number : Unknown C → ℕ)
    (relations : List Relation) (egd : Egd) (apart : IsAntisymmetric cmp) (is : IsEgd relations egd)
    (state after : List (RowOf C)) (terms : List (TermOf C)) (c : Ends) (notes : List CutNote) (t : ℤ)
    (step : Equates name cmp state egd terms c notes after) (in_order : AreInOrder cmp (snapshot_at state t) number) (has : Has c t) where
  abbrev before : List (FactOf C)
  before = snapshot_at state t

  abbrev r : Replacement C
  r = step.replacement

  matched : Matches name (bound_to terms) egd.body before
  matched = snapshot_matches name egd state terms c t step.matches has

  -- an unknown that is a side is in the snapshot
  side_there : (v : ℕ) → v < length egd.vars → (u : Unknown C) → bound_to terms v ≡ unknown u → HasUnknown before u
  side_there v below u e =
      let k = bound_term name (bound_to terms) egd.body before v (occurs_from egd.body v ((is.body_vars.same v).1 below)) matched in
      (k.1.0, k.0, k.1.1, k.1.2, subst (Contains k.0.terms) e k.2)

  gone_there : HasUnknown before r.gone
  gone_there = elim (gone_is_a_side cmp r (left_of egd terms) (right_of egd terms) step.sides) [
    | inl e ↦ side_there egd.left is.left r.gone e
    | inr e ↦ side_there egd.right is.right r.gone e
  ]

  traced_sides : replacement_of order (left_of egd (map (traced_term to number) terms)) (right_of egd (map (traced_term to number) terms))
      ≡ Some (traced_replacement to number r)
  traced_sides =
      let size = step.matches.size in
      let below_left : egd.left < length terms = omega (arith, size, is.left) in
      let below_right : egd.right < length terms = omega (arith, size, is.right) in
      let left = bound_traced to number terms egd.left below_left in
      let right = bound_traced to number terms egd.right below_right in
      (λ i. replacement_of order (left i) (right i))
      ∙ replacement_traced to number cmp order r (left_of egd terms) (right_of egd terms)
      (λ u w a b. in_order u w (side_there egd.left is.left u a) (side_there egd.right is.right w b)) step.sides

  same_fact : (fact : FactOf C) → Contains before fact
      → replaced_fact order (traced_replacement to number r) (traced_fact to number fact) ≡ traced_fact to number (replaced_fact cmp r fact)
  same_fact fact there = fact_traced to number cmp order r fact
      (λ u inside. in_order u r.gone (there.0, fact, there.1, there.2, inside) gone_there)

  after_holds : (fact : FactOf D) → Contains (map (replaced_fact order (traced_replacement to number r)) (traced_facts to number before)) fact
      → Contains (traced_facts to number (snapshot_at after t)) fact
  after_holds fact there =
      let k = Contains-from_map (replaced_fact order (traced_replacement to number r)) (traced_facts to number before) fact there in
      let old = Contains-from_map (traced_fact to number) before k.0 k.1 in
      let now : Contains (snapshot_at after t) (replaced_fact cmp r old.0) = in_snapshot t after (replaced_fact cmp r old.0)
      (step_shows name cmp egd apart state after terms c notes t step has old.0 (shown t state old.0 old.1)) in
      subst (Contains (traced_facts to number (snapshot_at after t)))
      (sym (same_fact old.0 old.1) ∙ ap (replaced_fact order (traced_replacement to number r)) old.2 ∙ k.2)
      (Contains-map (traced_fact to number) (snapshot_at after t) (replaced_fact cmp r old.0) now)

  before_held : (fact : FactOf D) → Contains (traced_facts to number (snapshot_at after t)) fact
      → Contains (map (replaced_fact order (traced_replacement to number r)) (traced_facts to number before)) fact
  before_held fact there =
      let k = Contains-from_map (traced_fact to number) (snapshot_at after t) fact there in
      let old = step_shown name cmp egd apart state after terms c notes t step has k.0 (shown t after k.0 k.1) in
      let was : Contains before old.0 = in_snapshot t state old.0 old.1 in
      subst (Contains (map (replaced_fact order (traced_replacement to number r)) (traced_facts to number before)))
      (same_fact old.0 was ∙ ap (traced_fact to number) old.2 ∙ k.2)
      (Contains-map (replaced_fact order (traced_replacement to number r)) (traced_facts to number before) (traced_fact to number old.0)
      (Contains-map (traced_fact to number) before old.0 was))

  traced_step : EquatesAll (λ k. to (name k)) order egd (map (traced_term to number) terms)
      (traced_facts to number before) (traced_facts to number (snapshot_at after t))
  traced_step = record {
    matches = match_traced to number name terms egd.body before (egd_bound relations egd terms is step.matches.size) matched;
    replacement = traced_replacement to number r;
    sides = traced_sides;
    replaced = λ fact. (after_holds fact, before_held fact);
  }

pub steps_are_traced : {C D : Type 0} → StepsAreTraced C D
steps_are_traced name cmp order to number relations egd apart is state after terms c notes t step in_order has =
    traced_step name cmp order to number relations egd apart is state after terms c notes t step in_order has

pub steps_stay_elsewhere : {C : Type 0} → StepsStayElsewhere C
steps_stay_elsewhere name cmp egd apart state after terms c notes t step out fact = (
  λ there. in_snapshot t after fact (still_shows name cmp egd apart state after terms c notes t step out fact (shown t state fact there)),
  λ there. in_snapshot t state fact (shown_before name cmp egd apart state after terms c notes t step out fact (shown t after fact there)),
)

pub clashes_are_traced : {C D : Type 0} → ClashesAreTraced C D
clashes_are_traced name cmp to number relations egd is state terms c t once clash has =
    let size = clash.matches.size in
    let below_left : egd.left < length terms = omega (arith, size, is.left) in
    let below_right : egd.right < length terms = omega (arith, size, is.right) in
    let left = bound_traced to number terms egd.left below_left in
    let right = bound_traced to number terms egd.right below_right in
    record {
      matches = match_traced to number name terms egd.body (snapshot_at state t) (egd_bound relations egd terms is size)
          (snapshot_matches name egd state terms c t clash.matches has);
      sides = subst (λ a. AreClashing a (right_of egd (map (traced_term to number) terms))) (sym left)
          (subst (AreClashing (traced_term to number (left_of egd terms))) (sym right)
          (clashing_traced to number terms once (left_of egd terms) (right_of egd terms)
          (Contains-get_or terms egd.left (unknown (numbered 0)) below_left) (Contains-get_or terms egd.right (unknown (numbered 0)) below_right)
          clash.sides));
    }

-- the test of an equality that has a replacement
pub equalities_are_allowed : EqualitiesAreAllowed
equalities_are_allowed name rules source egd binding held after there fits step = (
  map (replaced_fact text_cmp step.replacement) held.facts,
  step.replaced,
  inl (egd, there, refl, inl (fits, inl (step.matches, subst Leads (sym step.sides) refl))),
)
  where
    Leads : Option (Replacement (List ℕ)) → Type 0
    Leads o = MatchOption o (goes (going (record held { facts = map (replaced_fact text_cmp step.replacement) held.facts })) ≡ stops K5)
        (λ r. goes (going (record held { facts = map (replaced_fact text_cmp step.replacement) held.facts }))
        ≡ goes (going (record held { facts = map (replaced_fact text_cmp r) held.facts })))

pub clashes_are_allowed : ClashesAreAllowed
clashes_are_allowed name rules source egd binding held there fits clash =
    inl (egd, there, refl, inl (fits, inl (clash.matches, inl (clash.sides, refl))))
