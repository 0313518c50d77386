use Rattle.std.proofs.Common.{[], ◌<◌, ◌≤◌, ◌+◌, ℕ, List, length, Contains, sym, subst}
use Rattle.rule_core.specs.declared.rules.Atom.{Atom}
use Rattle.rule_core.specs.Validity.{occurrences}
use Rattle.body_match.specs.declared.places.Place.{Place}
use Rattle.body_match.specs.Keys.{AreLevels}
use Rattle.body_match.specs.Plans.{IsOrder, IsOrdered}
use Rattle.body_match.specs.Places.{AreFirstPlaces}
use Rattle.body_match.proofs.PlanLemmas.{order_below}
use Rattle.body_match.proofs.IndexLemmas.{occurs_in_order, told_at}
use Rattle.body_match.proofs.plan.Plan.bare.Goals as goal
use Rattle.body_match.proofs.plan.Plan.bare.Goals.{After-as_slice-3, In_ok-body, In_ok-levels}

-- the order is one of the body's places
is_order : (c : After-as_slice-3) → IsOrder (length c.args.body.now) c.args.first c.in_ok-order.order.items
is_order c = subst (λ (l : List Atom). IsOrder (length l) c.args.first c.in_ok-order.order.items) c.as_slice.ensures c.in_ok-order.ensures

-- the atoms are in this order
in_order : (c : In_ok-body) → IsOrdered c.args.body.now c.in_ok-order.order.items c.in_ok-body.body
in_order c =
    subst (λ (l : List Atom). IsOrdered l c.in_ok-order.order.items c.in_ok-body.body) c.as_slice-2.ensures
    (subst (λ (l : List ℕ). IsOrdered c.as_slice-2.result.now l c.in_ok-body.body) c.as_slice-3.ensures.value c.in_ok-body.ensures)

-- the levels are those of the atoms
are_levels : (c : In_ok-levels)
    → AreLevels c.in_ok-body.body c.in_ok-places.places.items [] (length c.in_ok-body.body) c.in_ok-levels.levels.items
are_levels c =
    subst (λ (l : List Place). AreLevels c.in_ok-body.body l [] (length c.in_ok-body.body) c.in_ok-levels.levels.items) c.as_slice-6.ensures.value
    (subst (λ (l : List Atom). AreLevels l c.as_slice-6.result.now [] (length l) c.in_ok-levels.levels.items) c.as_slice-5.ensures
    c.in_ok-levels.ensures.levels)

pub atoms_in-requires : goal.atoms_in-requires
atoms_in-requires c = λ place h.
    let body : List Atom = c.args.body.now in
    subst (λ (l : List Atom). place < length l) (sym c.as_slice-2.ensures)
    (order_below (length body) c.in_ok-order.order.items (is_order c).moved place
    (subst (λ (l : List ℕ). Contains l place) c.as_slice-3.ensures.value h))

pub first_places-requires : goal.first_places-requires
first_places-requires c = λ v l.
    subst (λ (atoms : List Atom). Contains (occurrences atoms) v) (sym c.as_slice-4.ensures)
    (occurs_in_order c.args.body.now c.in_ok-order.order.items (is_order (goal.at.first_places-requires c).After-as_slice-3).moved
    c.in_ok-body.body (in_order (goal.at.first_places-requires c).In_ok-body) v ((c.requires.vars v).1 l))

pub returns : goal.returns
returns c = record {
  order = is_order (goal.at.returns c).After-as_slice-3;
  atoms = in_order (goal.at.returns c).In_ok-body;
  places = subst (λ (l : List Atom). AreFirstPlaces l c.args.vars c.in_ok-places.places.items) c.as_slice-4.ensures c.in_ok-places.ensures;
  size = subst (λ (l : List Atom). length l ≤ length c.in_ok-levels.levels.items + 1) c.as_slice-5.ensures c.in_ok-levels.ensures.size;
  told = told_at c.in_ok-body.body c.in_ok-places.places.items [] c.in_ok-levels.levels.items
      (are_levels c);
}
