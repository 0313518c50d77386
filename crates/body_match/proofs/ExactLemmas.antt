-- The match that has given rows.
use Rattle.std.proofs.Common.{◌≡◌, ℕ, zero, suc, ◌+◌, ◌<◌, ◌≤◌, Option, Some, List, [], ◌∷◌, ◌++◌, length, take, drop, get_or, refl, sym, ap, ◌∙◌, subst, arith, append_assoc}
use Rattle.std.specs.Prelude.{slice_get}
use Rattle.std.proofs.lemmas.Option.{slice_get_past}
use Rattle.std.proofs.lemmas.List.{take_more, take-append-drop}
use Rattle.rule_core.specs.declared.rules.Arg.TheVariants.{Var}
use Rattle.fact_table.specs.Rows.{SeenRow}
use Rattle.body_match.specs.declared.found.Match.{Match}
use Rattle.body_match.specs.declared.plan.Plan.{Plan}
use Rattle.body_match.specs.Matches.{seen_value, IsImageAt, IsMatch}
use Rattle.body_match.specs.Search.{BeginsWith}
use Rattle.body_match.specs.Index.{Index, IsUnequalWith}
use Rattle.body_match.specs.Plans.{CanSearch, HasRows, IsBack, IsIndex, IsOrdered, IsPlan, IsUnequalIn}
use Rattle.body_match.specs.Unequal.{Differ}
use Rattle.body_match.proofs.ListLemmas.{at_within, within_from_at, contains_from_at, same_at_each, zip_length}
use Rattle.body_match.proofs.PlaceLemmas.{atom_from_occurs, occurs_from_atom}
use Rattle.body_match.proofs.SearchLemmas.{same_some}
use Rattle.body_match.proofs.PlanLemmas.{at_ordered, match_back, match_in_order, order_has, order_size, ordered_size}
use Rattle.body_match.proofs.UsingLemmas.{same_match}

-- what begins with a list begins with its first ones
pub begins_before : (rows list : List ℕ) (at d : ℕ) → at < length rows → BeginsWith rows list
    → BeginsWith (take at rows ++ get_or rows at d ∷ []) list
begins_before rows list at d within begins =
    let front : List ℕ = take at rows ++ get_or rows at d ∷ [] in
    let back : List ℕ = drop (at + 1) rows in
    let whole : rows ≡ front ++ back = sym (take-append-drop (at + 1) rows) ∙ ap (λ l. l ++ back) (take_more rows at d within) in
    (back ++ begins.0, begins.1 ∙ ap (λ l. l ++ begins.0) whole ∙ append_assoc front back begins.0)

-- lists in an order are the same where the lists are
pub ordered_same : (xs : List ℕ) (order ys zs : List ℕ) → IsOrdered xs order ys → IsOrdered xs order zs → ys ≡ zs
ordered_same xs order ys zs p q =
    let left = ordered_size xs order ys p in
    let right = ordered_size xs order zs q in
    same_at_each ys zs (left ∙ sym right) (λ k y z e f.
    let place = at_within order k (let l = within_from_at ys k y e in omega (arith, l, left)) in
    same_some (slice_get xs place.0) y z (at_ordered xs order ys p k place.0 y place.1 e) (at_ordered xs order zs q k place.0 z place.1 f))

-- the rows settle the match
pub one_has_rows : (plan : Plan) (rows : List (Option SeenRow)) (numbers : List ℕ) → CanSearch plan rows → (a b : Match)
    → HasRows plan rows numbers a → HasRows plan rows numbers b → a ≡ b
one_has_rows plan rows numbers can a b p q =
    same_match plan.body (length plan.places.items) rows
    (λ v l.
    let place = at_within plan.places.items v l in
    let first = (can.task.places.each v place.0 place.1).there in
    occurs_from_atom plan.body v place.0.atom first.0 first.1 (contains_from_at first.0.args place.0.column (Var v) first.2))
    a b p.match q.match (ordered_same numbers plan.order.items a.rows b.rows p.rows q.rows)

-- a match with different values and its rows
module _ (index : Index) (ok : IsIndex index) (rows : List (Option SeenRow)) (left right : ℕ) (numbers : List ℕ) where
  pub as_many : (m : Match) → IsUnequalWith index rows left right numbers m → length numbers ≡ length index.plans
  as_many m h =
      ap length (sym h.uses) ∙ sym (zip_length (IsImageAt rows (seen_value m.binding)) index.body m.rows h.match.images) ∙ sym ok.size

  -- where there is no atom there is no variable
  pub none_of_none : length index.plans ≡ 0 → (m : Match) → ¬ (IsUnequalWith index rows left right numbers m)
  none_of_none empty m h =
      let none : index.vars ≤ 0 = by_vars index.vars refl in
      h.unequal (slice_get_past m.binding left (let l = h.match.values in omega (arith, l, none))
      ∙ sym (slice_get_past m.binding right (let l = h.match.values in omega (arith, l, none))))
    where
      by_vars : (n : ℕ) → n ≡ index.vars → n ≤ 0
      by_vars zero e = omega arith
      by_vars (suc n) e =
          let there = atom_from_occurs index.body 0 ((ok.vars 0).1 (omega (arith, e))) in
          absurd (let l = within_from_at index.body there.0 there.1 there.2 in let size = ok.size in omega (arith, l, size, empty))

  module _ (first : ℕ) (plan : Plan) (here : slice_get index.plans first ≡ Some plan) where
    abbrev order : List ℕ
    order = plan.order.items

    plan_ok : IsPlan index.body index.vars first plan
    plan_ok = ok.each first plan here

    pub order_long : length order ≡ length index.plans
    order_long = order_size (length index.body) order plan_ok.order.moved ∙ sym ok.size

    -- a match of the plan that has the rows is put back to one of the body that has them
    rows_back : (found back : Match) → IsOrdered numbers order found.rows → IsBack order found back → length numbers ≡ length order
        → back.rows ≡ numbers
    rows_back found back in_order put long =
        same_at_each back.rows numbers (put.size ∙ sym long) (λ place x y e f.
        let k = order_has (length index.body) order plan_ok.order.moved place
        (let l = within_from_at numbers place y f in let size = order_size (length index.body) order plan_ok.order.moved in omega (arith, l, long, size)) in
        let z = at_within found.rows k.0
        (let l = within_from_at order k.0 place k.1 in omega (arith, l, ordered_size numbers order found.rows in_order)) in
        same_some (slice_get back.rows place) x z.0 e (at_ordered back.rows order found.rows put.rows k.0 place z.0 k.1 z.1)
        ∙ same_some (slice_get numbers place) z.0 y (at_ordered numbers order found.rows in_order k.0 place z.0 k.1 z.1) f)

    pub with_from_plan : length numbers ≡ length order → (m : Match) → IsUnequalIn plan rows numbers left right m
        → IsUnequalWith index rows left right numbers m
    with_from_plan long m h = record {
      match = match_back index.body index.vars rows order plan_ok.order.moved plan.body plan_ok.atoms h.ordered m
          (subst (λ n. IsMatch plan.body n rows h.ordered) plan_ok.places.size h.has.match) h.back.size h.back.rows h.back.binding h.back.span;
      uses = rows_back h.ordered m h.has.rows h.back long;
      unequal = subst (λ values. slice_get values left ≡ slice_get values right → ⊥) (sym h.back.binding) h.differ;
    }

    -- and where the plan has none there is none
    pub none_with : ((m : Match) → HasRows plan rows numbers m → ¬ (Differ left right m)) → (m : Match)
        → ¬ (IsUnequalWith index rows left right numbers m)
    none_with none m h =
        let found = match_in_order index.body index.vars rows order plan_ok.order.moved plan.body plan_ok.atoms m h.match in
        none found.0
        (record {
          match = subst (λ n. IsMatch plan.body n rows found.0) (sym plan_ok.places.size) found.1;
          rows = subst (λ l. IsOrdered l order found.0.rows) h.uses found.2;
        })
        (subst (λ values. slice_get values left ≡ slice_get values right → ⊥) (sym found.3) h.unequal)
