-- The matches that use a row: those of the plans, put back into the order of the body.
use Rattle.std.proofs.Common.{◌≡◌, ◌↔◌, ◌⊎◌, inl, inr, ⊎_elim, ℕ, ◌<◌, ◌≤◌, ◌+◌, Option, Some, List, [], ◌∷◌, ◌++◌, length, sym, ap, ◌∙◌, subst, arith, All, AllPairs, Contains}
use Rattle.std.specs.Prelude.{slice_get}
use Rattle.rule_core.specs.declared.rules.Arg.TheVariants.{Var}
use Rattle.rule_core.specs.declared.rules.Atom.{Atom}
use Rattle.rule_core.specs.Validity.{occurrences}
use Rattle.std.proofs.lemmas.Bool.{cases_lt}
use Rattle.std.proofs.lemmas.List.Elements.{Contains-append_cases, Contains-append_left, Contains-push}
use Rattle.rule_core.proofs.ListLemmas.{AllPairs-members_weaker, Contains-cons_cases, Contains-head, Contains-nil}
use Rattle.fact_table.specs.Rows.{SeenRow, cell_at}
use Rattle.body_match.specs.declared.found.Match.{Match}
use Rattle.body_match.specs.declared.plan.Plan.{Plan}
use Rattle.body_match.specs.Matches.{IsMatch, IsImageAt, HoldsAt, StandsBefore, seen_value}
use Rattle.body_match.specs.Search.{BeginsWith, IsListedFrom}
use Rattle.body_match.specs.Index.{Index}
use Rattle.body_match.specs.Plans.{IsBack, IsIndex, IsOrdered, IsPlan, task_in}
use Rattle.body_match.specs.Using.{AddsBack, AreAllInOrder, AreInOrder, AreOfPlans}
use Rattle.body_match.proofs.ListLemmas.{at_within, within_from_at, at_from_contains, contains_from_at, same_at_each, zip_at, zip_length}
use Rattle.body_match.proofs.PlaceLemmas.{atom_from_occurs}
use Rattle.body_match.proofs.EndsLemmas.{same_ends}
use Rattle.body_match.proofs.SearchLemmas.{same_some, image_cell}
use Rattle.body_match.proofs.PlanLemmas.{at_ordered, order_has, order_size, ordered_size, in_back, match_back, match_in_order}

-- the rows of a match settle it
module _ (body : List Atom) (vars : ℕ) (rows : List (Option SeenRow)) (occurring : (v : ℕ) → v < vars → Contains (occurrences body) v) where
  -- the value of a variable is a cell of one of the rows
  value_is : (a b : Match) → IsMatch body vars rows a → IsMatch body vars rows b → a.rows ≡ b.rows → (v : ℕ) → v < vars
      → slice_get a.binding v ≡ slice_get b.binding v
  value_is a b p q same v l =
      let there = atom_from_occurs body v (occurring v l) in
      let column = at_from_contains there.1.args (Var v) there.3 in
      let left = zip_at (IsImageAt rows (seen_value a.binding)) body a.rows p.images there.0 there.1 there.2 in
      let right = zip_at (IsImageAt rows (seen_value b.binding)) body b.rows q.images there.0 there.1 there.2 in
      let row : left.0 ≡ right.0 =
      same_some (slice_get b.rows there.0) left.0 right.0 (ap (λ (l : List ℕ). slice_get l there.0) (sym same) ∙ left.1) right.1 in
      let x = image_cell rows (seen_value a.binding) there.1 left.0 column.0 (Var v) left.2 column.1 in
      let y = image_cell rows (seen_value b.binding) there.1 right.0 column.0 (Var v) right.2 column.1 in
      x.2 ∙ sym x.1 ∙ ap (λ n. cell_at rows n column.0) row ∙ y.1 ∙ sym y.2

  pub same_match : (a b : Match) → IsMatch body vars rows a → IsMatch body vars rows b → a.rows ≡ b.rows → a ≡ b
  same_match a b p q same =
      let binding : a.binding ≡ b.binding = same_at_each a.binding b.binding (p.values ∙ sym q.values) (λ v x y e f.
      same_some (slice_get b.binding v) x y
      (sym (value_is a b p q same v (let l = within_from_at a.binding v x e in omega (arith, l, p.values))) ∙ e) f) in
      let span : a.span ≡ b.span = same_ends a.span b.span p.instant (λ t. (
        λ h. (q.common t).1 (subst (All (HoldsAt rows t)) same ((p.common t).0 h)),
        λ h. (p.common t).1 (subst (All (HoldsAt rows t)) (sym same) ((q.common t).0 h)),
      )) in
      λ i. record { rows = same i; binding = binding i; span = span i }

-- over one plan
module _ (index : Index) (rows : List (Option SeenRow)) (row first : ℕ) (plan : Plan) (ok : IsPlan index.body index.vars first plan) where
  abbrev order : List ℕ
  order = plan.order.items

  abbrev IsOne : Match → Type 0
  IsOne m = IsListedFrom (task_in plan rows) (row ∷ []) m

  whole_of : (found : Match) → IsOne found → IsMatch plan.body index.vars rows found
  whole_of found h = subst (λ n. IsMatch plan.body n rows found) ok.places.size h.0

  -- a match that is put back is one of the body, and uses the row
  pub match_of_plan : (found back : Match) → IsOne found → IsBack order found back → IsMatch index.body index.vars rows back
  match_of_plan found back h put =
      match_back index.body index.vars rows order ok.order.moved plan.body ok.atoms found back (whole_of found h) put.size put.rows put.binding
      put.span

  pub uses_row : (found back : Match) → IsOne found → IsBack order found back → Contains back.rows row
  uses_row found back h put =
      let there : Contains found.rows row = subst (λ l. Contains l row) (sym h.1.1) (Contains-head row h.1.0) in
      in_back index.body index.vars rows order ok.order.moved plan.body ok.atoms back.rows found.rows put.size put.rows row there

  -- and one of the body in which the row stands at the plan's first atom is one of the plan
  pub found_in_plan : (m : Match) → IsMatch index.body index.vars rows m → slice_get m.rows first ≡ Some row
      → (found : Match) × IsOne found × IsOrdered m.rows order found.rows × (found.binding ≡ m.binding)
  found_in_plan m whole at =
      let h = match_in_order index.body index.vars rows order ok.order.moved plan.body ok.atoms m whole in
      let found = h.0 in
      let sizes = ordered_size m.rows order found.rows h.2 in
      let head = at_within found.rows 0 (let l = within_from_at order 0 first ok.order.first in omega (arith, l, sizes)) in
      let is : head.0 ≡ row = same_some (slice_get m.rows first) head.0 row
      (at_ordered m.rows order found.rows h.2 0 first head.0 ok.order.first head.1) at in (
        found,
        (subst (λ n. IsMatch plan.body n rows found) (sym ok.places.size) h.1, begins found.rows (head.1 ∙ ap (λ x. Some x) is)),
        h.2,
        h.3,
      )
    where
      begins : (xs : List ℕ) → slice_get xs 0 ≡ Some row → BeginsWith (row ∷ []) xs
      begins [] e = absurd cc
      begins (x ∷ xs) e = let same : x ≡ row = cc in (xs, λ i. same i ∷ xs)

  -- put back it has the rows that it had
  pub rows_back : (m found back : Match) → IsMatch index.body index.vars rows m → IsOrdered m.rows order found.rows → IsBack order found back
      → back.rows ≡ m.rows
  rows_back m found back whole in_order put =
      let long : length index.body ≡ length m.rows = zip_length (IsImageAt rows (seen_value m.binding)) index.body m.rows whole.images in
      let size : length order ≡ length index.body = order_size (length index.body) order ok.order.moved in
      same_at_each back.rows m.rows (put.size ∙ size ∙ long) (λ place x y e f.
      let k = order_has (length index.body) order ok.order.moved place
      (let l = within_from_at m.rows place y f in omega (arith, l, long)) in
      let z = at_within found.rows k.0
      (let l = within_from_at order k.0 place k.1 in omega (arith, l, ordered_size m.rows order found.rows in_order)) in
      same_some (slice_get back.rows place) x z.0 e (at_ordered back.rows order found.rows put.rows k.0 place z.0 k.1 z.1)
      ∙ same_some (slice_get m.rows place) z.0 y (at_ordered m.rows order found.rows in_order k.0 place z.0 k.1 z.1) f)

-- over all plans
module _ (index : Index) (ok : IsIndex index) (rows : List (Option SeenRow)) (row : ℕ) (list : List Match)
    (are : AreAllInOrder index.plans rows row list) where
  is_match : (m : Match) → Contains list m → IsMatch index.body index.vars rows m × Contains m.rows row
  is_match m c =
      let h = are.each.only m c in
      let k = at_from_contains index.plans h.0 h.1 in
      let plan_ok = ok.each k.0 h.0 k.1 in
      let back = h.2 in (
        match_of_plan index rows row k.0 h.0 plan_ok back.0 m back.1 back.2,
        uses_row index rows row k.0 h.0 plan_ok back.0 m back.1 back.2,
      )

  one_match : (a b : Match) → IsMatch index.body index.vars rows a → IsMatch index.body index.vars rows b → a.rows ≡ b.rows → a ≡ b
  one_match = same_match index.body index.vars rows (λ v l. (ok.vars v).1 l)

  is_there : (m : Match) → IsMatch index.body index.vars rows m → Contains m.rows row → Contains list m
  is_there m whole uses =
      let a = at_from_contains m.rows row uses in
      let long : length index.body ≡ length m.rows = zip_length (IsImageAt rows (seen_value m.binding)) index.body m.rows whole.images in
      let below : a.0 < length index.plans = omega (arith, within_from_at m.rows a.0 row a.1, long, ok.size) in
      let plan = at_within index.plans a.0 below in
      let plan_ok = ok.each a.0 plan.0 plan.1 in
      let found = found_in_plan index rows row a.0 plan.0 plan_ok m whole a.1 in
      let back = are.each.all a.0 plan.0 below plan.1 found.0 found.1 in
      let same : back.0 ≡ m = one_match back.0 m (match_of_plan index rows row a.0 plan.0 plan_ok found.0 back.0 found.1 back.1) whole
      (rows_back index rows row a.0 plan.0 plan_ok m found.0 back.0 whole found.2 back.1) in
      subst (Contains list) same back.2

  -- the list has exactly the matches that use the row, in order
  pub each_used : (m : Match) → Contains list m ↔ (IsMatch index.body index.vars rows m × Contains m.rows row)
  each_used m = (is_match m, λ h. is_there m h.0 h.1)

  pub used_in_order : AllPairs StandsBefore list
  used_in_order = AllPairs-members_weaker AreInOrder StandsBefore list by_case are.order
    where
      by_case : (a b : Match) → Contains list a → Contains list b → AreInOrder a b → StandsBefore a b
      by_case a b c d (inl before) = before
      by_case a b c d (inr beside) = absurd (beside.1 (one_match a b (is_match a c).0 (is_match b d).0 beside.0))

-- matches that are put back one after the other

-- of those that are no longer left each is put back
pub record ArePutBack (order : List ℕ) (all left old new : List Match) : Type 0 where
  pub within : (m : Match) → Contains left m → Contains all m
  pub kept : (back : Match) → Contains old back → Contains new back
  pub done : (m : Match) → Contains all m → Contains left m ⊎ ((back : Match) × IsBack order m back × Contains new back)
  pub only : (back : Match) → Contains new back → Contains old back ⊎ ((m : Match) × Contains all m × IsBack order m back)

module _ (order : List ℕ) (all old : List Match) where
  pub none_put_back : ArePutBack order all all old old
  none_put_back = record {
    within = λ m c. c;
    kept = λ back c. c;
    done = λ m c. inl c;
    only = λ back c. inl c;
  }

  pub one_put_back : (left rest new more : List Match) (m back : Match) → left ≡ rest ++ m ∷ [] → more ≡ new ++ back ∷ []
      → IsBack order m back → ArePutBack order all left old new → ArePutBack order all rest old more
  one_put_back left rest new more m back popped pushed put h = record {
    within = λ x c. h.within x (into_left x c);
    kept = λ x c. into_more x (h.kept x c);
    done = λ x c. ⊎_elim
        (λ (d : Contains left x). ⊎_elim
        (λ (r : Contains rest x). inl r)
        (λ (last : Contains (m ∷ []) x). inr (
          back,
          subst (λ y. IsBack order y back) (one_only m x last) put,
          subst (λ l. Contains l back) (sym pushed) (Contains-push new back),
        ))
        (Contains-append_cases rest (m ∷ []) x (subst (λ l. Contains l x) popped d)))
        (λ (d : (b : Match) × IsBack order x b × Contains new b). inr (d.0, d.1, into_more d.0 d.2))
        (h.done x c);
    only = λ x c. ⊎_elim
        (λ (d : Contains new x). h.only x d)
        (λ (last : Contains (back ∷ []) x). inr (
          m,
          h.within m (subst (λ l. Contains l m) (sym popped) (Contains-push rest m)),
          subst (IsBack order m) (one_only back x last) put,
        ))
        (Contains-append_cases new (back ∷ []) x (subst (λ l. Contains l x) pushed c));
  }
    where
      into_left : (x : Match) → Contains rest x → Contains left x
      into_left x c = subst (λ l. Contains l x) (sym popped) (Contains-append_left rest (m ∷ []) x c)

      into_more : (x : Match) → Contains new x → Contains more x
      into_more x c = subst (λ l. Contains l x) (sym pushed) (Contains-append_left new (back ∷ []) x c)

      one_only : (a x : Match) → Contains (a ∷ []) x → a ≡ x
      one_only a x c = ⊎_elim (λ (e : a ≡ x). e) (λ (d : Contains [] x). absurd (Contains-nil x d)) (Contains-cons_cases a x [] c)

  pub all_put_back : (left new : List Match) → length left ≡ 0 → ArePutBack order all left old new → AddsBack order (Contains all) old new
  all_put_back left new empty h = record {
    kept = h.kept;
    all = λ m c. ⊎_elim
        (λ (d : Contains left m). absurd (omega (arith, d.1, empty)))
        (λ (d : (back : Match) × IsBack order m back × Contains new back). d)
        (h.done m c);
    only = h.only;
  }

-- so it is of what has the same
pub put_back_same : (order : List ℕ) (P Q : Match → Type 0) (old new : List Match) → ((m : Match) → P m ↔ Q m) → AddsBack order P old new
    → AddsBack order Q old new
put_back_same order P Q old new same h = record {
  kept = h.kept;
  all = λ m q. h.all m ((same m).1 q);
  only = λ back c. ⊎_elim
      (λ (d : Contains old back). inl d)
      (λ (d : (m : Match) × P m × IsBack order m back). inr (d.0, (same d.0).0 d.1, d.2))
      (h.only back c);
}

-- a list of what plans have, one plan after the other
module _ (plans : List Plan) (source : List (Option SeenRow)) (row : ℕ) where
  pub of_no_plan : AreOfPlans plans source row 0 []
  of_no_plan = record {
    only = λ back c. absurd (Contains-nil back c);
    all = λ k plan l. absurd (omega (arith, l));
  }

  pub of_one_plan : (at : ℕ) (plan : Plan) (old new : List Match) → slice_get plans at ≡ Some plan
      → AddsBack plan.order.items (IsListedFrom (task_in plan source) (row ∷ [])) old new → AreOfPlans plans source row at old
      → AreOfPlans plans source row (at + 1) new
  of_one_plan at plan old new here added h = record {
    only = λ back c. ⊎_elim
        (λ (d : Contains old back). h.only back d)
        (λ (d : (found : Match) × IsListedFrom (task_in plan source) (row ∷ []) found × IsBack plan.order.items found back).
        (plan, contains_from_at plans at plan here, d))
        (added.only back c);
    all = λ k other l e found so. ⊎_elim
        (λ (before : k < at). let d = h.all k other before e found so in (d.0, d.1, added.kept d.0 d.2))
        (λ (not : at ≤ k).
        let same : at ≡ k = omega (arith, l, not) in
        let is : plan ≡ other = same_some (slice_get plans at) plan other here (ap (slice_get plans) same ∙ e) in
        subst (λ (p : Plan). (back : Match) × IsBack p.order.items found back × Contains new back) is
        (added.all found (subst (λ (p : Plan). IsListedFrom (task_in p source) (row ∷ []) found) (sym is) so)))
        (cases_lt k at);
  }

  -- those of all plans, in another list with the same
  pub of_all_plans : (at : ℕ) (old new : List Match) → length plans ≤ at → ((m : Match) → Contains new m ↔ Contains old m)
      → AreOfPlans plans source row at old → AreOfPlans plans source row (length plans) new
  of_all_plans at old new done same h = record {
    only = λ back c. h.only back ((same back).0 c);
    all = λ k plan l e found so.
        let d = h.all k plan (omega (arith, l, done)) e found so in
        (d.0, d.1, (same d.0).1 d.2);
  }
