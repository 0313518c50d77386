-- The search for matches with two different values.
use Rattle.std.proofs.Common.{◌≡◌, ◌⊎◌, inl, inr, ⊎_elim, ℕ, ◌+◌, ◌<◌, ◌≤◌, Option, Some, None, Bool, true, false, List, [], ◌∷◌, ◌++◌, length, refl, sym, ap, ◌∙◌, subst, arith, Contains}
use Rattle.std.specs.Prelude.{slice_get, IfSome, IfNone}
use Rattle.std.proofs.lemmas.Bool.{cases_lt}
use Rattle.std.proofs.lemmas.List.{length_push}
use Rattle.std.proofs.lemmas.List.Elements.{Contains-append_cases}
use Rattle.rule_core.proofs.ListLemmas.{Contains-head, Contains-cons, Contains-cons_cases, Contains-nil}
use Rattle.fact_table.specs.Rows.{SeenRow}
use Rattle.body_match.specs.declared.found.Match.{Match}
use Rattle.body_match.specs.declared.plan.Plan.{Plan}
use Rattle.body_match.specs.declared.unequal.Unequal.{Unequal}
use Rattle.body_match.specs.Visits.{TakesInTurn}
use Rattle.body_match.specs.Search.{IsListedFrom, Gives}
use Rattle.body_match.specs.Unequal.{Differ, Meets}
use Rattle.body_match.specs.Using.{AddsBack}
use Rattle.body_match.specs.Index.{Index, IsUnequal}
use Rattle.body_match.specs.Plans.{IsBack, IsPlan, IsIndex, IsPutBack, HasNone, HaveNone, task_in}
use Rattle.body_match.proofs.ListLemmas.{at_from_contains, contains_from_at}
use Rattle.body_match.proofs.SearchLemmas.{same_some}
use Rattle.body_match.proofs.UsingLemmas.{match_of_plan, uses_row}

-- a list with nothing in it is empty
pub nil_from_none : {X : Type 0} (xs : List X) → ((x : X) → Contains xs x → ⊥) → xs ≡ []
nil_from_none [] none = refl
nil_from_none (x ∷ xs) none = absurd (none x (Contains-head x xs))

-- what is kept of a list of matches that are met in turn: some with different values, and none only where all values are equal
pub record KeepsOf (list : List Match) (left right : ℕ) (old new : List Match) : Type 0 where
  pub each : (m : Match) → Contains new m → Contains old m ⊎ (Contains list m × Differ left right m)
  pub none : new ≡ [] → (old ≡ []) × ((m : Match) → Contains list m → slice_get m.binding left ≡ slice_get m.binding right)

keeps_one : (next : Match) (list : List Match) (left right : ℕ) (old between new : List Match)
    → (Differ left right next × (between ≡ old ++ next ∷ []))
    ⊎ ((slice_get next.binding left ≡ slice_get next.binding right) × (between ≡ old))
    → KeepsOf list left right between new → KeepsOf (next ∷ list) left right old new
keeps_one next list left right old between new (inl differs) rest = record {
  each = λ m c. ⊎_elim
      (λ (d : Contains between m). ⊎_elim
      (λ (x : Contains old m). inl x)
      (λ (x : Contains (next ∷ []) m).
      let same : next ≡ m = ⊎_elim (λ (e : next ≡ m). e) (λ (n : Contains [] m). absurd (Contains-nil m n)) (Contains-cons_cases next m [] x) in
      inr (subst (Contains (next ∷ list)) same (Contains-head next list), subst (Differ left right) same differs.0))
      (Contains-append_cases old (next ∷ []) m (subst (λ l. Contains l m) differs.1 d)))
      (λ (d : Contains list m × Differ left right m). inr (Contains-cons next m list d.0, d.1))
      (rest.each m c);
  none = λ e.
      let longer = ap (λ (l : List Match). length l) differs.1 ∙ length_push old next in
      let empty = ap (λ (l : List Match). length l) (rest.none e).0 in
      absurd (omega (arith, longer, empty));
}
keeps_one next list left right old between new (inr equal) rest = record {
  each = λ m c. ⊎_elim
      (λ (d : Contains between m). inl (subst (λ l. Contains l m) equal.1 d))
      (λ (d : Contains list m × Differ left right m). inr (Contains-cons next m list d.0, d.1))
      (rest.each m c);
  none = λ e. (
    sym equal.1 ∙ (rest.none e).0,
    λ m c. ⊎_elim
        (λ (same : next ≡ m). subst (λ (x : Match). slice_get x.binding left ≡ slice_get x.binding right) same equal.0)
        (λ (d : Contains list m). (rest.none e).1 m d)
        (Contains-cons_cases next m list c),
  );
}

meets_in_turn : (list : List Match) (left right : ℕ) (old new : Unequal) → old.left ≡ left → old.right ≡ right
    → TakesInTurn Meets old list new → KeepsOf list left right old.list.items new.list.items
meets_in_turn [] left right old new l r same = record {
  each = λ m c. inl (subst (λ (u : Unequal). Contains u.list.items m) (sym same) c);
  none = λ e. (ap (λ (u : Unequal). u.list.items) same ∙ e, λ m c. absurd (Contains-nil m c));
}
meets_in_turn (next ∷ list) left right old new l r took =
    let between : Unequal = took.0 in
    let one : (Differ left right next × (between.list.items ≡ old.list.items ++ next ∷ []))
    ⊎ ((slice_get next.binding left ≡ slice_get next.binding right) × (between.list.items ≡ old.list.items)) =
    subst (λ n. (Differ left n next × (between.list.items ≡ old.list.items ++ next ∷ []))
    ⊎ ((slice_get next.binding left ≡ slice_get next.binding n) × (between.list.items ≡ old.list.items))) r
    (subst (λ n. (Differ n old.right next × (between.list.items ≡ old.list.items ++ next ∷ []))
    ⊎ ((slice_get next.binding n ≡ slice_get next.binding old.right) × (between.list.items ≡ old.list.items))) l took.1.list) in
    keeps_one next list left right old.list.items between.list.items new.list.items one
    (meets_in_turn list left right between new (took.1.left ∙ l) (took.1.right ∙ r) took.2)

module _ (IsSo CanFind : Match → Type 0) (left right : ℕ) (old new : Unequal) (l : old.left ≡ left) (r : old.right ≡ right)
    (empty : old.list.items ≡ []) (more : Bool) (given : Gives Meets IsSo CanFind old new more) where
  kept : KeepsOf given.list left right old.list.items new.list.items
  kept = meets_in_turn given.list left right old new l r given.taken

  -- what is kept are some of those, with different values
  pub each_kept : (m : Match) → Contains new.list.items m → IsSo m × Differ left right m
  each_kept m c = ⊎_elim
      (λ (d : Contains old.list.items m). absurd (Contains-nil m (subst (λ l. Contains l m) empty d)))
      (λ (d : Contains given.list m × Differ left right m). (given.first.each m d.0, d.1))
      (kept.each m c)

  -- and where none is kept there is none that can be found
  pub none_kept : (more ≡ false → 1 ≤ length new.list.items) → new.list.items ≡ [] → (m : Match) → IsSo m → CanFind m
      → ¬ (Differ left right m)
  none_kept stops none m so can differ = by_more more refl
    where
      by_more : (b : Bool) → more ≡ b → ⊥
      by_more false e = let some = stops e in let no = ap (λ (l : List Match). length l) none in omega (arith, some, no)
      by_more true e = differ ((kept.none none).1 m (given.whole e m so can))

-- by the case of what is there
pub some_weaker : {X : Type 0} (P Q : X → Type 0) → ((x : X) → P x → Q x) → (o : Option X) → IfSome o P → IfSome o Q
some_weaker P Q f None h = tt
some_weaker P Q f (Some x) h = f x h

pub none_weaker : {X : Type 0} (P Q : Type 0) → (P → Q) → (o : Option X) → IfNone o P → IfNone o Q
none_weaker P Q f None h = f h
none_weaker P Q f (Some x) h = tt

-- those of a plan that are put back to a list
module _ (plan : Plan) (rows : List (Option SeenRow)) (row left right : ℕ) (found old new : List Match)
    (added : AddsBack plan.order.items (Contains found) old new) where
  pub each_added : ((m : Match) → Contains found m → IsListedFrom (task_in plan rows) (row ∷ []) m × Differ left right m)
      → (m : Match) → Contains new m → Contains old m ⊎ IsPutBack plan rows row left right m
  each_added are m c = ⊎_elim
      (λ (d : Contains old m). inl d)
      (λ (d : (x : Match) × Contains found x × IsBack plan.order.items x m).
      let h = are d.0 d.1 in
      inr (record { ordered = d.0; listed = h.0; back = d.2; differ = h.1 }))
      (added.only m c)

  pub none_added : (found ≡ [] → HasNone plan rows row left right) → new ≡ [] → (old ≡ []) × HasNone plan rows row left right
  none_added none e = (
    nil_from_none old (λ m c. Contains-nil m (subst (λ l. Contains l m) e (added.kept m c))),
    none (nil_from_none found (λ m c. let back = added.all m c in Contains-nil back.0 (subst (λ l. Contains l back.0) e back.2))),
  )

-- the list has some of the first plans, and none only where they have none
pub record AreUnequal (plans : List Plan) (rows : List (Option SeenRow)) (row left right first : ℕ) (list : List Match) : Type 0 where
  pub each : (m : Match) → Contains list m → (plan : Plan) × Contains plans plan × IsPutBack plan rows row left right m
  pub none : list ≡ [] → HaveNone plans rows row left right first

module _ (plans : List Plan) (rows : List (Option SeenRow)) (row left right : ℕ) where
  pub unequal_of_none : AreUnequal plans rows row left right 0 []
  unequal_of_none = record {
    each = λ m c. absurd (Contains-nil m c);
    none = λ e k plan l. absurd (omega (arith, l));
  }

  pub unequal_of_more : (at : ℕ) (plan : Plan) (old new : List Match) → slice_get plans at ≡ Some plan
      → ((m : Match) → Contains new m → Contains old m ⊎ IsPutBack plan rows row left right m)
      → (new ≡ [] → (old ≡ []) × HasNone plan rows row left right)
      → AreUnequal plans rows row left right at old → AreUnequal plans rows row left right (at + 1) new
  unequal_of_more at plan old new here each none h = record {
    each = λ m c. ⊎_elim
        (λ (d : Contains old m). h.each m d)
        (λ (d : IsPutBack plan rows row left right m). (plan, contains_from_at plans at plan here, d))
        (each m c);
    none = λ e k other l f. ⊎_elim
        (λ (before : k < at). h.none (none e).0 k other before f)
        (λ (not : at ≤ k).
        let same : at ≡ k = omega (arith, l, not) in
        let is : plan ≡ other = same_some (slice_get plans at) plan other here (ap (slice_get plans) same ∙ f) in
        subst (λ (p : Plan). HasNone p rows row left right) is (none e).1)
        (cases_lt k at);
  }

-- over one plan
module _ (index : Index) (rows : List (Option SeenRow)) (row left right : ℕ) (first : ℕ) (plan : Plan)
    (ok : IsPlan index.body index.vars first plan) where
  -- a match that is put back is one of the body
  pub unequal_from_put_back : (found : Match) → IsPutBack plan rows row left right found → IsUnequal index rows row left right found
  unequal_from_put_back found h = record {
    match = match_of_plan index rows row first plan ok h.ordered found h.listed h.back;
    uses = uses_row index rows row first plan ok h.ordered found h.listed h.back;
    unequal = subst (λ values. slice_get values left ≡ slice_get values right → ⊥) (sym h.back.binding) h.differ;
  }

-- over all plans
module _ (index : Index) (ok : IsIndex index) (rows : List (Option SeenRow)) (row left right : ℕ) where
  pub unequal_of_plan : (found : Match) → (plan : Plan) × Contains index.plans plan × IsPutBack plan rows row left right found
      → IsUnequal index rows row left right found
  unequal_of_plan found h =
      let k = at_from_contains index.plans h.0 h.1 in
      unequal_from_put_back index rows row left right k.0 h.0 (ok.each k.0 h.0 k.1) found h.2
