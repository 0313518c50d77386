-- The unknowns of tables as they are gathered, and once they are sorted.
use Rattle.std.proofs.Common.{◌≡◌, ◌↔◌, ◌∙◌, ℕ, ◌+◌, ◌<◌, ◌≤◌, true, List, [], ◌∷◌, ◌++◌, length, get_or, refl, sym, ap, subst, inl, inr, ⊎_elim, Any, Contains, arith}
use Rattle.std.specs.declared.cmp.Ordering.{Ordering}
use Rattle.std.specs.declared.cmp.Ordering.TheVariants.{Less, Equal, Greater}
use Rattle.std.specs.Ordering.{is_eq, eq_by_cmp}
use Rattle.std.specs.Cmp.{IsEquivalence}
use Rattle.std.specs.Prelude.{Bool, IsPermutation, IsSorted, AllPairs}
use Rattle.std.proofs.lemmas.Bool.{cases_lt}
use Rattle.std.proofs.lemmas.List.{get_or_default}
use Rattle.std.proofs.lemmas.List.Quantifiers.{all_pairs_push}
use Rattle.std.specs.List.{dedup}
use Rattle.std.proofs.lemmas.List.Kept.{Any-dedup, Contains-from_dedup, IsStrictlySortedBy-dedup}
use Rattle.std.proofs.lemmas.List.Sorted.{Contains-permutation, IsPermutation-sym}
use Rattle.std.proofs.lemmas.Map.Keys.{Less-from_sorted}
use Rattle.std.proofs.lemmas.List.Elements.{Contains-append_left, Contains-push, Contains-push_cases}
use Rattle.term_core.specs.declared.term.Term.{Term}
use Rattle.term_core.specs.declared.term.Term.TheVariants.{Null}
use Rattle.term_core.specs.declared.term.Unknown.{Unknown as HeldUnknown}
use Rattle.term_core.specs.Order.{unknown_cmp}
use Rattle.term_core.proofs.OrderLemmas.{unknown_cmp-total, unknown_cmp-IsAntisymmetric}
use Rattle.exchange_engine.specs.Grouped.{IsUnknownIn, AddsUnknowns}

-- nothing is added for an empty list
pub none_of : {X : Type 0} (Has : X → HeldUnknown → Type 0) (found : List HeldUnknown)
    → AddsUnknowns (λ u. Any (λ x. Has x u) []) found found
none_of Has found u = (inl, λ d. ⊎_elim (λ (c : Contains found u). c) (λ a. absurd (omega (arith, a.2))) d)

-- the unknowns of one thing more
pub more_of : {X : Type 0} (Has : X → HeldUnknown → Type 0) (xs : List X) (x : X) (a b c : List HeldUnknown)
    → AddsUnknowns (λ u. Any (λ y. Has y u) xs) a b → AddsUnknowns (Has x) b c → AddsUnknowns (λ u. Any (λ y. Has y u) (xs ++ x ∷ [])) a c
more_of {X} Has xs x a b c old new u = (
  λ d. ⊎_elim
      (λ (e : Contains b u). ⊎_elim (λ (f : Contains a u). inl f) (λ (f : Any (λ y. Has y u) xs). inr (before f)) ((old u).0 e))
      (λ (e : Has x u). let there = Contains-push xs x in inr (there.0, x, there.1, there.2, e))
      ((new u).0 d),
  λ d. (new u).1 (⊎_elim
      (λ (e : Contains a u). inl ((old u).1 (inl e)))
      (λ (e : Any (λ y. Has y u) (xs ++ x ∷ [])). ⊎_elim
      (λ (there : Contains xs e.1). inl ((old u).1 (inr (there.0, e.1, there.1, there.2, e.4))))
      (λ (same : x ≡ e.1). inr (subst (λ (y : X). Has y u) (sym same) e.4))
      (Contains-push_cases xs x e.1 (e.0, e.2, e.3)))
      d),
)
  where
    before : Any (λ y. Has y u) xs → Any (λ y. Has y u) (xs ++ x ∷ [])
    before f = let there = Contains-append_left xs (x ∷ []) f.1 (f.0, f.2, f.3) in (there.0, f.1, there.1, there.2, f.4)

-- the unknown of one term more
pub none_in : (found : List HeldUnknown) → AddsUnknowns (IsUnknownIn []) found found
none_in found u = (inl, λ d. ⊎_elim (λ (c : Contains found u). c) (λ a. absurd (omega (arith, a.1))) d)

pub more_in : (terms : List Term) (term : Term) (a b c : List HeldUnknown) → AddsUnknowns (IsUnknownIn terms) a b
    → AddsUnknowns (λ u. term ≡ Null u) b c → AddsUnknowns (IsUnknownIn (terms ++ term ∷ [])) a c
more_in terms term a b c old new u = (
  λ d. ⊎_elim
      (λ (e : Contains b u). ⊎_elim
      (λ (f : Contains a u). inl f)
      (λ (f : Contains terms (Null u)). inr (Contains-append_left terms (term ∷ []) (Null u) f))
      ((old u).0 e))
      (λ (e : term ≡ Null u). inr (subst (Contains (terms ++ term ∷ [])) e (Contains-push terms term)))
      ((new u).0 d),
  λ d. (new u).1 (⊎_elim
      (λ (e : Contains a u). inl ((old u).1 (inl e)))
      (λ (e : Contains (terms ++ term ∷ []) (Null u)). ⊎_elim
      (λ (there : Contains terms (Null u)). inl ((old u).1 (inr there)))
      (λ (same : term ≡ Null u). inr same)
      (Contains-push_cases terms term (Null u) e))
      d),
)

-- terms that are one unknown have one
pub same_unknown : (u w : HeldUnknown) → Null u ≡ Null w → u ≡ w
same_unknown u w e = cc

eq_equal : (r : Ordering) → is_eq r ≡ true → r ≡ Equal
eq_equal Less e = absurd cc
eq_equal Equal e = refl
eq_equal Greater e = absurd cc

-- unknowns in order, each once
module _ (E : HeldUnknown → HeldUnknown → Bool) (equivalence : IsEquivalence E)
    (ties : (x y : HeldUnknown) → E x y ≡ eq_by_cmp unknown_cmp x y) where
  pub sorted_same : (gathered sorted : List HeldUnknown) → IsPermutation gathered sorted → (u : HeldUnknown)
      → Contains (dedup E sorted) u ↔ Contains gathered u
  sorted_same gathered sorted moved u = (
    λ d. Contains-permutation _ _ u (IsPermutation-sym _ _ moved) (Contains-from_dedup E sorted u d),
    λ k.
        let kept = Any-dedup equivalence sorted u (Contains-permutation _ _ u moved k) in
        let same : u ≡ kept.1 = unknown_cmp-IsAntisymmetric u kept.1 (eq_equal _ (sym (ties u kept.1) ∙ kept.4)) in
        subst (Contains (dedup E sorted)) (sym same) (kept.0, kept.2, kept.3),
  )

  pub sorted_ascending : (sorted : List HeldUnknown) → IsSorted unknown_cmp sorted → AllPairs (λ u w. unknown_cmp u w ≡ Less) (dedup E sorted)
  sorted_ascending sorted order i j d before within =
      Less-from_sorted unknown_cmp (dedup E sorted) i j d (IsStrictlySortedBy-dedup unknown_cmp-total ties sorted order) before within

-- one more unknown, behind the last one
pub ascending_more : (unknowns : List HeldUnknown) (last unknown : HeldUnknown) (k : ℕ) → length unknowns ≡ k + 1
    → get_or unknowns k last ≡ last → unknown_cmp last unknown ≡ Less → AllPairs (λ u w. unknown_cmp u w ≡ Less) unknowns
    → AllPairs (λ u w. unknown_cmp u w ≡ Less) (unknowns ++ unknown ∷ [])
ascending_more unknowns last unknown k size is less order =
    all_pairs_push (λ u w. unknown_cmp u w ≡ Less) unknowns unknown order
    (λ i d within. ⊎_elim
    (λ (before : i < k).
    unknown_cmp-total.trans (get_or unknowns i d) last unknown
    (subst (λ u. unknown_cmp (get_or unknowns i d) u ≡ Less) (here k d refl) (order i k d before (omega (arith, size)))) less)
    (λ (behind : k ≤ i). subst (λ u. unknown_cmp u unknown ≡ Less) (sym (here i d (omega (arith, behind, within, size)))) less)
    (cases_lt i k))
  where
    here : (i : ℕ) (d : HeldUnknown) → i ≡ k → get_or unknowns i d ≡ last
    here i d e = ap (λ n. get_or unknowns n d) e ∙ get_or_default unknowns k d last (omega (arith, size)) ∙ is
