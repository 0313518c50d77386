-- What is held in a list is what is held at some places, and the rest.
use Rattle.std.proofs.Common.{◌≡◌, ◌≢◌, ⊎_elim, inl, inr, ℕ, zero, suc, ◌<◌, Option, Some, None, List, [], ◌∷◌, ◌++◌, set, refl, sym, ap, ◌∙◌, subst, arith, AllPairs, Contains, IsPermutation}
use Rattle.std.specs.List.{cons_option, filter_map}
use Rattle.std.specs.Option.{option_map}
use Rattle.std.proofs.lemmas.Bool.{cases_eq}
use Rattle.std.proofs.lemmas.List.Sorted.{IsPermutation-refl, IsPermutation-trans, IsPermutation-cons}
use Rattle.rule_core.proofs.ListLemmas.{Contains-nil, Contains-head, Contains-cons, Contains-cons_cases, Contains-from_map, AllPairs-head, AllPairs-tail}
use Rattle.null_store.proofs.ListLemmas.{held_at, held_map_all, held_place}
use Rattle.target_cut.proofs.CancelLemmas.{turned}

-- a choice by numbers
pub chosen_alike : {Y : Type 0} (g h : ℕ → Option Y) (ns : List ℕ) → ((n : ℕ) → Contains ns n → g n ≡ h n) → filter_map g ns ≡ filter_map h ns
chosen_alike g h [] same = refl
chosen_alike {Y} g h (n ∷ ns) same =
    let first = same n (Contains-head n ns) in
    let rest = chosen_alike g h ns (λ m c. same m (Contains-cons n m ns c)) in
    λ i. cons_option (first i) (rest i)

pub chosen_head : {Y : Type 0} (g : ℕ → Option Y) (n : ℕ) (ns : List ℕ) (y : Y) → g n ≡ Some y → filter_map g (n ∷ ns) ≡ y ∷ filter_map g ns
chosen_head {Y} g n ns y e = ap (λ (o : Option Y). cons_option o (filter_map g ns)) e

module _ {X : Type 0} where
  -- what stands at a place that is emptied, and at others
  emptied : (xs : List (Option X)) (n : ℕ) → held_at (set xs n None) n ≡ None
  emptied [] n = refl
  emptied (x ∷ xs) zero = refl
  emptied (x ∷ xs) (suc n) = emptied xs n

  kept : (xs : List (Option X)) (n j : ℕ) → j ≢ n → held_at (set xs n None) j ≡ held_at xs j
  kept [] n j h = refl
  kept (x ∷ xs) zero zero h = absurd (h refl)
  kept (x ∷ xs) zero (suc j) h = refl
  kept (x ∷ xs) (suc n) zero h = refl
  kept (x ∷ xs) (suc n) (suc j) h = kept xs n j (λ e. h (ap suc e))

  -- the list with these places empty
  abbrev pub rest_of : List (Option X) → List ℕ → List (Option X)
  rest_of xs [] = xs
  rest_of xs (n ∷ ns) = rest_of (set xs n None) ns

  -- what is held in it was held, at another place
  pub rest_held : (xs : List (Option X)) (ns : List ℕ) (n : ℕ) (x : X) → held_at (rest_of xs ns) n ≡ Some x
      → (held_at xs n ≡ Some x) × ¬ (Contains ns n)
  rest_held xs [] n x e = (e, Contains-nil n)
  rest_held xs (m ∷ ns) n x e =
      let later = rest_held (set xs m None) ns n x e in
      ⊎_elim
      (λ (same : n ≡ m). let none = ap (held_at (set xs m None)) same ∙ emptied xs m in absurd cc)
      (λ (differ : n ≢ m). (
        sym (kept xs m n differ) ∙ later.0,
        λ c. elim (Contains-cons_cases m n ns c) [
          | inl same ↦ differ (sym same)
          | inr d ↦ later.1 d
        ],
      ))
      (cases_eq n m)

  module _ {Y : Type 0} (f : X → Y) where
    -- what is held, as it is mapped
    abbrev held_in : List (Option X) → List Y
    held_in xs = filter_map (option_map f) xs

    abbrev chosen_in : List (Option X) → List ℕ → List Y
    chosen_in xs ns = filter_map (λ n. option_map f (held_at xs n)) ns

    take_one : (xs : List (Option X)) (n : ℕ) (x : X) → held_at xs n ≡ Some x → IsPermutation (f x ∷ held_in (set xs n None)) (held_in xs)
    take_one [] n x e = absurd cc
    take_one (None ∷ xs) zero x e = absurd cc
    take_one (Some y ∷ xs) zero x e =
        let same : y ≡ x = cc in
        subst (λ (z : X). IsPermutation (f z ∷ held_in xs) (f y ∷ held_in xs)) same (IsPermutation-refl (f y ∷ held_in xs))
    take_one (None ∷ xs) (suc n) x e = take_one xs n x e
    take_one (Some y ∷ xs) (suc n) x e = IsPermutation-trans _ _ _ (turned (f x) (f y) (held_in (set xs n None)))
        (IsPermutation-cons (f y) _ _ (take_one xs n x e))

    pub rest_apart : (xs : List (Option X)) (ns : List ℕ) → AllPairs (λ a b. a < b) ns
        → ((n : ℕ) → Contains ns n → (x : X) × (held_at xs n ≡ Some x)) → IsPermutation (chosen_in xs ns ++ held_in (rest_of xs ns)) (held_in xs)
    rest_apart xs [] up there = IsPermutation-refl (held_in xs)
    rest_apart xs (n ∷ ns) up there =
        let first = there n (Contains-head n ns) in
        let other : (m : ℕ) → Contains ns m → m ≢ n = λ m c e.
        let above = AllPairs-head (λ a b. a < b) n ns up m c in omega (arith, above, e) in
        let rest = rest_apart (set xs n None) ns (AllPairs-tail (λ a b. a < b) n ns up)
        (λ m c. let x = there m (Contains-cons n m ns c) in (x.0, kept xs n m (other m c) ∙ x.1)) in
        let same : chosen_in (set xs n None) ns ≡ chosen_in xs ns =
        chosen_alike (λ m. option_map f (held_at (set xs n None) m)) (λ m. option_map f (held_at xs m)) ns
        (λ m c. ap (option_map f) (kept xs n m (other m c))) in
        let head : chosen_in xs (n ∷ ns) ≡ f first.0 ∷ chosen_in xs ns =
        chosen_head (λ m. option_map f (held_at xs m)) n ns (f first.0) (ap (option_map f) first.1) in
        subst (λ (l : List Y). IsPermutation (l ++ held_in (rest_of (set xs n None) ns)) (held_in xs)) (sym head)
        (IsPermutation-trans _ _ _
        (IsPermutation-cons (f first.0) _ _ (subst (λ (l : List Y). IsPermutation (l ++ held_in (rest_of (set xs n None) ns)) (held_in (set xs n None))) same rest))
        (take_one xs n first.0 first.1))

    -- where something is held
    pub held_where : (xs : List (Option X)) (y : Y) → Contains (held_in xs) y → (n : ℕ) × (x : X) × (held_at xs n ≡ Some x) × (f x ≡ y)
    held_where xs y c =
        let from = Contains-from_map f (filter_map (λ (o : Option X). o) xs) y (subst (λ (l : List Y). Contains l y) (held_map_all f xs) c) in
        let at = held_place xs from.0 from.1 in
        (at.0, from.0, at.1, from.2)
