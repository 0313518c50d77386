-- The place of a value among ascending ones is the number of those that stand before it.
use Rattle.std.proofs.Common.{◌≡◌, ℕ, zero, suc, ◌+◌, ◌<◌, ◌≤◌, Bool, true, false, cond, List, [], ◌∷◌, length, get_or, count_by, AllPairs, Contains, refl, sym, ap, ◌∙◌, subst, inl, inr, arith, one-add, ⊎_elim}
use Rattle.std.specs.declared.cmp.Ordering.{Ordering}
use Rattle.std.specs.declared.cmp.Ordering.TheVariants.{Less, Equal, Greater}
use Rattle.std.specs.Ordering.{nat_cmp, is_lt, ordering_reverse}
use Rattle.std.specs.Cmp.{IsTotalOrder}
use Rattle.std.specs.List.Sorted.{IsPartitionedBy, IsPartitionPoint}
use Rattle.std.proofs.lemmas.Bool.{cases_lt}
use Rattle.std.proofs.lemmas.Bool.Decides.{nat_tests}
use Rattle.std.proofs.lemmas.Cmp.{tied_itself}
use Rattle.std.proofs.lemmas.List.Sums.{sum_by-cons}
use Rattle.rule_core.proofs.ListLemmas.{Contains-nil, Contains-head, Contains-cons, Contains-cons_cases, AllPairs-head, AllPairs-tail}

-- a list in strict order

nat_cmp-less : (i j : ℕ) → i < j → nat_cmp i j ≡ Less
nat_cmp-less i j h = grind (arith, nat_tests)

nat_cmp-greater : (i j : ℕ) → j < i → nat_cmp i j ≡ Greater
nat_cmp-greater i j h = grind (arith, nat_tests)

nat_cmp-same : (i j : ℕ) → i ≡ j → nat_cmp i j ≡ Equal
nat_cmp-same i j h = grind (arith, nat_tests)

nat_cmp-more : (i j : ℕ) → nat_cmp (i + 1) (j + 1) ≡ nat_cmp i j
nat_cmp-more i j = grind (arith, nat_tests)

-- each stands before all later ones
abbrev IsStrict : {X : Type 0} → (X → X → Ordering) → List X → Type 0
IsStrict R xs = AllPairs (λ a b. R a b ≡ Less) xs

module _ {X : Type 0} (R : X → X → Ordering) (o : IsTotalOrder R) where
  -- what stands after is greater
  greater : (x y : X) → R x y ≡ Less → R y x ≡ Greater
  greater x y l = o.antisymm y x ∙ ap ordering_reverse l

  -- members compare as their places do
  pub places_cmp : (xs : List X) → IsStrict R xs → (i j : ℕ) (d : X) → i < length xs → j < length xs
      → R (get_or xs i d) (get_or xs j d) ≡ nat_cmp i j
  places_cmp xs strict i j d h l = ⊎_elim
      (λ (less : i < j). strict i j d less l ∙ sym (nat_cmp-less i j less))
      (λ (upto : j ≤ i). ⊎_elim
      (λ (more : j < i). greater (get_or xs j d) (get_or xs i d) (strict j i d more h) ∙ sym (nat_cmp-greater i j more))
      (λ (back : i ≤ j).
      let same : i ≡ j = omega arith in
      ap (λ k. R (get_or xs i d) (get_or xs k d)) (sym same) ∙ tied_itself o (get_or xs i d) ∙ sym (nat_cmp-same i j same))
      (cases_lt j i))
      (cases_lt i j)

  -- how many members stand before
  abbrev pub count_before : List X → X → ℕ
  count_before xs x = count_by (λ w. is_lt (R w x)) xs

  -- one member more
  count_before-cons : (y : X) (ys : List X) (x : X) → count_before (y ∷ ys) x ≡ cond (is_lt (R y x)) 1 0 + count_before ys x
  count_before-cons y ys x = sum_by-cons (λ w. cond (is_lt (R w x)) 1 0) y ys

  -- none stands before one that all others stand after
  none_before : (xs : List X) (x : X) → ((y : X) → Contains xs y → R x y ≡ Less) → count_before xs x ≡ 0
  none_before [] x after = refl
  none_before (y ∷ ys) x after =
      count_before-cons y ys x
      ∙ (λ i. cond (is_lt (greater x y (after y (Contains-head y ys)) i)) 1 0
      + none_before ys x (λ z c. after z (Contains-cons y z ys c)) i)

  -- a member stands at the place that so many before it give
  abbrev IsAt : List X → X → ℕ → Type 0
  IsAt xs x n = (n < length xs) × ((d : X) → get_or xs n d ≡ x)

  pub count_is_place : (xs : List X) → IsStrict R xs → (x : X) → Contains xs x → IsAt xs x (count_before xs x)
  count_is_place [] strict x c = absurd (Contains-nil x c)
  count_is_place (y ∷ ys) strict x c = elim (Contains-cons_cases y x ys c) [
    | inl e ↦
        let none : count_before (y ∷ ys) y ≡ 0 =
        count_before-cons y ys y
        ∙ (λ i. cond (is_lt (tied_itself o y i)) 1 0 + none_before ys y (AllPairs-head (λ a b. R a b ≡ Less) y ys strict) i) in
        let first : IsAt (y ∷ ys) y 0 = (omega arith, λ d. refl) in
        subst (λ z. IsAt (y ∷ ys) z (count_before (y ∷ ys) z)) e (subst (IsAt (y ∷ ys) y) (sym none) first)
    | inr later ↦
        let before = AllPairs-head (λ a b. R a b ≡ Less) y ys strict x later in
        let rest = count_is_place ys (AllPairs-tail (λ a b. R a b ≡ Less) y ys strict) x later in
        let one : count_before (y ∷ ys) x ≡ suc (count_before ys x) =
        count_before-cons y ys x ∙ (λ i. cond (is_lt (before i)) 1 0 + count_before ys x) ∙ one-add (count_before ys x) in
        let next : IsAt (y ∷ ys) x (suc (count_before ys x)) = (omega (arith, rest.0), rest.1) in
        subst (IsAt (y ∷ ys) x) (sym one) next
  ]

-- those before a value, and the point that divides them from the others

lt_less : (r : Ordering) → is_lt r ≡ true → r ≡ Less
lt_less Less e = refl
lt_less Equal e = absurd cc
lt_less Greater e = absurd cc

-- of ascending values, those before a value stand first
pub lesser_stand_first : {X : Type 0} (cmp : X → X → Ordering) → IsTotalOrder cmp → (xs : List X) (u : X)
    → AllPairs (λ a b. cmp a b ≡ Less) xs → IsPartitionedBy (λ w. is_lt (cmp w u)) xs
lesser_stand_first cmp total xs u ascending i j d le within e = ⊎_elim
    (λ (before : i < j). ap is_lt (total.trans (get_or xs i d) (get_or xs j d) u (ascending i j d before within) (lt_less _ e)))
    (λ (after : j ≤ i). let same : j ≡ i = omega (arith, after, le) in subst (λ k. is_lt (cmp (get_or xs k d) u) ≡ true) same e)
    (cases_lt i j)

-- where those that pass stand first, as many pass as stand before the first that does not
pub count_is_point : {X : Type 0} (p : X → Bool) (xs : List X) (i : ℕ) → i ≤ length xs
    → IsPartitionPoint (λ x. p x ≡ true) (λ x. p x ≡ false) xs i → count_by p xs ≡ i
count_is_point p [] i within point = omega arith
count_is_point p (x ∷ xs) zero within point =
    let here : p x ≡ false = point.1 0 x (omega arith) (omega arith) in
    let rest : count_by p xs ≡ 0 =
    count_is_point p xs zero (omega arith)
    (λ k d low high. absurd (omega arith), λ k d low high. point.1 (suc k) d (omega arith) (omega arith)) in
    sum_by-cons (λ y. cond (p y) 1 0) x xs ∙ (λ i. cond (here i) 1 0 + rest i)
count_is_point p (x ∷ xs) (suc i) within point =
    let here : p x ≡ true = point.0 0 x (omega arith) (omega arith) in
    let rest : count_by p xs ≡ i =
    count_is_point p xs i (omega arith) (
      λ k d low high. point.0 (suc k) d (omega arith) (omega arith),
      λ k d low high. point.1 (suc k) d (omega arith) (omega arith),
    ) in
    let step : count_by p (x ∷ xs) ≡ 1 + i = sum_by-cons (λ y. cond (p y) 1 0) x xs ∙ (λ j. cond (here j) 1 0 + rest j) in
    omega (arith, step)
