-- What is left of two lists that are the same up to order, when the same is taken from both.
use Rattle.std.proofs.Common.{◌≡◌, ◌≢◌, ⊎_elim, ℕ, zero, suc, ◌<◌, List, [], ◌∷◌, ◌++◌, length, get_or, set, refl, sym, ap, ◌∙◌, subst, arith, IsPermutation}
use Rattle.std.specs.List.{swap}
use Rattle.std.proofs.lemmas.List.Edits.{swap_is}
use Rattle.std.proofs.lemmas.Bool.{cases_eq}
use Rattle.std.proofs.lemmas.List.{length-set, get_or-set_same, get_or-set_other}
use Rattle.std.proofs.lemmas.List.Sorted.{IsPermutation-refl, IsPermutation-sym, IsPermutation-trans, IsPermutation-cons, IsPermutation-swap, IsPermutation-keeps, IsPermutation-append_left, IsPermutation-append_comm}

-- a list without what stands at a place
abbrev without : {X : Type 0} → List X → ℕ → List X
without [] k = []
without (x ∷ xs) zero = xs
without (x ∷ xs) (suc k) = x ∷ without xs k

pub turned : {X : Type 0} (a b : X) (l : List X) → IsPermutation (a ∷ b ∷ l) (b ∷ a ∷ l)
turned a b l = IsPermutation-append_left l (a ∷ b ∷ []) (b ∷ a ∷ []) (IsPermutation-append_comm (a ∷ []) (b ∷ []))

module _ {X : Type 0} where
  -- what stands at a place, and what is put there
  own : (xs : List X) (k : ℕ) (d : X) → k < length xs → IsPermutation xs (get_or xs k d ∷ without xs k)
  own [] k d l = absurd (omega arith)
  own (x ∷ xs) zero d l = IsPermutation-refl (x ∷ xs)
  own (x ∷ xs) (suc k) d l = IsPermutation-trans _ _ _ (IsPermutation-cons x _ _ (own xs k d (omega arith))) (turned x (get_or xs k d) (without xs k))

  put : (xs : List X) (k : ℕ) (v : X) → k < length xs → IsPermutation (set xs k v) (v ∷ without xs k)
  put [] k v l = absurd (omega arith)
  put (x ∷ xs) zero v l = IsPermutation-refl (v ∷ xs)
  put (x ∷ xs) (suc k) v l = IsPermutation-trans _ _ _ (IsPermutation-cons x _ _ (put xs k v (omega arith))) (turned x v (without xs k))

  without_set : (xs : List X) (k : ℕ) (v : X) → without (set xs k v) k ≡ without xs k
  without_set [] k v = refl
  without_set (x ∷ xs) zero v = refl
  without_set (x ∷ xs) (suc k) v = ap (λ l. x ∷ l) (without_set xs k v)

  -- one element for another
  replaced : (xs : List X) (j : ℕ) (v d : X) → j < length xs → IsPermutation (get_or xs j d ∷ set xs j v) (v ∷ xs)
  replaced xs j v d l = IsPermutation-trans _ _ _ (IsPermutation-cons (get_or xs j d) _ _ (put xs j v l))
      (IsPermutation-trans _ _ _ (turned (get_or xs j d) v (without xs j)) (IsPermutation-cons v _ _ (IsPermutation-sym _ _ (own xs j d l))))

  replaced_without : (xs : List X) (j k : ℕ) (v d : X) → j < length xs → k < length xs → j ≢ k
      → IsPermutation (get_or xs j d ∷ without (set xs j v) k) (v ∷ without xs k)
  replaced_without [] j k v d l m differ = absurd (omega arith)
  replaced_without (x ∷ xs) zero zero v d l m differ = absurd (differ refl)
  replaced_without (x ∷ xs) zero (suc k) v d l m differ = turned x v (without xs k)
  replaced_without (x ∷ xs) (suc j) zero v d l m differ = replaced xs j v d (omega arith)
  replaced_without (x ∷ xs) (suc j) (suc k) v d l m differ =
      let rest = replaced_without xs j k v d (omega arith) (omega arith) (λ e. differ (ap suc e)) in
      IsPermutation-trans _ _ _ (turned (get_or xs j d) x (without (set xs j v) k))
      (IsPermutation-trans _ _ _ (IsPermutation-cons x _ _ rest) (turned x v (without xs k)))

  -- two elements in each other's place
  abbrev exchanged : List X → ℕ → ℕ → X → List X
  exchanged l i j d = set (set l i (get_or l j d)) j (get_or l i d)

  -- what stands at a place of them stood at a place before, and the rest is the same
  record CameFrom (l now : List X) (k : ℕ) (d : X) : Type 0 where
    place : ℕ
    within : place < length l
    same : get_or l place d ≡ get_or now k d
    rest : IsPermutation (without l place) (without now k)

  front : (y : X) (l : List X) (j k : ℕ) (d : X) → j < length l → k < length (y ∷ l) → CameFrom (y ∷ l) (get_or l j d ∷ set l j y) k d
  front y l j zero d lj lk = record { place = suc j; within = omega arith; same = refl; rest = IsPermutation-sym _ _ (put l j y lj) }
  front y l j (suc k) d lj lk = ⊎_elim
      (λ (e : j ≡ k). record {
        place = 0;
        within = omega arith;
        same = sym (ap (λ n. get_or (set l j y) n d) (sym e) ∙ get_or-set_same l j y d lj);
        rest = subst (λ w. IsPermutation l (get_or l j d ∷ w)) (sym (ap (without (set l j y)) (sym e) ∙ without_set l j y)) (own l j d lj);
      })
      (λ (n : j ≢ k). record {
        place = suc k;
        within = lk;
        same = sym (get_or-set_other l j k y d (λ e. n (sym e)));
        rest = IsPermutation-sym _ _ (replaced_without l j k y d lj (omega arith) n);
      })
      (cases_eq j k)

  came_from : (l : List X) (i j k : ℕ) (d : X) → i < length l → j < length l → k < length l → CameFrom l (exchanged l i j d) k d
  came_from [] i j k d li lj lk = absurd (omega arith)
  came_from (y ∷ l) zero zero k d li lj lk = record { place = k; within = lk; same = refl; rest = IsPermutation-refl _ }
  came_from (y ∷ l) zero (suc j) k d li lj lk = front y l j k d (omega arith) lk
  came_from (y ∷ l) (suc i) zero k d li lj lk = front y l i k d (omega arith) lk
  came_from (y ∷ l) (suc i) (suc j) zero d li lj lk = record {
    place = 0;
    within = lk;
    same = refl;
    rest = IsPermutation-swap l _ i j (omega arith) (omega arith) (swap_is l i j d (omega arith) (omega arith));
  }
  came_from (y ∷ l) (suc i) (suc j) (suc k) d li lj lk =
      let rest = came_from l i j k d (omega arith) (omega arith) (omega arith) in
      record { place = suc rest.place; within = omega (arith, rest.within); same = rest.same; rest = IsPermutation-cons y _ _ rest.rest }

  module _ (x : X) (ys : List X) where
    abbrev IsRest : List X → Type 0
    IsRest l = (k : ℕ) → k < length l → get_or l k x ≡ x → IsPermutation ys (without l k)

    at_start : IsRest (x ∷ ys)
    at_start zero l e = IsPermutation-refl ys
    at_start (suc k) l e = subst (λ w. IsPermutation ys (w ∷ without ys k)) e (own ys k x (omega arith))

    at_swap : (l : List X) (i j : ℕ) → i < length l → j < length l → IsRest l → IsRest (swap l i j)
    at_swap l i j li lj before = subst IsRest (swap_is l i j x li lj) (λ k lk e.
        let from = came_from l i j k x li lj
        (omega (arith, lk, length-set (set l i (get_or l j x)) j (get_or l i x), length-set l i (get_or l j x))) in
        IsPermutation-trans _ _ _ (before from.place from.within (from.same ∙ e)) from.rest)

    pub cancel_one : (zs : List X) → IsPermutation (x ∷ ys) (x ∷ zs) → IsPermutation ys zs
    cancel_one zs h = IsPermutation-keeps (x ∷ ys) IsRest at_start at_swap (x ∷ zs) h 0 (omega arith) refl

  pub cancel : (xs ys zs : List X) → IsPermutation (xs ++ ys) (xs ++ zs) → IsPermutation ys zs
  cancel [] ys zs h = h
  cancel (x ∷ xs) ys zs h = cancel xs ys zs (cancel_one x (xs ++ ys) (xs ++ zs) h)
