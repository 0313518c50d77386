-- Facts that are decided, and a search for a function that meets a fact of its first values.
use Rattle.std.proofs.Common.{◌≡◌, ◌⊎◌, ℕ, zero, suc, ◌<◌, List, [], ◌∷◌, refl, subst, inl, inr, ⊎_elim, arith, All, Contains}
use Rattle.std.specs.declared.cmp.Ordering.{Ordering}
use Rattle.std.specs.declared.cmp.Ordering.TheVariants.{Less, Equal, Greater}
use Rattle.std.specs.Cmp.{IsTotalOrder}
use Rattle.std.specs.FinMap.{IsAntisymmetric}
use Rattle.std.proofs.lemmas.Cmp.{tied_itself}
use Rattle.std.proofs.lemmas.List.Elements.{All-nil, All-cons, All-head, All-tail}
use Rattle.rule_core.proofs.ListLemmas.{Contains-head, Contains-cons, Contains-nil, Contains-cons_cases}

-- the fact holds or does not
abbrev pub IsDecided : Type 0 → Type 0
IsDecided P = P ⊎ ¬ P

-- an order that tells any two values apart decides whether they are equal
pub same_decided : {X : Type 0} (R : X → X → Ordering) → IsTotalOrder R → IsAntisymmetric R → (x y : X) → IsDecided (x ≡ y)
same_decided {X} R o apart x y = by (R x y) refl
  where
    tied : x ≡ y → R x y ≡ Equal
    tied e = subst (λ z. R x z ≡ Equal) e (tied_itself o x)

    by : (r : Ordering) → R x y ≡ r → IsDecided (x ≡ y)
    by Less e = inr (λ same. let k = tied same in absurd cc)
    by Equal e = inl (apart x y e)
    by Greater e = inr (λ same. let k = tied same in absurd cc)

pub both_decided : (P Q : Type 0) → IsDecided P → IsDecided Q → IsDecided (P × Q)
both_decided P Q (inl p) (inl q) = inl (p, q)
both_decided P Q (inl p) (inr n) = inr (λ k. n k.1)
both_decided P Q (inr n) q = inr (λ k. n k.0)

pub contains_decided : {X : Type 0} → ((x y : X) → IsDecided (x ≡ y)) → (xs : List X) (x : X) → IsDecided (Contains xs x)
contains_decided same [] x = inr (Contains-nil x)
contains_decided {X} same (y ∷ xs) x = by (same y x) (contains_decided same xs x)
  where
    by : IsDecided (y ≡ x) → IsDecided (Contains xs x) → IsDecided (Contains (y ∷ xs) x)
    by (inl e) later = inl (rw (← e) (Contains-head y xs))
    by (inr n) (inl c) = inl (Contains-cons y x xs c)
    by (inr n) (inr m) = inr (λ c. ⊎_elim n m (Contains-cons_cases y x xs c))

pub all_decided : {X : Type 0} (P : X → Type 0) → ((x : X) → IsDecided (P x)) → (xs : List X) → IsDecided (All P xs)
all_decided P each [] = inl (All-nil P)
all_decided {X} P each (x ∷ xs) = by (each x) (all_decided P each xs)
  where
    by : IsDecided (P x) → IsDecided (All P xs) → IsDecided (All P (x ∷ xs))
    by (inl p) (inl h) = inl (All-cons P x xs p h)
    by (inl p) (inr n) = inr (λ h. n (All-tail P x xs h))
    by (inr n) later = inr (λ h. n (All-head P x xs h))

-- one of the values meets the fact, or none does
pub some_or_none : {X : Type 0} (P : X → Type 0) → ((x : X) → IsDecided (P x)) → (xs : List X)
    → ((x : X) × P x) ⊎ ((x : X) → Contains xs x → ¬ (P x))
some_or_none P each [] = inr (λ x c. absurd (Contains-nil x c))
some_or_none {X} P each (y ∷ xs) = by (each y) (some_or_none P each xs)
  where
    by : IsDecided (P y) → ((x : X) × P x) ⊎ ((x : X) → Contains xs x → ¬ (P x))
        → ((x : X) × P x) ⊎ ((x : X) → Contains (y ∷ xs) x → ¬ (P x))
    by (inl p) later = inl (y, p)
    by (inr n) (inl k) = inl k
    by (inr n) (inr none) = inr (λ x c. ⊎_elim (λ e. subst (λ z. ¬ (P z)) e n) (none x) (Contains-cons_cases y x xs c))

module _ {C : Type 0} (base : C) (values : List C) where
  -- the value first, and then those of the function
  abbrev first : C → (ℕ → C) → ℕ → C
  first c f zero = c
  first c f (suc v) = f v

  first_agree : (c : C) (n : ℕ) (f g : ℕ → C) → ((v : ℕ) → v < n → f v ≡ g v) → (v : ℕ) → v < suc n → first c f v ≡ first c g v
  first_agree c n f g h zero l = refl
  first_agree c n f g h (suc v) l = h v (omega arith)

  first_again : (f : ℕ → C) (v : ℕ) → f v ≡ first (f 0) (λ w. f (suc w)) v
  first_again f zero = refl
  first_again f (suc v) = refl

  -- a fact of a function's first n values, which are among the given ones, holds of some function or of none
  pub function_decided : (n : ℕ) (P : (ℕ → C) → Type 0) → ((f : ℕ → C) → IsDecided (P f))
      → ((f g : ℕ → C) → ((v : ℕ) → v < n → f v ≡ g v) → P f → P g)
      → ((f : ℕ → C) → P f → (v : ℕ) → v < n → Contains values (f v)) → IsDecided ((f : ℕ → C) × P f)
  function_decided zero P each agree within = by (each (λ v. base))
    where
      by : IsDecided (P (λ v. base)) → IsDecided ((f : ℕ → C) × P f)
      by (inl p) = inl ((λ v. base), p)
      by (inr n) = inr (λ k. n (agree k.0 (λ v. base) (λ v l. absurd (omega arith)) k.1))
  function_decided (suc n) P each agree within =
      by (some_or_none (λ c. (f : ℕ → C) × P (first c f))
      (λ c. function_decided n (λ f. P (first c f)) (λ f. each (first c f))
      (λ f g h. agree (first c f) (first c g) (first_agree c n f g h))
      (λ f p v l. within (first c f) p (suc v) (omega arith))) values)
    where
      by : ((c : C) × ((f : ℕ → C) × P (first c f))) ⊎ ((c : C) → Contains values c → ¬ ((f : ℕ → C) × P (first c f)))
          → IsDecided ((f : ℕ → C) × P f)
      by (inl k) = inl (first k.0 k.1.0, k.1.1)
      by (inr none) = inr (λ k. none (k.0 0) (within k.0 k.1 0 (omega arith))
          ((λ v. k.0 (suc v)), agree k.0 (first (k.0 0) (λ w. k.0 (suc w))) (λ v l. first_again k.0 v) k.1))
