-- Lists by what stands at a place, and lists side by side.
use Rattle.std.proofs.Common.{◌≡◌, ◌⊎◌, inl, inr, ℕ, zero, suc, ◌<◌, Some, List, [], ◌∷◌, ◌++◌, length, get_or, map, refl, sym, ap, ◌∙◌, subst, arith, Contains}
use Rattle.std.specs.Prelude.{slice_get, slice_set}
use Rattle.std.proofs.lemmas.Bool.{cases_eq}
use Rattle.rule_core.proofs.ListLemmas.{Contains-nil, Contains-head, Contains-cons, Contains-cons_cases}
use Rattle.std.specs.List.{AllZip}

-- what stands within a list
pub at_within : {X : Type 0} (xs : List X) (k : ℕ) → k < length xs → (x : X) × (slice_get xs k ≡ Some x)
at_within [] k l = absurd (omega (arith, l))
at_within (x ∷ xs) zero l = (x, refl)
at_within (x ∷ xs) (suc k) l = at_within xs k (omega (arith, l))

pub within_from_at : {X : Type 0} (xs : List X) (k : ℕ) (x : X) → slice_get xs k ≡ Some x → k < length xs
within_from_at [] k x e = absurd cc
within_from_at (y ∷ ys) zero x e = omega arith
within_from_at (y ∷ ys) (suc k) x e = let l = within_from_at ys k x e in omega (arith, l)

pub contains_from_at : {X : Type 0} (xs : List X) (k : ℕ) (x : X) → slice_get xs k ≡ Some x → Contains xs x
contains_from_at [] k x e = absurd cc
contains_from_at {X} (y ∷ ys) zero x e = (0, omega arith, cc)
contains_from_at (y ∷ ys) (suc k) x e = let c = contains_from_at ys k x e in (suc c.0, omega (arith, c.1), c.2)

pub at_from_contains : {X : Type 0} (xs : List X) (x : X) → Contains xs x → (k : ℕ) × (slice_get xs k ≡ Some x)
at_from_contains {X} xs x c = (c.0, by_place xs c.0 c.1 c.2)
  where
    by_place : (xs : List X) (k : ℕ) → k < length xs → get_or xs k x ≡ x → slice_get xs k ≡ Some x
    by_place [] k l e = absurd (omega (arith, l))
    by_place (y ∷ ys) zero l e = ap Some e
    by_place (y ∷ ys) (suc k) l e = by_place ys k (omega (arith, l)) e

-- what stands in a list that goes on
pub at_front : {X : Type 0} (xs ys : List X) (k : ℕ) (x : X) → slice_get xs k ≡ Some x → slice_get (xs ++ ys) k ≡ Some x
at_front [] ys k x e = absurd cc
at_front (z ∷ zs) ys zero x e = e
at_front (z ∷ zs) ys (suc k) x e = at_front zs ys k x e

pub at_seam : {X : Type 0} (xs : List X) (y : X) (ys : List X) → slice_get (xs ++ y ∷ ys) (length xs) ≡ Some y
at_seam [] y ys = refl
at_seam (x ∷ xs) y ys = at_seam xs y ys

-- what stands in a list with one more at its end
pub at_push : {X : Type 0} (xs : List X) (y : X) (k : ℕ) (x : X) → slice_get (xs ++ y ∷ []) k ≡ Some x
    → (slice_get xs k ≡ Some x) ⊎ ((k ≡ length xs) × (y ≡ x))
at_push [] y zero x e = inr (refl, cc)
at_push [] y (suc k) x e = absurd cc
at_push (z ∷ zs) y zero x e = inl e
at_push (z ∷ zs) y (suc k) x e = elim (at_push zs y k x e) [
  | inl h ↦ inl h
  | inr h ↦ inr (ap suc h.0, h.1)
]

-- two lists of one length with the same at each place
pub same_at_each : {X : Type 0} (xs ys : List X) → length xs ≡ length ys
    → ((k : ℕ) (x y : X) → slice_get xs k ≡ Some x → slice_get ys k ≡ Some y → x ≡ y) → xs ≡ ys
same_at_each [] [] e h = refl
same_at_each [] (y ∷ ys) e h = absurd (omega (arith, e))
same_at_each (x ∷ xs) [] e h = absurd (omega (arith, e))
same_at_each (x ∷ xs) (y ∷ ys) e h =
    let first = h 0 x y refl refl in
    let rest = same_at_each xs ys (omega (arith, e)) (λ k a b p q. h (suc k) a b p q) in
    λ i. first i ∷ rest i

pub at_map : {X Y : Type 0} (f : X → Y) (xs : List X) (k : ℕ) (x : X) → slice_get xs k ≡ Some x → slice_get (map f xs) k ≡ Some (f x)
at_map f [] k x e = absurd cc
at_map f (y ∷ ys) zero x e = let same : y ≡ x = cc in ap (λ z. Some (f z)) same
at_map f (y ∷ ys) (suc k) x e = at_map f ys k x e

pub at_from_map : {X Y : Type 0} (f : X → Y) (xs : List X) (k : ℕ) (y : Y) → slice_get (map f xs) k ≡ Some y
    → (x : X) × (slice_get xs k ≡ Some x) × (f x ≡ y)
at_from_map f [] k y e = absurd cc
at_from_map f (x ∷ xs) zero y e = (x, refl, cc)
at_from_map f (x ∷ xs) (suc k) y e = at_from_map f xs k y e

-- two maps that give the same have the same at each place
pub maps_at : {X Y Z : Type 0} (f : X → Z) (g : Y → Z) (xs : List X) (ys : List Y) → map f xs ≡ map g ys
    → (k : ℕ) (x : X) (y : Y) → slice_get xs k ≡ Some x → slice_get ys k ≡ Some y → f x ≡ g y
maps_at f g xs ys e k x y p q =
    let h : Some (f x) ≡ Some (g y) = sym (at_map f xs k x p) ∙ ap (λ l. slice_get l k) e ∙ at_map g ys k y q in
    cc

pub maps_from_each : {X Y Z : Type 0} (f : X → Z) (g : Y → Z) (xs : List X) (ys : List Y) → length xs ≡ length ys
    → ((k : ℕ) (x : X) (y : Y) → slice_get xs k ≡ Some x → slice_get ys k ≡ Some y → f x ≡ g y) → map f xs ≡ map g ys
maps_from_each f g [] [] e h = refl
maps_from_each f g [] (y ∷ ys) e h = absurd (omega (arith, e))
maps_from_each f g (x ∷ xs) [] e h = absurd (omega (arith, e))
maps_from_each f g (x ∷ xs) (y ∷ ys) e h =
    let first = h 0 x y refl refl in
    let rest = maps_from_each f g xs ys (omega (arith, e)) (λ k a b p q. h (suc k) a b p q) in
    λ i. first i ∷ rest i

-- two lists side by side
pub zip_at : {X Y : Type 0} (R : X → Y → Type 0) (xs : List X) (ys : List Y) → AllZip R xs ys
    → (k : ℕ) (x : X) → slice_get xs k ≡ Some x → (y : Y) × (slice_get ys k ≡ Some y) × R x y
zip_at R [] ys h k x e = absurd cc
zip_at R (z ∷ zs) [] h k x e = absurd h
zip_at R (z ∷ zs) (y ∷ ys) h zero x e = let same : z ≡ x = cc in (y, refl, subst (λ w. R w y) same h.0)
zip_at R (z ∷ zs) (y ∷ ys) h (suc k) x e = zip_at R zs ys h.1 k x e

pub zip_length : {X Y : Type 0} (R : X → Y → Type 0) (xs : List X) (ys : List Y) → AllZip R xs ys → length xs ≡ length ys
zip_length R [] [] h = refl
zip_length R [] (y ∷ ys) h = absurd h
zip_length R (x ∷ xs) [] h = absurd h
zip_length R (x ∷ xs) (y ∷ ys) h = ap suc (zip_length R xs ys h.1)

pub zip_from_each : {X Y : Type 0} (R : X → Y → Type 0) (xs : List X) (ys : List Y) → length xs ≡ length ys
    → ((k : ℕ) (x : X) (y : Y) → slice_get xs k ≡ Some x → slice_get ys k ≡ Some y → R x y) → AllZip R xs ys
zip_from_each R [] [] e h = tt
zip_from_each R [] (y ∷ ys) e h = absurd (omega (arith, e))
zip_from_each R (x ∷ xs) [] e h = absurd (omega (arith, e))
zip_from_each R (x ∷ xs) (y ∷ ys) e h =
    (h 0 x y refl refl, zip_from_each R xs ys (omega (arith, e)) (λ k a b p q. h (suc k) a b p q))

-- what stands in a list after one place was set
pub at_set_here : {X : Type 0} (xs : List X) (k : ℕ) (x : X) → k < length xs → slice_get (slice_set xs k x) k ≡ Some x
at_set_here [] k x l = absurd (omega (arith, l))
at_set_here (y ∷ ys) zero x l = refl
at_set_here (y ∷ ys) (suc k) x l = at_set_here ys k x (omega (arith, l))

pub at_set_other : {X : Type 0} (xs : List X) (k j : ℕ) (x : X) → ¬ (j ≡ k) → slice_get (slice_set xs k x) j ≡ slice_get xs j
at_set_other [] k j x other = refl
at_set_other (y ∷ ys) zero zero x other = absurd (other refl)
at_set_other (y ∷ ys) zero (suc j) x other = refl
at_set_other (y ∷ ys) (suc k) zero x other = refl
at_set_other (y ∷ ys) (suc k) (suc j) x other = at_set_other ys k j x (λ e. other (ap suc e))

pub size_set : {X : Type 0} (xs : List X) (k : ℕ) (x : X) → length (slice_set xs k x) ≡ length xs
size_set [] k x = refl
size_set (y ∷ ys) zero x = refl
size_set (y ∷ ys) (suc k) x = ap suc (size_set ys k x)

-- a number is among others, or not
pub is_among : (numbers : List ℕ) (n : ℕ) → Contains numbers n ⊎ ¬ (Contains numbers n)
is_among [] n = inr (Contains-nil n)
is_among (m ∷ numbers) n = elim (cases_eq m n) [
  | inl same ↦ inl (subst (Contains (m ∷ numbers)) same (Contains-head m numbers))
  | inr differ ↦ elim (is_among numbers n) [
    | inl c ↦ inl (Contains-cons m n numbers c)
    | inr none ↦ inr (λ c. elim (Contains-cons_cases m n numbers c) [
      | inl same ↦ differ same
      | inr d ↦ none d
    ])
  ]
]
