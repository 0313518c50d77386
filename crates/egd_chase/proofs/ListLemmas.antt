-- Lists: what stands at a number, members of joined lists, and pairs of their elements.
use Rattle.std.proofs.Common.{◌≡◌, ℕ, zero, suc, Option, Some, None, List, [], ◌∷◌, ◌++◌, map, flat_map, refl, sym, subst, inl, inr, arith, AllPairs, Contains, slice_get, IsSomeAnd}
use Rattle.std.proofs.lemmas.List.Elements.{Contains-append_left, Contains-append_right, Contains-append_cases}
use Rattle.rule_core.proofs.ListLemmas.{Contains-nil, Contains-head, Contains-cons, Contains-cons_cases}
use Rattle.rule_core.proofs.ListLemmas.{AllPairs-head, AllPairs-tail, AllPairs-nil, AllPairs-cons}

-- two functions that agree everywhere
pub same_map : {X Y : Type 0} (f g : X → Y) → ((x : X) → f x ≡ g x) → (xs : List X) → map f xs ≡ map g xs
same_map f g h [] = refl
same_map f g h (x ∷ xs) = let first = h x in let rest = same_map f g h xs in λ i. first i ∷ rest i

-- what is so of the rule with a number
pub chosen : {X : Type 0} (Q : X → Type 0) (o : Option X) → IsSomeAnd o Q → (x : X) × (o ≡ Some x) × Q x
chosen Q (Some x) q = (x, refl, q)
chosen Q None q = absurd q

-- what stands at a number of a list is in it
pub in_list : {X : Type 0} (xs : List X) (k : ℕ) (x : X) → slice_get xs k ≡ Some x → Contains xs x
in_list (y ∷ ys) zero x e = (0, omega arith, cc)
in_list (y ∷ ys) (suc k) x e = let c = in_list ys k x e in (suc c.0, omega (arith, c.1), c.2)
in_list [] k x e = absurd cc

-- members of joined lists
pub from_flat_map : {X Y : Type 0} (f : X → List Y) (xs : List X) (y : Y) → Contains (flat_map f xs) y
    → (x : X) × Contains xs x × Contains (f x) y
from_flat_map f [] y c = absurd (Contains-nil y c)
from_flat_map f (z ∷ zs) y c = elim (Contains-append_cases (f z) (flat_map f zs) y c) [
  | inl d ↦ (z, Contains-head z zs, d)
  | inr d ↦ let h = from_flat_map f zs y d in (h.0, Contains-cons z h.0 zs h.1, h.2)
]

pub in_flat_map : {X Y : Type 0} (f : X → List Y) (xs : List X) (x : X) (y : Y) → Contains xs x → Contains (f x) y
    → Contains (flat_map f xs) y
in_flat_map f [] x y c d = absurd (Contains-nil x c)
in_flat_map {X} {Y} f (z ∷ zs) x y c d = elim (Contains-cons_cases z x zs c) [
  | inl e ↦ Contains-append_left (f z) (flat_map f zs) y (subst (λ (w : X). Contains (f w) y) (sym e) d)
  | inr k ↦ Contains-append_right (f z) (flat_map f zs) y (in_flat_map f zs x y k d)
]

-- pairs of joined lists
module _ {X : Type 0} (R : X → X → Type 0) where
  pub pairs_append : (xs ys : List X) → AllPairs R xs → AllPairs R ys → ((x y : X) → Contains xs x → Contains ys y → R x y)
      → AllPairs R (xs ++ ys)
  pairs_append [] ys a b h = b
  pairs_append (x ∷ xs) ys a b h = AllPairs-cons R x (xs ++ ys)
      (λ y c. elim (Contains-append_cases xs ys y c) [
        | inl d ↦ AllPairs-head R x xs a y d
        | inr d ↦ h x y (Contains-head x xs) d
      ])
      (pairs_append xs ys (AllPairs-tail R x xs a) b (λ z y c d. h z y (Contains-cons x z xs c) d))

  pub pairs_left : (xs ys : List X) → AllPairs R (xs ++ ys) → AllPairs R xs
  pairs_left [] ys pairs = AllPairs-nil R
  pairs_left (x ∷ xs) ys pairs = AllPairs-cons R x xs
      (λ y c. AllPairs-head R x (xs ++ ys) pairs y (Contains-append_left xs ys y c))
      (pairs_left xs ys (AllPairs-tail R x (xs ++ ys) pairs))

  pub pairs_right : (xs ys : List X) → AllPairs R (xs ++ ys) → AllPairs R ys
  pairs_right [] ys pairs = pairs
  pairs_right (x ∷ xs) ys pairs = pairs_right xs ys (AllPairs-tail R x (xs ++ ys) pairs)

  pub pairs_across : (xs ys : List X) → AllPairs R (xs ++ ys) → (x y : X) → Contains xs x → Contains ys y → R x y
  pairs_across [] ys pairs x y c d = absurd (Contains-nil x c)
  pairs_across (z ∷ xs) ys pairs x y c d = elim (Contains-cons_cases z x xs c) [
    | inl e ↦ subst (λ w. R w y) e (AllPairs-head R z (xs ++ ys) pairs y (Contains-append_right xs ys y d))
    | inr k ↦ pairs_across xs ys (AllPairs-tail R z (xs ++ ys) pairs) x y k d
  ]
