-- Lists by what stands at a place, where a place may be empty.
use Rattle.std.proofs.Common.{◌≡◌, ◌≢◌, ◌⊎◌, inl, inr, ℕ, zero, suc, ◌+◌, ◌-◌, ◌<◌, ◌≤◌, Option, Some, None, List, [], ◌∷◌, ◌++◌, length, map, get_or, set, refl, sym, ap, ◌∙◌, subst, arith, ⊎_elim, All, Contains}
use Rattle.std.specs.Prelude.{slice_get, IsSomeAnd, IsPermutation}
use Rattle.std.specs.List.{filter_map}
use Rattle.std.specs.Option.{option_and_then, option_map}
use Rattle.std.proofs.lemmas.Bool.{cases_lt}
use Rattle.std.proofs.lemmas.Option.{slice_get_within}
use Rattle.std.proofs.lemmas.List.Elements.{All-head, All-tail}
use Rattle.std.proofs.lemmas.List.Sorted.{IsPermutation-refl, IsPermutation-trans, IsPermutation-cons, IsPermutation-to_front, IsPermutation-middle, IsPermutation-sym}

-- what is there, with what holds of it
pub some_and : {X : Type 0} (P : X → Type 0) (o : Option X) → IsSomeAnd o P → (x : X) × (o ≡ Some x) × P x
some_and P None h = absurd h
some_and P (Some x) h = (x, refl, h)

pub and_some : {X : Type 0} (P : X → Type 0) (o : Option X) (x : X) → o ≡ Some x → P x → IsSomeAnd o P
and_some P o x e p = subst (λ w. IsSomeAnd w P) (sym e) p

pub same_some : {X : Type 0} (o : Option X) (x y : X) → o ≡ Some x → o ≡ Some y → x ≡ y
same_some o x y p q = let h : Some x ≡ Some y = sym p ∙ q in cc

-- what stands in the front of a list that goes on
pub in_front : {X : Type 0} (xs ys : List X) (k : ℕ) → k < length xs → slice_get (xs ++ ys) k ≡ slice_get xs k
in_front [] ys k l = absurd (omega arith)
in_front (x ∷ xs) ys zero l = refl
in_front (x ∷ xs) ys (suc k) l = in_front xs ys k (omega arith)

-- what stands behind a list
pub behind : {X : Type 0} (xs ys : List X) (n k : ℕ) → n ≡ length xs + k → slice_get (xs ++ ys) n ≡ slice_get ys k
behind [] ys n k e = let same : n ≡ k = omega (arith, e) in ap (slice_get ys) same
behind (x ∷ xs) ys zero k e = absurd (omega (arith, e))
behind (x ∷ xs) ys (suc n) k e = behind xs ys n k (omega (arith, e))

-- what stands right behind a list
pub at_end : {X : Type 0} (xs : List X) (x : X) → slice_get (xs ++ x ∷ []) (length xs) ≡ Some x
at_end [] x = refl
at_end (y ∷ xs) x = at_end xs x

-- what has a place
pub at_from_contains : {X : Type 0} (xs : List X) (x : X) (k : ℕ) → k < length xs → get_or xs k x ≡ x → slice_get xs k ≡ Some x
at_from_contains [] x k l e = absurd (omega arith)
at_from_contains (y ∷ ys) x zero l e = ap Some e
at_from_contains (y ∷ ys) x (suc k) l e = at_from_contains ys x k (omega arith) e

pub contains_from_at : {X : Type 0} (xs : List X) (k : ℕ) (x : X) → slice_get xs k ≡ Some x → Contains xs x
contains_from_at [] k x e = absurd cc
contains_from_at {X} (y ∷ ys) zero x e = (0, omega arith, cc)
contains_from_at (y ∷ ys) (suc k) x e = let c = contains_from_at ys k x e in (suc c.0, omega (arith, c.1), c.2)

-- what stands at a place that may be empty
abbrev pub held_at : {X : Type 0} → List (Option X) → ℕ → Option X
held_at xs n = option_and_then (λ x. x) (slice_get xs n)

-- it is held where it stands
pub stands : {X : Type 0} (o : Option (Option X)) (x : X) → option_and_then (λ y. y) o ≡ Some x → o ≡ Some (Some x)
stands None x e = absurd cc
stands (Some None) x e = absurd cc
stands (Some (Some y)) x e = ap Some e

module _ {X : Type 0} (xs ys : List (Option X)) where
  pub held_front : (n : ℕ) (x : X) → held_at xs n ≡ Some x → held_at (xs ++ ys) n ≡ Some x
  held_front n x e =
      let at = stands (slice_get xs n) x e in
      ap (option_and_then (λ y. y)) (in_front xs ys n (slice_get_within xs n (Some x) at)) ∙ e

  pub held_behind : (k : ℕ) (x : X) → held_at ys k ≡ Some x → held_at (xs ++ ys) (length xs + k) ≡ Some x
  held_behind k x e = ap (option_and_then (λ y. y)) (behind xs ys (length xs + k) k refl) ∙ e

  pub held_cases : (n : ℕ) (x : X) → held_at (xs ++ ys) n ≡ Some x
      → (held_at xs n ≡ Some x) ⊎ ((k : ℕ) × (n ≡ length xs + k) × (held_at ys k ≡ Some x))
  held_cases n x e = ⊎_elim
      (λ (l : n < length xs). inl (sym (ap (option_and_then (λ y. y)) (in_front xs ys n l)) ∙ e))
      (λ (g : length xs ≤ n). let place : n ≡ length xs + (n - length xs) = omega arith in
      inr (n - length xs, place, sym (ap (option_and_then (λ y. y)) (behind xs ys n (n - length xs) place)) ∙ e))
      (cases_lt n (length xs))

-- a list is mapped alike by functions that agree on it
pub map_alike : {X Y : Type 0} (f g : X → Y) (xs : List X) → All (λ x. f x ≡ g x) xs → map f xs ≡ map g xs
map_alike f g [] h = refl
map_alike {X} {Y} f g (x ∷ xs) h =
    let first = All-head (λ (y : X). f y ≡ g y) x xs h in
    let rest = map_alike f g xs (All-tail (λ (y : X). f y ≡ g y) x xs h) in
    λ i. first i ∷ rest i

pub map_map : {X Y Z : Type 0} (f : Y → Z) (g : X → Y) (xs : List X) → map f (map g xs) ≡ map (λ x. f (g x)) xs
map_map f g [] = refl
map_map f g (x ∷ xs) = let rest = map_map f g xs in λ i. f (g x) ∷ rest i

-- what is held, in order
pub held_alike : {X Y : Type 0} (f g : X → Y) (xs : List (Option X)) → ((n : ℕ) (x : X) → held_at xs n ≡ Some x → f x ≡ g x)
    → filter_map (option_map f) xs ≡ filter_map (option_map g) xs
held_alike f g [] h = refl
held_alike f g (None ∷ xs) h = held_alike f g xs (λ n x e. h (suc n) x e)
held_alike f g (Some x ∷ xs) h =
    let first = h 0 x refl in
    let rest = held_alike f g xs (λ n y e. h (suc n) y e) in
    λ i. first i ∷ rest i

pub held_map_all : {X Y : Type 0} (f : X → Y) (xs : List (Option X))
    → filter_map (option_map f) xs ≡ map f (filter_map (λ (o : Option X). o) xs)
held_map_all f [] = refl
held_map_all f (None ∷ xs) = held_map_all f xs
held_map_all f (Some x ∷ xs) = ap (λ l. f x ∷ l) (held_map_all f xs)

-- what is held is told with its place
pub held_one : {X : Type 0} (xs : List (Option X)) (n : ℕ) (x : X) → held_at xs n ≡ Some x → Contains (filter_map (λ (o : Option X). o) xs) x
held_one [] n x e = absurd cc
held_one (None ∷ xs) zero x e = absurd cc
held_one (None ∷ xs) (suc n) x e = held_one xs n x e
held_one {X} (Some y ∷ xs) zero x e = let same : y ≡ x = cc in (0, omega arith, same)
held_one (Some y ∷ xs) (suc n) x e = let c = held_one xs n x e in (suc c.0, omega (arith, c.1), c.2)

pub held_place : {X : Type 0} (xs : List (Option X)) (x : X) → Contains (filter_map (λ (o : Option X). o) xs) x
    → (n : ℕ) × (held_at xs n ≡ Some x)
held_place {X} xs x c = by xs c.0 c.1 c.2
  where
    by : (ys : List (Option X)) (k : ℕ) → k < length (filter_map (λ (o : Option X). o) ys)
        → get_or (filter_map (λ (o : Option X). o) ys) k x ≡ x → (n : ℕ) × (held_at ys n ≡ Some x)
    by [] k l e = absurd (omega arith)
    by (None ∷ ys) k l e = let n = by ys k l e in (suc n.0, n.1)
    by (Some y ∷ ys) zero l e = (0, ap Some e)
    by (Some y ∷ ys) (suc k) l e = let n = by ys k (omega arith) e in (suc n.0, n.1)

-- what stands in one of two lists
pub contains_right : {X : Type 0} (xs ys : List X) (x : X) → Contains ys x → Contains (xs ++ ys) x
contains_right [] ys x c = c
contains_right (z ∷ zs) ys x c = let d = contains_right zs ys x c in (suc d.0, omega (arith, d.1), d.2)

pub contains_either : {X : Type 0} (xs : List (Option X)) (ys : List X) (x : X)
    → Contains (filter_map (λ (o : Option X). o) xs ++ ys) x → ((n : ℕ) × (held_at xs n ≡ Some x)) ⊎ Contains ys x
contains_either [] ys x c = inr c
contains_either (None ∷ xs) ys x c = ⊎_elim
    (λ (h : (n : ℕ) × (held_at xs n ≡ Some x)). inl (suc h.0, h.1))
    (λ (d : Contains ys x). inr d)
    (contains_either xs ys x c)
contains_either {X} (Some y ∷ xs) ys x c = by c.0 c.1 c.2 (λ d. contains_either xs ys x d)
  where
    by : (k : ℕ) → k < length (y ∷ (filter_map (λ (o : Option X). o) xs ++ ys))
        → get_or (y ∷ (filter_map (λ (o : Option X). o) xs ++ ys)) k x ≡ x
        → (Contains (filter_map (λ (o : Option X). o) xs ++ ys) x → ((n : ℕ) × (held_at xs n ≡ Some x)) ⊎ Contains ys x)
        → ((n : ℕ) × (held_at (Some y ∷ xs) n ≡ Some x)) ⊎ Contains ys x
    by zero l e rest = inl (0, ap Some e)
    by (suc k) l e rest = ⊎_elim
        (λ (h : (n : ℕ) × (held_at xs n ≡ Some x)). inl (suc h.0, h.1))
        (λ (d : Contains ys x). inr d)
        (rest (k, omega (arith, l), e))

-- lists that hold the same at each place
pub held_same : {X : Type 0} (a b : List (Option X)) → ((m : ℕ) → held_at b m ≡ held_at a m)
    → filter_map (λ (o : Option X). o) a ≡ filter_map (λ (o : Option X). o) b
held_same [] [] h = refl
held_same [] (None ∷ b) h = held_same [] b (λ m. h (suc m))
held_same [] (Some y ∷ b) h = let clash = h 0 in absurd cc
held_same (None ∷ a) [] h = held_same a [] (λ m. h (suc m))
held_same (Some y ∷ a) [] h = let clash = h 0 in absurd cc
held_same (None ∷ a) (None ∷ b) h = held_same a b (λ m. h (suc m))
held_same (None ∷ a) (Some y ∷ b) h = let clash = h 0 in absurd cc
held_same (Some y ∷ a) (None ∷ b) h = let clash = h 0 in absurd cc
held_same (Some y ∷ a) (Some z ∷ b) h =
    let first = h 0 in
    let same : y ≡ z = cc in
    let rest = held_same a b (λ m. h (suc m)) in
    λ i. same i ∷ rest i

-- the list with one more
pub one_added : {X : Type 0} (xs ys : List (Option X)) (n : ℕ) (x : X) → held_at xs n ≡ None → held_at ys n ≡ Some x
    → ((m : ℕ) → m ≢ n → held_at ys m ≡ held_at xs m)
    → IsPermutation (filter_map (λ (o : Option X). o) xs ++ x ∷ []) (filter_map (λ (o : Option X). o) ys)
one_added {X} xs ys n x vacant here others = IsPermutation-trans _ _ _
    (IsPermutation-to_front (filter_map (λ (o : Option X). o) xs) x) (by xs ys n vacant here others)
  where
    flat : List (Option X) → List X
    flat l = filter_map (λ (o : Option X). o) l

    shift : (a b : List (Option X)) (k : ℕ) → ((m : ℕ) → m ≢ suc k → held_at b m ≡ held_at a m) → (m : ℕ) → m ≢ k
        → held_at b (suc m) ≡ held_at a (suc m)
    shift a b k h m differ = h (suc m) (λ same. differ (omega (arith, same)))

    by : (a b : List (Option X)) (k : ℕ) → held_at a k ≡ None → held_at b k ≡ Some x → ((m : ℕ) → m ≢ k → held_at b m ≡ held_at a m)
        → IsPermutation (x ∷ flat a) (flat b)
    by a [] k v e h = absurd cc
    by [] (None ∷ b) zero v e h = absurd cc
    by [] (Some y ∷ b) zero v e h =
        let same : x ≡ y = cc in
        let rest = held_same [] b (λ m. h (suc m) (λ clash. omega (arith, clash))) in
        subst (IsPermutation (x ∷ [])) (λ i. same i ∷ rest i) (IsPermutation-refl (x ∷ []))
    by [] (None ∷ b) (suc k) v e h = by [] b k refl e (shift [] (None ∷ b) k h)
    by [] (Some y ∷ b) (suc k) v e h = let clash = h 0 (λ c. omega (arith, c)) in absurd cc
    by (None ∷ a) (None ∷ b) zero v e h = absurd cc
    by (None ∷ a) (Some y ∷ b) zero v e h =
        let same : x ≡ y = cc in
        let rest = held_same a b (λ m. h (suc m) (λ clash. omega (arith, clash))) in
        subst (IsPermutation (x ∷ flat a)) (λ i. same i ∷ rest i) (IsPermutation-refl (x ∷ flat a))
    by (Some z ∷ a) (y ∷ b) zero v e h = absurd cc
    by (None ∷ a) (None ∷ b) (suc k) v e h = by a b k v e (shift (None ∷ a) (None ∷ b) k h)
    by (None ∷ a) (Some y ∷ b) (suc k) v e h = let clash = h 0 (λ c. omega (arith, c)) in absurd cc
    by (Some z ∷ a) (None ∷ b) (suc k) v e h = let clash = h 0 (λ c. omega (arith, c)) in absurd cc
    by (Some z ∷ a) (Some y ∷ b) (suc k) v e h =
        let first = h 0 (λ c. omega (arith, c)) in
        let same : z ≡ y = cc in
        let rest = by a b k v e (shift (Some z ∷ a) (Some y ∷ b) k h) in
        IsPermutation-trans _ _ _ (IsPermutation-sym _ _ (IsPermutation-middle (z ∷ []) x (flat a)))
        (subst (λ w. IsPermutation (z ∷ (x ∷ flat a)) (w ∷ flat b)) same (IsPermutation-cons z (x ∷ flat a) (flat b) rest))

pub held_contains : {X Y : Type 0} (f : X → Y) (xs : List (Option X)) (n : ℕ) (x : X) → held_at xs n ≡ Some x
    → Contains (filter_map (option_map f) xs) (f x)
held_contains f [] n x e = absurd cc
held_contains f (None ∷ xs) zero x e = absurd cc
held_contains f (None ∷ xs) (suc n) x e = held_contains f xs n x e
held_contains {X} {Y} f (Some y ∷ xs) zero x e = let same : y ≡ x = cc in (0, omega arith, ap f same)
held_contains f (Some y ∷ xs) (suc n) x e = let c = held_contains f xs n x e in (suc c.0, omega (arith, c.1), c.2)

-- a member of a list as it is mapped
pub contains_map : {X Y : Type 0} (f : X → Y) (xs : List X) (x : X) → Contains xs x → Contains (map f xs) (f x)
contains_map {X} {Y} f xs x c = by xs c.0 c.1 c.2
  where
    by : (zs : List X) (k : ℕ) → k < length zs → get_or zs k x ≡ x → Contains (map f zs) (f x)
    by [] k l e = absurd (omega arith)
    by (y ∷ ys) zero l e = (0, omega arith, ap f e)
    by (y ∷ ys) (suc k) l e = let d = by ys k (omega arith) e in (suc d.0, omega (arith, d.1), d.2)

-- what stands in a list as it is mapped
pub at_map : {X Y : Type 0} (f : X → Y) (xs : List X) (k : ℕ) (x : X) → slice_get xs k ≡ Some x → slice_get (map f xs) k ≡ Some (f x)
at_map f [] k x e = absurd cc
at_map f (y ∷ ys) zero x e = let same : y ≡ x = cc in ap (λ z. Some (f z)) same
at_map f (y ∷ ys) (suc k) x e = at_map f ys k x e

-- what holds of what is there
pub holds_at : {X : Type 0} (P : X → Type 0) (o : Option X) (x : X) → o ≡ Some x → IsSomeAnd o P → P x
holds_at P o x e h = subst (λ w. IsSomeAnd w P) e h

-- what stands in a list with one more behind
pub pushed_at : {X : Type 0} (xs : List X) (x y : X) (k : ℕ) → slice_get (xs ++ x ∷ []) k ≡ Some y
    → (slice_get xs k ≡ Some y) ⊎ ((k ≡ length xs) × (y ≡ x))
pushed_at [] x y zero e = let same : y ≡ x = cc in inr (refl, same)
pushed_at [] x y (suc k) e = absurd cc
pushed_at (z ∷ zs) x y zero e = inl e
pushed_at {X} (z ∷ zs) x y (suc k) e = ⊎_elim
    (λ (old : slice_get zs k ≡ Some y). inl old)
    (λ (last : (k ≡ length zs) × (y ≡ x)). inr (ap suc last.0, last.1))
    (pushed_at zs x y k e)

-- what stands at a place that is written, and at others
pub set_here : {X : Type 0} (xs : List X) (k : ℕ) (x y : X) → slice_get xs k ≡ Some y → slice_get (set xs k x) k ≡ Some x
set_here [] k x y e = absurd cc
set_here (z ∷ zs) zero x y e = refl
set_here (z ∷ zs) (suc k) x y e = set_here zs k x y e

pub set_else : {X : Type 0} (xs : List X) (k j : ℕ) (x : X) → j ≢ k → slice_get (set xs k x) j ≡ slice_get xs j
set_else [] k j x h = refl
set_else (z ∷ zs) zero zero x h = absurd (h refl)
set_else (z ∷ zs) zero (suc j) x h = refl
set_else (z ∷ zs) (suc k) zero x h = refl
set_else (z ∷ zs) (suc k) (suc j) x h = set_else zs k j x (λ e. h (ap suc e))

-- writing what is there changes nothing
pub set_same : {X : Type 0} (xs : List X) (k : ℕ) (x : X) → slice_get xs k ≡ Some x → set xs k x ≡ xs
set_same [] k x e = refl
set_same {X} (y ∷ ys) zero x e = let same : x ≡ y = cc in ap (λ z. z ∷ ys) same
set_same (y ∷ ys) (suc k) x e = ap (λ zs. y ∷ zs) (set_same ys k x e)
