-- Members of lists, and lists in strict order.
use Rattle.std.proofs.Common.{◌≡◌, ◌⊎◌, ℕ, zero, suc, ◌<◌, Bool, true, false, cond, List, [], ◌∷◌, length, map, filter, get_or}
use Rattle.std.proofs.Common.{sym, refl, ap, ◌∙◌, subst, inl, inr, arith, All, AllPairs, Contains}
use Rattle.std.specs.declared.cmp.Ordering.{Ordering}
use Rattle.std.specs.declared.cmp.Ordering.TheVariants.{Less}
use Rattle.std.specs.Cmp.{IsTotalOrder}
use Rattle.std.proofs.lemmas.List.Elements.{Contains-get_or, All-head, All-tail}
use Rattle.std.proofs.lemmas.Cmp.{tied_itself}

pub Contains-head : {X : Type 0} (x : X) (xs : List X) → Contains (x ∷ xs) x
Contains-head x xs = (0, omega arith, refl)

pub Contains-cons : {X : Type 0} (y x : X) (xs : List X) → Contains xs x → Contains (y ∷ xs) x
Contains-cons y x xs c = (suc c.0, omega (arith, c.1), c.2)

pub Contains-nil : {X : Type 0} (x : X) → ¬ (Contains [] x)
Contains-nil x c = absurd (omega (arith, c.1))

pub Contains-cons_cases : {X : Type 0} (y x : X) (xs : List X) → Contains (y ∷ xs) x → (y ≡ x) ⊎ Contains xs x
Contains-cons_cases {X} y x xs c = by_index c.0 c.1 c.2
  where
    by_index : (k : ℕ) → k < length (y ∷ xs) → get_or (y ∷ xs) k x ≡ x → (y ≡ x) ⊎ Contains xs x
    by_index zero l e = inl e
    by_index (suc k) l e = inr (k, omega arith, e)

-- a member of a list as it is mapped is what a member becomes
pub Contains-map : {X Y : Type 0} (f : X → Y) (xs : List X) (x : X) → Contains xs x → Contains (map f xs) (f x)
Contains-map f [] x c = absurd (Contains-nil x c)
Contains-map f (y ∷ ys) x c = elim (Contains-cons_cases y x ys c) [
  | inl e ↦ rw (← e) (Contains-head (f y) (map f ys))
  | inr d ↦ Contains-cons (f y) (f x) (map f ys) (Contains-map f ys x d)
]

pub Contains-from_map : {X Y : Type 0} (f : X → Y) (xs : List X) (y : Y) → Contains (map f xs) y → (x : X) × Contains xs x × (f x ≡ y)
Contains-from_map f [] y c = absurd (Contains-nil y c)
Contains-from_map f (x ∷ xs) y c = elim (Contains-cons_cases (f x) y (map f xs) c) [
  | inl e ↦ (x, Contains-head x xs, e)
  | inr d ↦ let r = Contains-from_map f xs y d in (r.0, Contains-cons x r.0 xs r.1, r.2)
]

-- a member of a filtered list is a member that passes the test
pub Contains-filter : {X : Type 0} (p : X → Bool) (xs : List X) (x : X) → Contains xs x → p x ≡ true → Contains (filter p xs) x
Contains-filter p [] x c h = absurd (Contains-nil x c)
Contains-filter {X} p (y ∷ ys) x c h = elim (Contains-cons_cases y x ys c) [
  | inl e ↦ subst (λ z. Contains (filter p (z ∷ ys)) x) (sym e)
      (subst (λ b. Contains (cond b (x ∷ filter p ys) (filter p ys)) x) (sym h) (Contains-head x (filter p ys)))
  | inr d ↦ kept (p y) (Contains-filter p ys x d h)
]
  where
    kept : (b : Bool) → Contains (filter p ys) x → Contains (cond b (y ∷ filter p ys) (filter p ys)) x
    kept true k = Contains-cons y x (filter p ys) k
    kept false k = k

pub Contains-from_filter : {X : Type 0} (p : X → Bool) (xs : List X) (x : X) → Contains (filter p xs) x → Contains xs x × (p x ≡ true)
Contains-from_filter p [] x c = absurd (Contains-nil x c)
Contains-from_filter {X} p (y ∷ ys) x c = by_test (p y) refl c (Contains-from_filter p ys x)
  where
    by_test : (b : Bool) → p y ≡ b → Contains (cond b (y ∷ filter p ys) (filter p ys)) x
        → (Contains (filter p ys) x → Contains ys x × (p x ≡ true)) → Contains (y ∷ ys) x × (p x ≡ true)
    by_test true h d below = elim (Contains-cons_cases y x (filter p ys) d) [
      | inl e ↦ (rw (← e) (Contains-head y ys), ap p (sym e) ∙ h)
      | inr k ↦ (Contains-cons y x ys (below k).0, (below k).1)
    ]
    by_test false h d below = (Contains-cons y x ys (below d).0, (below d).1)

-- the first element and each later one
pub AllPairs-head : {X : Type 0} (R : X → X → Type 0) (x : X) (xs : List X) → AllPairs R (x ∷ xs) → (y : X) → Contains xs y → R x y
AllPairs-head R x xs pairs y c = subst (R x) c.2 (pairs 0 (suc c.0) y (omega arith) (omega (arith, c.1)))

pub AllPairs-tail : {X : Type 0} (R : X → X → Type 0) (x : X) (xs : List X) → AllPairs R (x ∷ xs) → AllPairs R xs
AllPairs-tail R x xs pairs i j d h l = pairs (suc i) (suc j) d (omega arith) (omega arith)

pub AllPairs-nil : {X : Type 0} (R : X → X → Type 0) → AllPairs R []
AllPairs-nil R i j d h l = absurd (omega arith)

pub AllPairs-cons : {X : Type 0} (R : X → X → Type 0) (x : X) (xs : List X) → ((y : X) → Contains xs y → R x y) → AllPairs R xs
    → AllPairs R (x ∷ xs)
AllPairs-cons R x xs first pairs zero zero d h l = absurd (omega arith)
AllPairs-cons R x xs first pairs zero (suc j) d h l = first (get_or xs j d) (Contains-get_or xs j d (omega arith))
AllPairs-cons R x xs first pairs (suc i) zero d h l = absurd (omega arith)
AllPairs-cons R x xs first pairs (suc i) (suc j) d h l = pairs i j d (omega arith) (omega arith)

-- what elements are to each other as they are mapped
pub AllPairs-map : {X Y : Type 0} (R : Y → Y → Type 0) (f : X → Y) (xs : List X) → AllPairs (λ a b. R (f a) (f b)) xs
    → AllPairs R (map f xs)
AllPairs-map R f [] pairs = AllPairs-nil R
AllPairs-map {X} {Y} R f (x ∷ xs) pairs =
    AllPairs-cons R (f x) (map f xs)
    (λ y c. let from = Contains-from_map f xs y c in subst (R (f x)) from.2
    (AllPairs-head (λ a b. R (f a) (f b)) x xs pairs from.0 from.1))
    (AllPairs-map R f xs (AllPairs-tail (λ a b. R (f a) (f b)) x xs pairs))

pub AllPairs-from_map : {X Y : Type 0} (R : Y → Y → Type 0) (f : X → Y) (xs : List X) → AllPairs R (map f xs)
    → AllPairs (λ a b. R (f a) (f b)) xs
AllPairs-from_map R f [] pairs = AllPairs-nil (λ a b. R (f a) (f b))
AllPairs-from_map {X} {Y} R f (x ∷ xs) pairs =
    AllPairs-cons (λ a b. R (f a) (f b)) x xs
    (λ y c. AllPairs-head R (f x) (map f xs) pairs (f y) (Contains-map f xs y c))
    (AllPairs-from_map R f xs (AllPairs-tail R (f x) (map f xs) pairs))

-- what holds of each element as it is mapped
pub All-from_map : {X Y : Type 0} (P : Y → Type 0) (f : X → Y) (xs : List X) → All P (map f xs) → All (λ x. P (f x)) xs
All-from_map P f [] h k d l = absurd (omega arith)
All-from_map P f (x ∷ xs) h zero d l = All-head P (f x) (map f xs) h
All-from_map P f (x ∷ xs) h (suc k) d l = All-from_map P f xs (All-tail P (f x) (map f xs) h) k d (omega arith)

-- what holds of each member that another fact holds of
pub All-members : {X : Type 0} (P Q : X → Type 0) (xs : List X) → ((x : X) → Contains xs x → P x → Q x) → All P xs → All Q xs
All-members P Q xs f h k d l = f (get_or xs k d) (Contains-get_or xs k d l) (h k d l)

-- pairs as they are in one relation are in another
pub AllPairs-weaker : {X : Type 0} (R S : X → X → Type 0) → ((a b : X) → R a b → S a b) → (xs : List X) → AllPairs R xs → AllPairs S xs
AllPairs-weaker R S f xs pairs i j d h l = f (get_or xs i d) (get_or xs j d) (pairs i j d h l)

-- and so they are, if that follows for members
pub AllPairs-members_weaker : {X : Type 0} (R S : X → X → Type 0) (xs : List X)
    → ((a b : X) → Contains xs a → Contains xs b → R a b → S a b) → AllPairs R xs → AllPairs S xs
AllPairs-members_weaker R S xs f pairs i j d h l =
    f (get_or xs i d) (get_or xs j d) (Contains-get_or xs i d (omega (arith, h, l))) (Contains-get_or xs j d l) (pairs i j d h l)

-- of two members, one stands before the other, or they are the same
pub AllPairs-members : {X : Type 0} (R : X → X → Type 0) (xs : List X) → AllPairs R xs → (a b : X) → Contains xs a → Contains xs b
    → (a ≡ b) ⊎ (R a b ⊎ R b a)
AllPairs-members R [] pairs a b c d = absurd (Contains-nil a c)
AllPairs-members {X} R (x ∷ xs) pairs a b c d =
    by (Contains-cons_cases x a xs c) (Contains-cons_cases x b xs d) (AllPairs-members R xs (AllPairs-tail R x xs pairs) a b)
  where
    by : (x ≡ a) ⊎ Contains xs a → (x ≡ b) ⊎ Contains xs b
        → (Contains xs a → Contains xs b → (a ≡ b) ⊎ (R a b ⊎ R b a)) → (a ≡ b) ⊎ (R a b ⊎ R b a)
    by (inl e) (inl f) later = inl (sym e ∙ f)
    by (inl e) (inr k) later = inr (inl (subst (λ z. R z b) e (AllPairs-head R x xs pairs b k)))
    by (inr j) (inl f) later = inr (inr (subst (λ z. R z a) f (AllPairs-head R x xs pairs a j)))
    by (inr j) (inr k) later = later j k

-- each stands before all later ones
abbrev pub IsStrict : {X : Type 0} → (X → X → Ordering) → List X → Type 0
IsStrict R xs = AllPairs (λ a b. R a b ≡ Less) xs

-- two lists in strict order with the same members are equal
module _ {X : Type 0} (R : X → X → Ordering) (o : IsTotalOrder R) where
  not_below_itself : (x : X) → ¬ (R x x ≡ Less)
  not_below_itself x h = cc (tied_itself o x)

  -- the members of the one rest are members of the other
  same_rest : (x y : X) (xs ys : List X) → x ≡ y → IsStrict R (x ∷ xs) → (z : X) → Contains xs z → Contains (y ∷ ys) z → Contains ys z
  same_rest x y xs ys e s z c d = elim (Contains-cons_cases y z ys d) [
    | inl f ↦ absurd (not_below_itself x (subst (λ w. R x w ≡ Less) (sym (e ∙ f)) (AllPairs-head (λ a b. R a b ≡ Less) x xs s z c)))
    | inr k ↦ k
  ]

  same_first : (x y : X) (xs ys : List X) → IsStrict R (x ∷ xs) → IsStrict R (y ∷ ys) → Contains (y ∷ ys) x → Contains (x ∷ xs) y → x ≡ y
  same_first x y xs ys s t c d = elim (Contains-cons_cases y x ys c) [
    | inl e ↦ sym e
    | inr j ↦ elim (Contains-cons_cases x y xs d) [
      | inl e ↦ e
      | inr k ↦ absurd (not_below_itself x (o.trans x y x
          (AllPairs-head (λ a b. R a b ≡ Less) x xs s y k) (AllPairs-head (λ a b. R a b ≡ Less) y ys t x j)))
    ]
  ]

  pub same_strict_lists : (xs ys : List X) → IsStrict R xs → IsStrict R ys
      → ((z : X) → Contains xs z → Contains ys z) → ((z : X) → Contains ys z → Contains xs z) → xs ≡ ys
  same_strict_lists [] [] s t f g = refl
  same_strict_lists [] (y ∷ ys) s t f g = absurd (Contains-nil y (g y (Contains-head y ys)))
  same_strict_lists (x ∷ xs) [] s t f g = absurd (Contains-nil x (f x (Contains-head x xs)))
  same_strict_lists (x ∷ xs) (y ∷ ys) s t f g =
      let e = same_first x y xs ys s t (f x (Contains-head x xs)) (g y (Contains-head y ys)) in
      let rest = same_strict_lists xs ys (AllPairs-tail (λ a b. R a b ≡ Less) x xs s) (AllPairs-tail (λ a b. R a b ≡ Less) y ys t)
      (λ z c. same_rest x y xs ys e s z c (f z (Contains-cons x z xs c)))
      (λ z c. same_rest y x ys xs (sym e) t z c (g z (Contains-cons y z ys c))) in
      λ i. e i ∷ rest i
