-- Numbers that are new behind others that are.
use Rattle.std.proofs.Common.{◌≡◌, ◌≢◌, ℕ, ◌+◌, ◌<◌, List, [], ◌∷◌, ◌++◌, take, drop, get_or, length, refl, sym, ap, ◌∙◌, subst, inl, inr, AllPairs, Contains}
use Rattle.std.specs.List.{flat_map}
use Rattle.std.proofs.lemmas.List.{flat_map_more, take_more, take-append-drop, drop_more}
use Rattle.std.proofs.lemmas.List.Concat.{flat_map-append}
use Rattle.std.proofs.lemmas.List.Elements.{All-append, All-contains, All-contains_itself, All-weaker, Contains-append_left, Contains-append_right, Contains-append_cases}
use Rattle.rule_core.proofs.ListLemmas.{Contains-nil, Contains-head, Contains-cons, Contains-cons_cases, AllPairs-nil, AllPairs-cons, AllPairs-head, AllPairs-tail}
use Rattle.failure_trace.specs.TraceRun.{AreNew}

abbrev Apart : List ℕ → Type 0
Apart ns = AllPairs (λ a b. a ≢ b) ns

apart_append : (xs ys : List ℕ) → Apart xs → Apart ys → ((x y : ℕ) → Contains xs x → Contains ys y → x ≢ y) → Apart (xs ++ ys)
apart_append [] ys a b h = b
apart_append (x ∷ xs) ys a b h =
    AllPairs-cons (λ a b. a ≢ b) x (xs ++ ys)
    (λ y c. elim (Contains-append_cases xs ys y c) [
      | inl d ↦ AllPairs-head (λ a b. a ≢ b) x xs a y d
      | inr d ↦ h x y (Contains-head x xs) d
    ])
    (apart_append xs ys (AllPairs-tail (λ a b. a ≢ b) x xs a) b (λ u v c d. h u v (Contains-cons x u xs c) d))

apart_first : (xs ys : List ℕ) → Apart (xs ++ ys) → Apart xs
apart_first [] ys p = AllPairs-nil (λ a b. a ≢ b)
apart_first (x ∷ xs) ys p =
    AllPairs-cons (λ a b. a ≢ b) x xs (λ y c. AllPairs-head (λ a b. a ≢ b) x (xs ++ ys) p y (Contains-append_left xs ys y c))
    (apart_first xs ys (AllPairs-tail (λ a b. a ≢ b) x (xs ++ ys) p))

apart_second : (xs ys : List ℕ) → Apart (xs ++ ys) → Apart ys
apart_second [] ys p = p
apart_second (x ∷ xs) ys p = apart_second xs ys (AllPairs-tail (λ a b. a ≢ b) x (xs ++ ys) p)

apart_across : (xs ys : List ℕ) → Apart (xs ++ ys) → (x y : ℕ) → Contains xs x → Contains ys y → x ≢ y
apart_across [] ys p x y c d = absurd (Contains-nil x c)
apart_across (z ∷ xs) ys p x y c d = elim (Contains-cons_cases z x xs c) [
  | inl e ↦ subst (λ w. w ≢ y) e (AllPairs-head (λ a b. a ≢ b) z (xs ++ ys) p y (Contains-append_right xs ys y d))
  | inr r ↦ apart_across xs ys (AllPairs-tail (λ a b. a ≢ b) z (xs ++ ys) p) x y r d
]

pub new_append : (used xs ys : List ℕ) → AreNew used xs → AreNew (used ++ xs) ys → AreNew used (xs ++ ys)
new_append used xs ys a b = (
  apart_append xs ys a.0 b.0 (λ x y c d e. All-contains (λ n. ¬ (Contains (used ++ xs) n)) ys y b.1 d
      (Contains-append_right used xs y (subst (Contains xs) e c))),
  All-append (λ n. ¬ (Contains used n)) xs ys a.1
      (All-weaker (λ n. ¬ (Contains (used ++ xs) n)) (λ n. ¬ (Contains used n)) (λ n h c. h (Contains-append_left used xs n c)) ys b.1),
)

pub new_middle : (used xs ys zs : List ℕ) → AreNew used (xs ++ (ys ++ zs)) → AreNew (used ++ xs) ys
new_middle used xs ys zs a = (
  apart_first ys zs (apart_second xs (ys ++ zs) a.0),
  All-weaker (Contains ys) (λ n. ¬ (Contains (used ++ xs) n)) (λ n c d. elim (Contains-append_cases used xs n d) [
    | inl u ↦ All-contains (λ n. ¬ (Contains used n)) (xs ++ (ys ++ zs)) n a.1
        (Contains-append_right xs (ys ++ zs) n (Contains-append_left ys zs n c)) u
    | inr x ↦ apart_across xs (ys ++ zs) a.0 n n x (Contains-append_left ys zs n c) refl
  ]) ys (All-contains_itself ys),
)

-- what one element more adds
pub flat_more : {X : Type 0} (f : X → List ℕ) (xs : List X) (i : ℕ) (x : X) → i < length xs → x ≡ get_or xs i x
    → flat_map f (take i xs) ++ f x ≡ flat_map f (take (i + 1) xs)
flat_more f xs i x lt at =
    flat_map_more f [] (take i xs) x ∙ ap (flat_map f) (sym (take_more xs i x lt ∙ ap (λ y. take i xs ++ y ∷ []) (sym at)))

-- numbers of one element more
pub new_more : {X : Type 0} (f : X → List ℕ) (used : List ℕ) (xs : List X) (i : ℕ) (x : X) → i < length xs → x ≡ get_or xs i x
    → AreNew used (flat_map f (take i xs)) → AreNew (used ++ flat_map f (take i xs)) (f x) → AreNew used (flat_map f (take (i + 1) xs))
new_more f used xs i x lt at a b =
    subst (AreNew used) (flat_more f xs i x lt at)
    (new_append used (flat_map f (take i xs)) (f x) a b)

pub new_here : {X : Type 0} (f : X → List ℕ) (used : List ℕ) (xs : List X) (i : ℕ) (x : X) → i < length xs → x ≡ get_or xs i x
    → AreNew used (flat_map f xs) → AreNew (used ++ flat_map f (take i xs)) (f x)
new_here f used xs i x lt at a =
    let rest = flat_map f (drop (i + 1) xs) in
    let split : xs ≡ take i xs ++ (x ∷ drop (i + 1) xs) =
    sym (take-append-drop i xs) ∙ ap (λ l. take i xs ++ l) (drop_more xs i x lt ∙ ap (λ y. y ∷ drop (i + 1) xs) (sym at)) in
    new_middle used (flat_map f (take i xs)) (f x) rest
    (subst (AreNew used) (ap (flat_map f) split ∙ flat_map-append f (take i xs) (x ∷ drop (i + 1) xs)) a)
