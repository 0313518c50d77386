-- Lists of names no two of which are equal, as one name comes between two parts and as a part is left out.
use Rattle.std.proofs.Common.{◌≡◌, ◌≢◌, ◌↔◌, ◌⊎◌, List, [], ◌∷◌, ◌++◌, map, sym, ap, subst, ◌∙◌, inl, inr, get_or, All, AllPairs, Contains}
use Rattle.std.proofs.lemmas.List.{append-nil, append_assoc, map-append}
use Rattle.std.proofs.lemmas.List.Elements.{All-nil, All-cons, All-head, All-tail, All-append, All-map, Contains-get_or, Contains-append_left, Contains-append_right, Contains-append_cases}
use Rattle.rule_core.proofs.ListLemmas.{All-from_map, Contains-head, Contains-cons_cases, AllPairs-head, AllPairs-tail, AllPairs-cons}

module _ {X : Type 0} where
  -- no element is this one
  abbrev pub AreOthers : X → List X → Type 0
  AreOthers x xs = All (λ y. y ≢ x) xs

  abbrev pub NoTwo : List X → Type 0
  NoTwo xs = AllPairs (λ a b. a ≢ b) xs

  others_member : (x : X) (xs : List X) → AreOthers x xs → (y : X) → Contains xs y → x ≢ y
  others_member x xs new y c e = new c.0 y c.1 (c.2 ∙ sym e)

  -- one more between two parts
  pub NoTwo-between : (xs ys : List X) (x : X) → NoTwo (xs ++ ys) → AreOthers x (xs ++ ys) → NoTwo (xs ++ x ∷ ys)
  NoTwo-between [] ys x pairs new = AllPairs-cons (λ a b. a ≢ b) x ys (others_member x ys new) pairs
  NoTwo-between (z ∷ xs) ys x pairs new =
      AllPairs-cons (λ a b. a ≢ b) z (xs ++ x ∷ ys) first
      (NoTwo-between xs ys x (AllPairs-tail (λ a b. a ≢ b) z (xs ++ ys) pairs) (All-tail (λ y. y ≢ x) z (xs ++ ys) new))
    where
      before : (y : X) → Contains (xs ++ ys) y → z ≢ y
      before = AllPairs-head (λ a b. a ≢ b) z (xs ++ ys) pairs

      first : (y : X) → Contains (xs ++ x ∷ ys) y → z ≢ y
      first y c = elim (Contains-append_cases xs (x ∷ ys) y c) [
        | inl l ↦ before y (Contains-append_left xs ys y l)
        | inr r ↦ elim (Contains-cons_cases x y ys r) [
          | inl e ↦ λ q. All-head (λ y. y ≢ x) z (xs ++ ys) new (q ∙ sym e)
          | inr k ↦ before y (Contains-append_right xs ys y k)
        ]
      ]

  -- the one between two parts is none of them
  pub others_around : (xs ys : List X) (x : X) → NoTwo (xs ++ x ∷ ys) → AreOthers x (xs ++ ys)
  others_around [] ys x pairs = λ k d l e. AllPairs-head (λ a b. a ≢ b) x ys pairs (get_or ys k d) (Contains-get_or ys k d l) (sym e)
  others_around (z ∷ xs) ys x pairs =
      All-cons (λ y. y ≢ x) z (xs ++ ys)
      (AllPairs-head (λ a b. a ≢ b) z (xs ++ x ∷ ys) pairs x (Contains-append_right xs (x ∷ ys) x (Contains-head x ys)))
      (others_around xs ys x (AllPairs-tail (λ a b. a ≢ b) z (xs ++ x ∷ ys) pairs))

  -- a part in the middle is left out
  pub AllPairs-without : (R : X → X → Type 0) (xs ys zs : List X) → AllPairs R (xs ++ (ys ++ zs)) → AllPairs R (xs ++ zs)
  AllPairs-without R [] [] zs pairs = pairs
  AllPairs-without R [] (y ∷ ys) zs pairs = AllPairs-without R [] ys zs (AllPairs-tail R y (ys ++ zs) pairs)
  AllPairs-without R (x ∷ xs) ys zs pairs =
      AllPairs-cons R x (xs ++ zs)
      (λ y c. AllPairs-head R x (xs ++ (ys ++ zs)) pairs y (more y (Contains-append_cases xs zs y c)))
      (AllPairs-without R xs ys zs (AllPairs-tail R x (xs ++ (ys ++ zs)) pairs))
    where
      more : (y : X) → Contains xs y ⊎ Contains zs y → Contains (xs ++ (ys ++ zs)) y
      more y (inl c) = Contains-append_left xs (ys ++ zs) y c
      more y (inr c) = Contains-append_right xs (ys ++ zs) y (Contains-append_right ys zs y c)

module _ {X : Type 0} (P : X → Type 0) where
  -- what holds of all holds of each part
  pub All-front : (xs ys : List X) → All P (xs ++ ys) → All P xs
  All-front [] ys h = All-nil P
  All-front (x ∷ xs) ys h = All-cons P x xs (All-head P x (xs ++ ys) h) (All-front xs ys (All-tail P x (xs ++ ys) h))

  pub All-back : (xs ys : List X) → All P (xs ++ ys) → All P ys
  All-back [] ys h = h
  All-back (x ∷ xs) ys h = All-back xs ys (All-tail P x (xs ++ ys) h)

-- the names of two kinds, with one more of the first kind or of the second
module _ {A B N : Type 0} (f : A → N) (g : B → N) (as_ : List A) (bs : List B) where
  abbrev pub names_of_both : List A → List B → List N
  names_of_both as_ bs = map f as_ ++ map g bs

  pub with_first : (a : A) → names_of_both (as_ ++ a ∷ []) bs ≡ map f as_ ++ f a ∷ map g bs
  with_first a = ap (λ l. l ++ map g bs) (map-append f as_ (a ∷ [])) ∙ append_assoc (map f as_) (f a ∷ []) (map g bs)

  pub with_second : (b : B) → names_of_both as_ (bs ++ b ∷ []) ≡ names_of_both as_ bs ++ g b ∷ []
  with_second b = ap (λ l. map f as_ ++ l) (map-append g bs (b ∷ [])) ∙ sym (append_assoc (map f as_) (map g bs) (g b ∷ []))

  pub with_first-distinct : (a : A) → NoTwo (names_of_both as_ bs) → AreOthers (f a) (names_of_both as_ bs)
      → NoTwo (names_of_both (as_ ++ a ∷ []) bs)
  with_first-distinct a pairs new = subst (NoTwo {X = N}) (sym (with_first a)) (NoTwo-between (map f as_) (map g bs) (f a) pairs new)

  pub first_is_new : (a : A) → NoTwo (names_of_both (as_ ++ a ∷ []) bs) → AreOthers (f a) (names_of_both as_ bs)
  first_is_new a pairs = others_around (map f as_) (map g bs) (f a) (subst (NoTwo {X = N}) (with_first a) pairs)

  pub with_second-distinct : (b : B) → NoTwo (names_of_both as_ bs) → AreOthers (g b) (names_of_both as_ bs)
      → NoTwo (names_of_both as_ (bs ++ b ∷ []))
  with_second-distinct b pairs new =
      let all = names_of_both as_ bs in
      subst (NoTwo {X = N}) (sym (with_second b))
      (NoTwo-between all [] (g b) (subst (NoTwo {X = N}) (sym (append-nil all)) pairs) (subst (AreOthers (g b)) (sym (append-nil all)) new))

  pub second_is_new : (b : B) → NoTwo (names_of_both as_ (bs ++ b ∷ [])) → AreOthers (g b) (names_of_both as_ bs)
  second_is_new b pairs =
      let all = names_of_both as_ bs in
      subst (AreOthers (g b)) (append-nil all) (others_around all [] (g b) (subst (NoTwo {X = N}) (with_second b) pairs))

  -- a name is new among both exactly where it is among each
  pub others_of_both : (n : N) → AreOthers n (names_of_both as_ bs) ↔ (All (λ a. f a ≢ n) as_ × All (λ b. g b ≢ n) bs)
  others_of_both n = (
    λ new. (
      All-from_map (λ x. x ≢ n) f as_ (All-front (λ x. x ≢ n) (map f as_) (map g bs) new),
      All-from_map (λ x. x ≢ n) g bs (All-back (λ x. x ≢ n) (map f as_) (map g bs) new),
    ),
    λ new. All-append (λ x. x ≢ n) (map f as_) (map g bs) (All-map (λ x. x ≢ n) f as_ new.0) (All-map (λ x. x ≢ n) g bs new.1),
  )

  -- the first of both kinds have no two equal names either
  pub front-distinct : (more : List A) (others : List B) → NoTwo (names_of_both (as_ ++ more) (bs ++ others)) → NoTwo (names_of_both as_ bs)
  front-distinct more others pairs =
      let all = map g bs ++ map g others in
      let split : names_of_both (as_ ++ more) (bs ++ others) ≡ map f as_ ++ (map f more ++ all) =
      (λ i. map-append f as_ more i ++ map-append g bs others i) ∙ append_assoc (map f as_) (map f more) all in
      let first = AllPairs-without (λ a b. a ≢ b) (map f as_) (map f more) all (subst (NoTwo {X = N}) split pairs) in
      let both = names_of_both as_ bs in
      let joined : map f as_ ++ all ≡ both ++ (map g others ++ []) =
      sym (append_assoc (map f as_) (map g bs) (map g others)) ∙ ap (λ l. both ++ l) (sym (append-nil (map g others))) in
      subst (NoTwo {X = N}) (append-nil both)
      (AllPairs-without (λ a b. a ≢ b) both (map g others) [] (subst (NoTwo {X = N}) joined first))
