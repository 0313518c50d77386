-- Texts in the order of their bytes, and the strings that they are read from.
use Rattle.std.proofs.Common.{◌≡◌, ◌||◌, ℕ, ◌<◌, ◌⊎◌, ◌↔◌, inl, inr, ⊎_elim, Bool, true, false, true≢false, if◌then◌else◌, List, [], ◌∷◌, ◌++◌, map, length, get_or, slice_get, Some, Contains, AllPairs, Decides, IsPermutation, IsSorted, append_assoc, append-nil, refl, sym, ap, subst, ◌∙◌, arith}
use Rattle.std.specs.declared.cmp.Ordering.{Ordering}
use Rattle.std.specs.declared.cmp.Ordering.TheVariants.{Less, Equal, Greater}
use Rattle.std.specs.Ordering.{nat_cmp, is_lt, is_eq, ordering_reverse}
use Rattle.std.specs.Cmp.Lexicographic.{slice_cmp, texts_ties, bytes_decides}
use Rattle.std.specs.List.{list_any, position, AllByRecursion, IsDistinct}
use Rattle.std.specs.Str.{bytes_eq}
use Rattle.std.proofs.lemmas.Bool.{cases_lt, cases_eq}
use Rattle.std.proofs.lemmas.Cmp.{nat_list_cmp_total, tied_itself, ranked}
use Rattle.std.proofs.lemmas.List.{get_or-map, length-map}
use Rattle.std.proofs.lemmas.List.Quantifiers.{position-Some}
use Rattle.std.proofs.lemmas.List.Elements.{Contains-append_left, Contains-push, Contains-push_cases}
use Rattle.std.proofs.lemmas.List.Sorted.{sorted_far, ranks_by, IsPermutation-map, IsPermutation-sym, Contains-permutation}
use Rattle.std.proofs.lemmas.Map.Keys.{apart_from_distinct, IsDistinct-head, IsDistinct-tail}
use Rattle.std.proofs.lemmas.Map.Made.{is_member-Decides}
use Rattle.std.proofs.lemmas.Option.{get_or_from_slice_get, slice_get_within, slice_get-get_or}
use Rattle.indexmap.specs.IndexSet.{insert_key, insert_all}
use Rattle.term_core.specs.Pool.{IsBefore}

-- no text stands before itself
pub before_itself : (a : List ℕ) → IsBefore a a → ⊥
before_itself a h = let e : slice_cmp nat_cmp a a ≡ Equal = tied_itself nat_list_cmp_total a in cc

-- nor does each of two stand before the other
pub both_before : (a b : List ℕ) → IsBefore a b → IsBefore b a → ⊥
both_before a b p q = before_itself a (nat_list_cmp_total.trans a b a p q)

less_left : (r : Ordering) → is_eq r ≡ false → is_lt (ordering_reverse r) ≡ false → r ≡ Less
less_left Less p q = refl
less_left Equal p q = absurd (true≢false p)
less_left Greater p q = absurd (true≢false q)

-- one of two texts that differ stands before the other
before_from_not_after : (a b : List ℕ) → is_lt (slice_cmp nat_cmp b a) ≡ false → bytes_eq a b ≡ false → IsBefore a b
before_from_not_after a b low apart =
    less_left (slice_cmp nat_cmp a b) (sym (texts_ties a b) ∙ apart) (sym (ap is_lt (nat_list_cmp_total.antisymm b a)) ∙ low)

module _ (pool : List (List ℕ)) (up : AllPairs IsBefore pool) where
  -- a later place has a later text
  pub before_from_place : (i j : ℕ) (a b : List ℕ) → slice_get pool i ≡ Some a → slice_get pool j ≡ Some b → i < j → IsBefore a b
  before_from_place i j a b p q lt =
      let x : get_or pool i a ≡ a = get_or_from_slice_get pool i a a p in
      let y : get_or pool j a ≡ b = get_or_from_slice_get pool j b a q in
      let e : slice_cmp nat_cmp (get_or pool i a) (get_or pool j a) ≡ slice_cmp nat_cmp a b = λ k. slice_cmp nat_cmp (x k) (y k) in
      sym e ∙ up i j a lt (slice_get_within pool j b q)

  -- and a later text a later place
  pub place_from_before : (i j : ℕ) (a b : List ℕ) → slice_get pool i ≡ Some a → slice_get pool j ≡ Some b → IsBefore a b → i < j
  place_from_before i j a b p q h = ⊎_elim
      (λ lt. lt)
      (λ ge. ⊎_elim
      (λ same.
      let y : get_or pool i a ≡ b = ap (λ k. get_or pool k a) same ∙ get_or_from_slice_get pool j b a q in
      let e : a ≡ b = sym (get_or_from_slice_get pool i a a p) ∙ y in
      absurd (before_itself b (subst (λ c. IsBefore c b) e h)))
      (λ apart. absurd (both_before a b h (before_from_place j i b a q p (omega (arith, ge, apart)))))
      (cases_eq i j))
      (cases_lt i j)

  -- so places compare as their texts
  pub places_compare_alike : (i j : ℕ) (a b : List ℕ) → slice_get pool i ≡ Some a → slice_get pool j ≡ Some b → nat_cmp i j ≡ slice_cmp nat_cmp a b
  places_compare_alike i j a b p q = by (nat_cmp i j) refl
    where
      by : (r : Ordering) → r ≡ nat_cmp i j → nat_cmp i j ≡ slice_cmp nat_cmp a b
      by Less e = sym e ∙ sym (before_from_place i j a b p q (ranked i j Less e))
      by Equal e =
          let y : get_or pool i a ≡ b = ap (λ k. get_or pool k a) (ranked i j Equal e) ∙ get_or_from_slice_get pool j b a q in
          let same : a ≡ b = sym (get_or_from_slice_get pool i a a p) ∙ y in
          sym e ∙ sym (ap (λ c. slice_cmp nat_cmp c b) same ∙ tied_itself nat_list_cmp_total b)
      by Greater e =
          sym e ∙ sym (nat_list_cmp_total.antisymm a b ∙ ap ordering_reverse (before_from_place j i b a q p (ranked i j Greater e)))

-- a text that stands at a place is there
pub found_there : (pool : List (List ℕ)) (i : ℕ) (a : List ℕ) → slice_get pool i ≡ Some a → Contains pool a
found_there pool i a p = (i, slice_get_within pool i a p, get_or_from_slice_get pool i a a p)

-- adding a text that is there changes nothing
pub texts_with_known : (texts : List (List ℕ)) (q : List ℕ) → Contains texts q → (t : List ℕ) → Contains texts t ↔ (Contains texts t ⊎ (t ≡ q))
texts_with_known texts q there t = (λ h. inl h, λ h. ⊎_elim (λ old. old) (λ e. subst (λ u. Contains texts u) (sym e) there) h)

-- a text that is added last stands with the old ones
pub texts_with_last : (texts new : List (List ℕ)) (q : List ℕ) → new ≡ texts ++ q ∷ [] → (t : List ℕ)
    → Contains new t ↔ (Contains texts t ⊎ (t ≡ q))
texts_with_last texts new q made t = (
  λ h. ⊎_elim (λ old. inl old) (λ e. inr (sym e)) (Contains-push_cases texts q t (subst (λ l. Contains l t) made h)),
  λ h. subst (λ l. Contains l t) (sym made) (⊎_elim
      (λ old. Contains-append_left texts (q ∷ []) t old)
      (λ e. subst (λ u. Contains (texts ++ q ∷ []) u) (sym e) (Contains-push texts q)) h),
)

module _ {X : Type 0} (bytes : X → List ℕ) where
  -- whether one of the strings has the text
  pub any_Decides : (keys : List X) (q : List ℕ) → Decides (list_any (λ k. bytes_eq q (bytes k)) keys) (Contains (map bytes keys) q)
  any_Decides keys q = subst (λ b. Decides b (Contains (map bytes keys) q)) (any-map keys) (is_member-Decides bytes_decides (map bytes keys) q)
    where
      any-map : (keys : List X) → list_any (bytes_eq q) (map bytes keys) ≡ list_any (λ k. bytes_eq q (bytes k)) keys
      any-map [] = refl
      any-map (x ∷ xs) = λ i. bytes_eq q (bytes x) || any-map xs i

  map-push : (keys : List X) (k : X) → map bytes (keys ++ k ∷ []) ≡ map bytes keys ++ bytes k ∷ []
  map-push [] k = refl
  map-push (x ∷ xs) k = ap (λ l. bytes x ∷ l) (map-push xs k)

  -- a text that is new goes last
  pub inserted_last : (keys new : List X) (k : X) (q : List ℕ) → bytes k ≡ q → list_any (λ x. bytes_eq q (bytes x)) keys ≡ false
      → new ≡ insert_key (λ x y. bytes_eq (bytes x) (bytes y)) keys k → map bytes new ≡ map bytes keys ++ q ∷ []
  inserted_last keys new k q same absent made =
      let none : list_any (λ x. bytes_eq (bytes k) (bytes x)) keys ≡ false = ap (λ a. list_any (λ x. bytes_eq a (bytes x)) keys) same ∙ absent in
      ap (map bytes) (made ∙ ap (λ b. if b then keys else keys ++ k ∷ []) none) ∙ map-push keys k ∙ ap (λ a. map bytes keys ++ a ∷ []) same

  -- another order of the strings has the same texts
  pub same_texts : (keys new : List X) → IsPermutation keys new → (t : List ℕ) → Contains (map bytes new) t ↔ Contains (map bytes keys) t
  same_texts keys new p t = (
    λ h. Contains-permutation (map bytes new) (map bytes keys) t (IsPermutation-map bytes new keys (IsPermutation-sym keys new p)) h,
    λ h. Contains-permutation (map bytes keys) (map bytes new) t (IsPermutation-map bytes keys new p) h,
  )

  -- strings that are sorted and distinct have their texts in order
  pub order_from_sorted : (keys : List X) → IsSorted (λ x y. slice_cmp nat_cmp (bytes x) (bytes y)) keys
      → IsDistinct (λ x y. bytes_eq (bytes x) (bytes y)) keys → AllPairs IsBefore (map bytes keys)
  order_from_sorted [] sorted apart i j d lt within = absurd (omega arith)
  order_from_sorted (x ∷ xs) sorted apart i j d lt within =
      let keys = x ∷ xs in
      let inside : j < length keys = omega (arith, within, length-map keys bytes) in
      let a : get_or (map bytes keys) i d ≡ bytes (get_or keys i x) = get_or-map bytes keys i x d (omega arith) in
      let b : get_or (map bytes keys) j d ≡ bytes (get_or keys j x) = get_or-map bytes keys j x d inside in
      let e : slice_cmp nat_cmp (get_or (map bytes keys) i d) (get_or (map bytes keys) j d)
      ≡ slice_cmp nat_cmp (bytes (get_or keys i x)) (bytes (get_or keys j x)) = λ k. slice_cmp nat_cmp (a k) (b k) in
      e ∙ before_from_not_after (bytes (get_or keys i x)) (bytes (get_or keys j x))
      (sorted_far _ (ranks_by nat_list_cmp_total bytes) keys sorted i j x (omega arith) inside)
      (apart_from_distinct _ keys i j x apart lt inside)

  -- the first string with the text has the text's place
  pub found_at : (keys : List X) (q : List ℕ) (i : ℕ) → position (λ k. bytes_eq q (bytes k)) keys ≡ Some i → slice_get (map bytes keys) i ≡ Some q
  found_at [] q i e = absurd cc
  found_at (x ∷ xs) q i e =
      let keys = x ∷ xs in
      let p = position-Some (λ k. bytes_eq q (bytes k)) keys i x e in
      let same : q ≡ bytes (get_or keys i x) = (bytes_decides q (bytes (get_or keys i x))).0 p.1 in
      slice_get-get_or (map bytes keys) i q (omega (arith, p.0, length-map keys bytes)) ∙ ap Some (get_or-map bytes keys i x q p.0 ∙ sym same)

-- a test of a list with one item more
list_any-push : {X : Type 0} (p : X → Bool) (xs : List X) (y : X) → list_any p xs ≡ false → p y ≡ false → list_any p (xs ++ y ∷ []) ≡ false
list_any-push p [] y a b = ap (λ v. v || false) b
list_any-push p (x ∷ xs) y a b = or_push (p x) (list_any p xs) (list_any p (xs ++ y ∷ [])) a (λ none. list_any-push p xs y none b)
  where
    or_push : (u v w : Bool) → (u || v) ≡ false → (v ≡ false → w ≡ false) → (u || w) ≡ false
    or_push true v w e f = e
    or_push false v w e f = f e

module _ {X : Type 0} (eq : X → X → Bool) (flips : (x y : X) → eq x y ≡ eq y x) where
  -- items that none of a list is equal to still are so where one more, that is equal to none of them, stands in it
  none_pushed : (done : List X) (x : X) (xs : List X) → AllByRecursion (λ y. list_any (eq y) done ≡ false) xs
      → AllByRecursion (λ y. eq x y ≡ false) xs → AllByRecursion (λ y. list_any (eq y) (done ++ x ∷ []) ≡ false) xs
  none_pushed done x [] a b = tt
  none_pushed done x (y ∷ ys) a b = (list_any-push (eq y) done x a.0 (flips y x ∙ b.0), none_pushed done x ys a.1 b.1)

  -- distinct items that are inserted in turn go last
  inserted_after : (done xs : List X) → AllByRecursion (λ y. list_any (eq y) done ≡ false) xs → IsDistinct eq xs
      → insert_all eq done xs ≡ done ++ xs
  inserted_after done [] a d = sym (append-nil done)
  inserted_after done (x ∷ xs) a d =
      ap (λ b. insert_all eq (if b then done else done ++ x ∷ []) xs) a.0
      ∙ inserted_after (done ++ x ∷ []) xs (none_pushed done x xs a.1 (IsDistinct-head eq x xs d)) (IsDistinct-tail eq x xs d)
      ∙ append_assoc done (x ∷ []) xs

  none_of_nothing : (xs : List X) → AllByRecursion (λ y. list_any (eq y) [] ≡ false) xs
  none_of_nothing [] = tt
  none_of_nothing (x ∷ xs) = (refl, none_of_nothing xs)

  -- so a set that is made of distinct items has just these
  pub inserted_distinct : (xs : List X) → IsDistinct eq xs → insert_all eq [] xs ≡ xs
  inserted_distinct xs d = inserted_after [] xs (none_of_nothing xs) d

-- the equality of texts goes both ways
pub bytes_eq-flips : (a b : List ℕ) → bytes_eq a b ≡ bytes_eq b a
bytes_eq-flips a b = by (bytes_eq a b) (bytes_eq b a) (bytes_decides a b) (bytes_decides b a)
  where
    by : (u v : Bool) → Decides u (a ≡ b) → Decides v (b ≡ a) → u ≡ v
    by true true d e = refl
    by true false d e = sym (e.1 (sym (d.0 refl)))
    by false true d e = d.1 (sym (e.0 refl))
    by false false d e = refl
