-- Lists of which several places are filled.
use Rattle.std.proofs.Common.{◌≡◌, ◌≢◌, ◌⊎◌, inl, inr, ℕ, zero, suc, Option, Some, None, List, [], ◌∷◌, ◌++◌, length, map, set, refl, sym, ap, ◌∙◌, subst, arith, ⊎_elim, Contains, IsPermutation}
use Rattle.std.specs.Prelude.{slice_get}
use Rattle.std.specs.List.{cons_option, filter_map}
use Rattle.std.specs.Option.{option_map}
use Rattle.std.proofs.lemmas.Bool.{cases_eq}
use Rattle.std.proofs.lemmas.List.{append_assoc}
use Rattle.std.proofs.lemmas.List.Sorted.{IsPermutation-refl, IsPermutation-trans, IsPermutation-sym, IsPermutation-cons, IsPermutation-to_front, IsPermutation-append_left, IsPermutation-append_right, IsPermutation-append_comm}
use Rattle.null_store.specs.Splits.{AreOnce}
use Rattle.null_store.proofs.ListLemmas.{held_at, held_same, one_added, at_from_contains}

-- whether a number is in a list, and where
pub place_or_none : (ns : List ℕ) (n : ℕ) → ((k : ℕ) × (slice_get ns k ≡ Some n)) ⊎ ((k : ℕ) → slice_get ns k ≢ Some n)
place_or_none [] n = inr (λ k e. cc)
place_or_none (x ∷ ns) n = ⊎_elim
    (λ (same : x ≡ n). inl (zero, ap Some same))
    (λ (differ : x ≢ n). ⊎_elim
    (λ (h : (k : ℕ) × (slice_get ns k ≡ Some n)). inl (suc h.0, h.1))
    (λ (none : (k : ℕ) → slice_get ns k ≢ Some n). inr (λ k. by differ none k))
    (place_or_none ns n))
    (cases_eq x n)
  where
    by : x ≢ n → ((k : ℕ) → slice_get ns k ≢ Some n) → (k : ℕ) → slice_get (x ∷ ns) k ≢ Some n
    by differ none zero e = differ cc
    by differ none (suc k) e = none k e

pub listed_or_not : (ns : List ℕ) (n : ℕ) → ((k : ℕ) × (slice_get ns k ≡ Some n)) ⊎ ¬ (Contains ns n)
listed_or_not ns n = ⊎_elim
    (λ (h : (k : ℕ) × (slice_get ns k ≡ Some n)). inl h)
    (λ (none : (k : ℕ) → slice_get ns k ≢ Some n). inr (λ c. none c.0 (at_from_contains ns n c.0 c.1 c.2)))
    (place_or_none ns n)

-- what is chosen by numbers for each of which there is something
pub chosen : {X : Type 0} (h : ℕ → Option X) (ns : List ℕ) → ((k n : ℕ) → slice_get ns k ≡ Some n → (x : X) × (h n ≡ Some x))
    → (length ns ≡ length (filter_map h ns)) × ((k n : ℕ) → slice_get ns k ≡ Some n → slice_get (filter_map h ns) k ≡ h n)
chosen h [] there = (refl, λ k n e. absurd cc)
chosen {X} h (n ∷ ns) there =
    let first = there zero n refl in
    let rest = chosen h ns (λ k j e. there (suc k) j e) in
    subst (λ (l : List X). (length (n ∷ ns) ≡ length l) × ((k j : ℕ) → slice_get (n ∷ ns) k ≡ Some j → slice_get l k ≡ h j)) (sym (by first.0 first.1))
    (ap suc rest.0, λ k j e. at first.0 first.1 rest.1 k j e)
  where
    by : (x : X) → h n ≡ Some x → filter_map h (n ∷ ns) ≡ x ∷ filter_map h ns
    by x e = ap (λ (o : Option X). cons_option o (filter_map h ns)) e

    at : (x : X) → h n ≡ Some x → ((k j : ℕ) → slice_get ns k ≡ Some j → slice_get (filter_map h ns) k ≡ h j)
        → (k j : ℕ) → slice_get (n ∷ ns) k ≡ Some j → slice_get (x ∷ filter_map h ns) k ≡ h j
    at x e rest zero j is = let same : n ≡ j = cc in sym e ∙ ap h same
    at x e rest (suc k) j is = rest k j is

-- what is there of a list that is mapped
pub held_mapped : {X Y : Type 0} (f : X → Y) (xs : List (Option X)) (n : ℕ) → held_at (map (option_map f) xs) n ≡ option_map f (held_at xs n)
held_mapped f [] n = refl
held_mapped f (x ∷ xs) zero = refl
held_mapped f (x ∷ xs) (suc n) = held_mapped f xs n

pub flat_mapped : {X Y : Type 0} (f : X → Y) (xs : List (Option X))
    → filter_map (λ (o : Option Y). o) (map (option_map f) xs) ≡ filter_map (option_map f) xs
flat_mapped f [] = refl
flat_mapped f (None ∷ xs) = flat_mapped f xs
flat_mapped f (Some x ∷ xs) = ap (λ l. f x ∷ l) (flat_mapped f xs)

module _ {X : Type 0} where
  abbrev flat : List (Option X) → List X
  flat xs = filter_map (λ (o : Option X). o) xs

  -- what stands at a place that is emptied, and at others
  emptied : (xs : List (Option X)) (n : ℕ) → held_at (set xs n None) n ≡ None
  emptied [] n = refl
  emptied (x ∷ xs) zero = refl
  emptied (x ∷ xs) (suc n) = emptied xs n

  kept : (xs : List (Option X)) (n j : ℕ) → j ≢ n → held_at (set xs n None) j ≡ held_at xs j
  kept [] n j h = refl
  kept (x ∷ xs) zero zero h = absurd (h refl)
  kept (x ∷ xs) zero (suc j) h = refl
  kept (x ∷ xs) (suc n) zero h = refl
  kept (x ∷ xs) (suc n) (suc j) h = kept xs n j (λ e. h (ap suc e))

  -- the one list has these at places that are empty in the other, and else they hold the same
  pub record Fills (base full : List (Option X)) (ns : List ℕ) (vs : List X) : Type 0 where
    pub size : length ns ≡ length vs
    pub empty : (k n : ℕ) → slice_get ns k ≡ Some n → held_at base n ≡ None
    pub here : (k n : ℕ) (v : X) → slice_get ns k ≡ Some n → slice_get vs k ≡ Some v → held_at full n ≡ Some v
    pub once : AreOnce ns
    pub others : (n : ℕ) → ((k : ℕ) → slice_get ns k ≢ Some n) → held_at full n ≡ held_at base n

  -- then it has these more
  pub filled : (base full : List (Option X)) (ns : List ℕ) (vs : List X) → Fills base full ns vs → IsPermutation (vs ++ flat base) (flat full)
  filled base full [] [] h = subst (IsPermutation (flat base)) (held_same base full (λ n. h.others n (λ k e. cc))) (IsPermutation-refl (flat base))
  filled base full [] (v ∷ vs) h = let size = h.size in absurd (omega (arith, size))
  filled base full (n ∷ ns) [] h = let size = h.size in absurd (omega (arith, size))
  filled base full (n ∷ ns) (v ∷ vs) h =
      let mid = set full n None in
      let other : (k j : ℕ) → slice_get ns k ≡ Some j → j ≢ n = λ k j e same.
      let clash = h.once (suc k) zero n (e ∙ ap Some same) refl in absurd (omega (arith, clash)) in
      let rest = filled base mid ns vs (record {
        size = let size = h.size in omega (arith, size);
        empty = λ k j e. h.empty (suc k) j e;
        here = λ k j w a b. kept full n j (other k j a) ∙ h.here (suc k) j w a b;
        once = λ i k j a b. let same = h.once (suc i) (suc k) j a b in omega (arith, same);
        others = λ j none. ⊎_elim
            (λ (same : j ≡ n). ap (held_at mid) same ∙ emptied full n ∙ sym (ap (held_at base) same ∙ h.empty zero n refl))
            (λ (differ : j ≢ n). kept full n j differ ∙ h.others j (λ k. apart j k differ none))
            (cases_eq j n);
      }) in
      IsPermutation-trans (v ∷ (vs ++ flat base)) (v ∷ flat mid) (flat full)
      (IsPermutation-cons v (vs ++ flat base) (flat mid) rest)
      (IsPermutation-trans (v ∷ flat mid) (flat mid ++ v ∷ []) (flat full)
      (IsPermutation-sym (flat mid ++ v ∷ []) (v ∷ flat mid) (IsPermutation-to_front (flat mid) v))
      (one_added mid full n v (emptied full n) (h.here zero n v refl refl) (λ j differ. sym (kept full n j differ))))
    where
      apart : (j k : ℕ) → j ≢ n → ((i : ℕ) → slice_get ns i ≢ Some j) → slice_get (n ∷ ns) k ≢ Some j
      apart j zero differ none e = differ cc
      apart j (suc k) differ none e = none k e

  -- the list with empty places
  abbrev cleared : List (Option X) → List ℕ → List (Option X)
  cleared xs [] = xs
  cleared xs (n ∷ ns) = set (cleared xs ns) n None

  cleared_here : (xs : List (Option X)) (ns : List ℕ) (k n : ℕ) → slice_get ns k ≡ Some n → held_at (cleared xs ns) n ≡ None
  cleared_here xs [] k n e = absurd cc
  cleared_here xs (j ∷ ns) zero n e = let same : j ≡ n = cc in ap (held_at (set (cleared xs ns) j None)) (sym same) ∙ emptied (cleared xs ns) j
  cleared_here xs (j ∷ ns) (suc k) n e = ⊎_elim
      (λ (same : n ≡ j). ap (held_at (set (cleared xs ns) j None)) same ∙ emptied (cleared xs ns) j)
      (λ (differ : n ≢ j). kept (cleared xs ns) j n differ ∙ cleared_here xs ns k n e)
      (cases_eq n j)

  cleared_else : (xs : List (Option X)) (ns : List ℕ) (n : ℕ) → ((k : ℕ) → slice_get ns k ≢ Some n) → held_at (cleared xs ns) n ≡ held_at xs n
  cleared_else xs [] n none = refl
  cleared_else xs (j ∷ ns) n none =
      kept (cleared xs ns) j n (λ same. none zero (ap Some (sym same))) ∙ cleared_else xs ns n (λ k. none (suc k))

  fills_cleared : (xs : List (Option X)) (ns : List ℕ) (vs : List X) → length ns ≡ length vs → AreOnce ns
      → ((k n : ℕ) (v : X) → slice_get ns k ≡ Some n → slice_get vs k ≡ Some v → held_at xs n ≡ Some v) → Fills (cleared xs ns) xs ns vs
  fills_cleared xs ns vs size once here = record {
    size = size;
    empty = λ k n e. cleared_here xs ns k n e;
    here = here;
    once = once;
    others = λ n none. sym (cleared_else xs ns n none);
  }

  -- things at some places change, and others are put to empty places
  module _ (xs ys : List (Option X)) (ns cs : List ℕ) (vs firsts seconds : List X) (size : length ns ≡ length vs)
      (first_size : length ns ≡ length firsts) (second_size : length cs ≡ length seconds) (once : AreOnce ns) (other_once : AreOnce cs)
      (was : (k n : ℕ) (v : X) → slice_get ns k ≡ Some n → slice_get vs k ≡ Some v → held_at xs n ≡ Some v)
      (there : (k n : ℕ) → slice_get ns k ≡ Some n → (v : X) × (held_at xs n ≡ Some v))
      (now : (k n : ℕ) (v : X) → slice_get ns k ≡ Some n → slice_get firsts k ≡ Some v → held_at ys n ≡ Some v)
      (vacant : (k c : ℕ) → slice_get cs k ≡ Some c → held_at xs c ≡ None)
      (new : (k c : ℕ) (v : X) → slice_get cs k ≡ Some c → slice_get seconds k ≡ Some v → held_at ys c ≡ Some v)
      (stay : (n : ℕ) → ((k : ℕ) → slice_get ns k ≢ Some n) → ((k : ℕ) → slice_get cs k ≢ Some n) → held_at ys n ≡ held_at xs n) where
    abbrev pub rest : List X
    rest = flat (cleared xs ns)

    pub before : IsPermutation (vs ++ rest) (flat xs)
    before = filled (cleared xs ns) xs ns vs (fills_cleared xs ns vs size once was)

    -- a place that is changed is no other place
    not_new : (k n : ℕ) → slice_get ns k ≡ Some n → (j : ℕ) → slice_get cs j ≢ Some n
    not_new k n e j h =
        let v = there k n e in
        let clash : None ≡ Some v.0 = sym (vacant j n h) ∙ v.1 in cc

    halfway : Fills (cleared xs ns) (cleared ys cs) ns firsts
    halfway = record {
      size = first_size;
      empty = λ k n e. cleared_here xs ns k n e;
      here = λ k n v a b. cleared_else ys cs n (not_new k n a) ∙ now k n v a b;
      once = once;
      others = λ n none. ⊎_elim
          (λ (h : (k : ℕ) × (slice_get cs k ≡ Some n)).
          cleared_here ys cs h.0 n h.1 ∙ sym (cleared_else xs ns n none ∙ vacant h.0 n h.1))
          (λ (out : (k : ℕ) → slice_get cs k ≢ Some n). cleared_else ys cs n out ∙ stay n none out ∙ sym (cleared_else xs ns n none))
          (place_or_none cs n);
    }

    turned : (us ws zs : List X) → IsPermutation (us ++ (ws ++ zs)) (ws ++ (us ++ zs))
    turned us ws zs = subst (λ l. IsPermutation l (ws ++ (us ++ zs))) (append_assoc us ws zs)
        (subst (IsPermutation ((us ++ ws) ++ zs)) (append_assoc ws us zs)
        (IsPermutation-append_left zs (us ++ ws) (ws ++ us) (IsPermutation-append_comm us ws)))

    pub after : IsPermutation (firsts ++ (seconds ++ rest)) (flat ys)
    after = IsPermutation-trans (firsts ++ (seconds ++ rest)) (seconds ++ (firsts ++ rest)) (flat ys)
        (turned firsts seconds rest)
        (IsPermutation-trans (seconds ++ (firsts ++ rest)) (seconds ++ flat (cleared ys cs)) (flat ys)
        (IsPermutation-append_right seconds (firsts ++ rest) (flat (cleared ys cs)) (filled (cleared xs ns) (cleared ys cs) ns firsts halfway))
        (filled (cleared ys cs) ys cs seconds (fills_cleared ys cs seconds second_size other_once new)))
