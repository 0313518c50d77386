-- The cuts of facts of groups, and parts of a list in order.
use Rattle.std.proofs.Common.{◌≡◌, ◌↔◌, ◌⊎◌, ℕ, ℤ, ◌==◌, ◌+◌, ◌-◌, ◌<◌, ◌≤◌, ◌<ℤ◌, Bool, true, false, nat_lt, Some, List, length, get_or, set, take, drop, replicate, refl, sym, ap, ◌∙◌, subst, inl, inr, ⊎_elim, arith, AllPairs, Contains, slice_get, slice_index}
use Rattle.std.specs.Prelude.{IsSomeAnd, ◌||◌, ◌&&◌}
use Rattle.std.specs.Bool.{Decides}
use Rattle.std.specs.Cmp.{IsTotalOrder, IsEquivalence}
use Rattle.std.specs.FinMap.{nat_cmp-IsAntisymmetric, int_cmp-IsAntisymmetric}
use Rattle.std.specs.List.{dedup}
use Rattle.std.proofs.lemmas.List.Elements.{All-contains, Contains-get_or}
use Rattle.std.proofs.lemmas.List.Kept.{Contains-dedup, Contains-from_dedup, IsStrictlySortedBy-dedup}
use Rattle.std.proofs.lemmas.List.Sorted.{Contains-permutation, IsPermutation-sym}
use Rattle.std.proofs.lemmas.Map.Keys.{Less-from_sorted}
use Rattle.std.specs.declared.cmp.Ordering.{Ordering}
use Rattle.std.specs.declared.cmp.Ordering.TheVariants.{Less, Equal, Greater}
use Rattle.std.specs.Ordering.{nat_cmp, int_cmp, ordering_then, is_eq, eq_by_cmp}
use Rattle.std.specs.List.Sorted.{IsPermutation, IsSorted, IsPartitionedBy, IsPartitionPoint}
use Rattle.std.proofs.lemmas.Bool.{cases_lt}
use Rattle.std.proofs.lemmas.Bool.Decides.{nat_tests, Decides-eqb, Decides-ltb, Decides-and, Decides-or}
use Rattle.std.proofs.lemmas.Cmp.{int_ranked, then_total, on_total, nat_cmp_total, int_cmp_total}
use Rattle.std.proofs.lemmas.List.{get_or-drop, length-drop, get_or-take, length-take-le, get_or-set_same, get_or-set_other, length-set, get_or-replicate, get_or_past, length-replicate}
use Rattle.time_line.specs.Span.{Ends, IsInside, IsWithinLimit}
use Rattle.rule_core.proofs.ListLemmas.{Contains-map, Contains-from_map, AllPairs-map, AllPairs-members_weaker}
use Rattle.fact_table.specs.declared.fact.Fact.{Fact}
use Rattle.body_match.proofs.ListLemmas.{within_from_at}
use Rattle.body_match.proofs.SearchLemmas.{some_and, and_some, same_some}
use Rattle.normaliser.specs.declared.cuts.Cut.{Cut}
use Rattle.normaliser.specs.Normalised.{IsEndOf}
use Rattle.normaliser.specs.Cuts.{cut, cut_cmp, AreCutsInOrder, AreInOrder, IsCutAt, AddsCut, ats, AreWithinLimit, IsShared, AreShared, AreCuts, AddsCuts, is_up_to, is_before, is_up_to_start, is_before_stop}
use Rattle.normaliser.proofs.InsideLemmas.{inside_tests}
use Rattle.normaliser.proofs.LabelLemmas.{same_or_not}

-- a further one of the first places has the group for the least of its group
abbrev pub IsSharedBelow : List ℕ → ℕ → ℕ → Type 0
IsSharedBelow places index group = (n : ℕ) × (n < index) × (slice_index places n ≡ group) × (n ≡ group → ⊥)

-- a cut of one of the first facts
abbrev pub IsCutBelow : List Fact → List ℕ → ℕ → Cut → Type 0
IsCutBelow facts places index c = IsShared places c.group
    × ((n : ℕ) × (n < index) × (slice_index places n ≡ c.group) × IsSomeAnd (slice_get facts n) (λ fact. IsEndOf fact.span c.at))

-- parts of a list in order are in order
module _ {X : Type 0} (R : X → X → Type 0) where
  pub order_drop : (xs : List X) (n : ℕ) → AllPairs R xs → AllPairs R (drop n xs)
  order_drop xs n order i j d before within =
      rw (get_or-drop n xs i d, get_or-drop n xs j d) (order (n + i) (n + j) d (omega (arith, before)) (omega (arith, within, length-drop n xs)))

  pub order_take : (xs : List X) (n : ℕ) → n ≤ length xs → AllPairs R xs → AllPairs R (take n xs)
  order_take xs n size order i j d before within =
      let l = length-take-le n xs size in
      rw (get_or-take n xs i d (omega (arith, before, within, l)), get_or-take n xs j d (omega (arith, within, l)))
      (order i j d before (omega (arith, within, size, l)))

  -- a test that holds before each element for which it holds parts them
  pub parted : (p : X → Bool) → ((a b : X) → R a b → p b ≡ true → p a ≡ true) → (xs : List X) → AllPairs R xs → IsPartitionedBy p xs
  parted p down xs order i j d le within e = ⊎_elim
      (λ (before : i < j). down (get_or xs i d) (get_or xs j d) (order i j d before within) e)
      (λ (after : j ≤ i). let same : j ≡ i = omega (arith, after, le) in subst (λ k. p (get_or xs k d) ≡ true) same e)
      (cases_lt i j)

-- what stands before a point of parting, and from it on
module _ {X : Type 0} (p : X → Bool) (xs : List X) (n : ℕ) (point : IsPartitionPoint (λ y. p y ≡ true) (λ y. p y ≡ false) xs n) where
  pub in_front : n ≤ length xs → (m : X) → Contains (take n xs) m ↔ (Contains xs m × (p m ≡ true))
  in_front size m = (
    λ c.
        let l : c.0 < n = omega (arith, c.1, length-take-le n xs size) in
        let at : get_or xs c.0 m ≡ m = sym (get_or-take n xs c.0 m l) ∙ c.2 in
        ((c.0, omega (arith, l, size), at), subst (λ z. p z ≡ true) at (point.0 c.0 m (omega arith) l)),
    λ h. ⊎_elim
        (λ (l : h.0.0 < n). (h.0.0, omega (arith, l, length-take-le n xs size), get_or-take n xs h.0.0 m l ∙ h.0.2))
        (λ (g : n ≤ h.0.0).
        let p_no : p m ≡ false = subst (λ z. p z ≡ false) h.0.2 (point.1 h.0.0 m g h.0.1) in
        let p_yes : p m ≡ true = h.1 in absurd cc)
        (cases_lt h.0.0 n),
  )

  pub in_back : (m : X) → Contains (drop n xs) m ↔ (Contains xs m × (p m ≡ false))
  in_back m = (
    λ c.
        let at : get_or xs (n + c.0) m ≡ m = sym (get_or-drop n xs c.0 m) ∙ c.2 in
        let l : n + c.0 < length xs = omega (arith, c.1, length-drop n xs) in
        ((n + c.0, l, at), subst (λ z. p z ≡ false) at (point.1 (n + c.0) m (omega arith) l)),
    λ h. ⊎_elim
        (λ (l : h.0.0 < n).
        let p_yes : p m ≡ true = subst (λ z. p z ≡ true) h.0.2 (point.0 h.0.0 m (omega arith) l) in
        let p_no : p m ≡ false = h.1 in absurd cc)
        (λ (g : n ≤ h.0.0).
        let k : n + (h.0.0 - n) ≡ h.0.0 = omega (arith, g) in (
          h.0.0 - n,
          omega (arith, g, h.0.1, length-drop n xs),
          get_or-drop n xs (h.0.0 - n) m ∙ ap (λ i. get_or xs i m) k ∙ h.0.2,
        ))
        (cases_lt h.0.0 n),
  )

-- where a cut stands before another
then_less : (r s : Ordering) → ordering_then r s ≡ Less → (r ≡ Less) ⊎ ((r ≡ Equal) × (s ≡ Less))
then_less Less s e = inl refl
then_less Equal s e = inr (refl, e)
then_less Greater s e = absurd cc

pub int_less : (a b : ℤ) → int_cmp a b ≡ Less → a <ℤ b
int_less a b e = rw e at (int_ranked a b (int_cmp a b) refl)

pub cut_less : (a b : Cut) → cut_cmp a b ≡ Less → (a.group < b.group) ⊎ ((a.group ≡ b.group) × (a.at <ℤ b.at))
cut_less a b e = elim (then_less (nat_cmp a.group b.group) (int_cmp a.at b.at) e) [
  | inl l ↦ inl (nat_less a.group b.group l)
  | inr h ↦ inr (nat_cmp-IsAntisymmetric a.group b.group h.0, int_less a.at b.at h.1)
]
  where
    nat_less : (x y : ℕ) → nat_cmp x y ≡ Less → x < y
    nat_less x y e = grind (arith, nat_tests)

-- the tests for parts of a span hold below each cut for which they hold
module _ (group : ℕ) where
  abbrev Passes : (ℤ → Bool) → Cut → Type 0
  Passes test c = (c.group < group) ⊎ ((c.group ≡ group) × (test c.at ≡ true))

  abbrev passes : (ℤ → Bool) → Cut → Bool
  passes test c = nat_lt c.group group || ((c.group == group) && test c.at)

  Decides-passes : (test : ℤ → Bool) (c : Cut) → Decides (passes test c) (Passes test c)
  Decides-passes test c =
      Decides-or (nat_lt c.group group) ((c.group == group) && test c.at) (Decides-ltb c.group group)
      (Decides-and (c.group == group) (test c.at) (Decides-eqb c.group group) (λ e. e, λ e. e))

  lower_passes : (test : ℤ → Bool) → ((a b : ℤ) → a <ℤ b → test b ≡ true → test a ≡ true) → (a b : Cut) → cut_cmp a b ≡ Less
      → Passes test b → Passes test a
  lower_passes test down a b less (inl l) = ⊎_elim
      (λ (h : a.group < b.group). inl (omega (arith, h, l)))
      (λ (h : (a.group ≡ b.group) × (a.at <ℤ b.at)). inl (let e = h.0 in omega (arith, e, l)))
      (cut_less a b less)
  lower_passes test down a b less (inr p) = ⊎_elim
      (λ (h : a.group < b.group). inl (let e = p.0 in omega (arith, h, e)))
      (λ (h : (a.group ≡ b.group) × (a.at <ℤ b.at)). inr (h.0 ∙ p.0, down a.at b.at h.1 p.1))
      (cut_less a b less)

  pub passes_below : (test : ℤ → Bool) → ((a b : ℤ) → a <ℤ b → test b ≡ true → test a ≡ true) → (a b : Cut) → cut_cmp a b ≡ Less
      → passes test b ≡ true → passes test a ≡ true
  passes_below test down a b less e =
      (Decides-passes test a).1 (lower_passes test down a b less ((Decides-passes test b).0 e))

  -- behind the start and before the stop stand those of the group
  pub of_group : (p q : ℤ → Bool) (c : Cut) → passes p c ≡ false → passes q c ≡ true → (c.group ≡ group) × (p c.at ≡ false) × (q c.at ≡ true)
  of_group p q c e f = elim ((Decides-passes q c).0 f) [
    | inl l ↦ let up : passes p c ≡ true = (Decides-passes p c).1 (inl l) in absurd cc
    | inr h ↦ (h.0, by_test (p c.at) refl h.0, h.1)
  ]
    where
      by_test : (b : Bool) → p c.at ≡ b → c.group ≡ group → p c.at ≡ false
      by_test false g h = g
      by_test true g h = let up : passes p c ≡ true = (Decides-passes p c).1 (inr (h, g)) in absurd cc

  pub passes_at : (test : ℤ → Bool) (m : ℤ) → passes test (cut group m) ≡ true → test m ≡ true
  passes_at test m e = elim ((Decides-passes test (cut group m)).0 e) [
    | inl l ↦ absurd (omega (arith, l))
    | inr h ↦ h.1
  ]

  pub at_passes : (test : ℤ → Bool) (m : ℤ) → test m ≡ true → passes test (cut group m) ≡ true
  at_passes test m e = (Decides-passes test (cut group m)).1 (inr (refl, e))

  pub at_fails : (test : ℤ → Bool) (m : ℤ) → test m ≡ false → passes test (cut group m) ≡ false
  at_fails test m e = by_test (passes test (cut group m)) refl
    where
      by_test : (b : Bool) → passes test (cut group m) ≡ b → passes test (cut group m) ≡ false
      by_test false g = g
      by_test true g = let up : test m ≡ true = passes_at test m g in absurd cc

-- the cuts of a group between the points of a span
module _ (cuts : List Cut) (order : AreCutsInOrder cuts) (group : ℕ) (span : Ends) (first count : ℕ)
    (low : IsPartitionPoint (λ c. is_up_to group span.lo c ≡ true) (λ c. is_up_to group span.lo c ≡ false) cuts first)
    (high : IsPartitionPoint (λ c. is_before group span.hi c ≡ true) (λ c. is_before group span.hi c ≡ false) (drop first cuts) count)
    (size : count ≤ length (drop first cuts)) where
  abbrev found : List Cut
  found = take count (drop first cuts)

  is_of_group : (c : Cut) → Contains found c
      → Contains cuts c × (c.group ≡ group) × (is_up_to_start span.lo c.at ≡ false) × (is_before_stop span.hi c.at ≡ true)
  is_of_group c d =
      let x = (in_front (is_before group span.hi) (drop first cuts) count high size c).0 d in
      let y = (in_back (is_up_to group span.lo) cuts first low c).0 x.0 in
      let h = of_group group (is_up_to_start span.lo) (is_before_stop span.hi) c y.1 x.1 in
      (y.0, h.0, h.1, h.2)

  pub found_in_order : AreInOrder (ats found)
  found_in_order =
      AllPairs-map (λ a b. a <ℤ b) (λ (c : Cut). c.at) found
      (AllPairs-members_weaker (λ (a b : Cut). cut_cmp a b ≡ Less) (λ (a b : Cut). a.at <ℤ b.at) found
      (λ a b p q less.
      let in_a = (is_of_group a p).1 in
      let in_b = (is_of_group b q).1 in
      ⊎_elim
      (λ (l : a.group < b.group). absurd (omega (arith, l, in_a, in_b)))
      (λ (h : (a.group ≡ b.group) × (a.at <ℤ b.at)). h.1)
      (cut_less a b less))
      (order_take (λ a b. cut_cmp a b ≡ Less) (drop first cuts) count size (order_drop (λ a b. cut_cmp a b ≡ Less) cuts first order)))

  pub found_each : (m : ℤ) → Contains (ats found) m ↔ (IsCutAt cuts group m × IsInside span m)
  found_each m = (
    λ d.
        let c = Contains-from_map (λ (c : Cut). c.at) found m d in
        let h = is_of_group c.0 c.1 in
        let same : c.0 ≡ cut group m = λ i. record { group = h.1 i; at = c.2 i } in (
          subst (Contains cuts) same h.0,
          subst (IsInside span) c.2 ((inside_tests span c.0.at).0 (h.2, h.3)),
        ),
    λ h.
        let tests = (inside_tests span m).1 h.1 in
        let y = (in_back (is_up_to group span.lo) cuts first low (cut group m)).1
        (h.0, at_fails group (is_up_to_start span.lo) m tests.0) in
        Contains-map (λ (c : Cut). c.at) found (cut group m)
        ((in_front (is_before group span.hi) (drop first cuts) count high size (cut group m)).1
        (y, at_passes group (is_before_stop span.hi) m tests.1)),
  )

-- a group is shared as far as the places go
module _ (places : List ℕ) (index : ℕ) (shared : List Bool) (size : length shared ≡ length places)
    (so_far : (group : ℕ) → group < length places → (get_or shared group false ≡ true) ↔ IsSharedBelow places index group) where
  widen : (group : ℕ) → IsSharedBelow places index group → IsSharedBelow places (index + 1) group
  widen group h = (h.0, omega (arith, h.1), h.2, h.3)

  last_or : (group : ℕ) → IsSharedBelow places (index + 1) group
      → IsSharedBelow places index group ⊎ ((get_or places index 0 ≡ group) × (index ≡ group → ⊥))
  last_or group h = ⊎_elim
      (λ (before : h.0 < index). inl (h.0, before, h.2, h.3))
      (λ (after : index ≤ h.0).
      let same : h.0 ≡ index = omega (arith, after, h.1) in
      inr (subst (λ n. get_or places n 0 ≡ group) same h.2, λ e. h.3 (same ∙ e)))
      (cases_lt h.0 index)

  pub shared_same : get_or places index 0 ≡ index → (group : ℕ) → group < length places
      → (get_or shared group false ≡ true) ↔ IsSharedBelow places (index + 1) group
  shared_same own group l = (
    λ e. widen group ((so_far group l).0 e),
    λ h. ⊎_elim (λ x. (so_far group l).1 x) (λ (x : (get_or places index 0 ≡ group) × (index ≡ group → ⊥)). absurd (x.1 (sym own ∙ x.0)))
        (last_or group h),
  )

  pub shared_more : (get_or places index 0 ≡ index → ⊥) → get_or places index 0 < length places → (group : ℕ) → group < length places
      → (get_or (set shared (get_or places index 0) true) group false ≡ true) ↔ IsSharedBelow places (index + 1) group
  shared_more other within group l = elim (same_or_not group (get_or places index 0)) [
    | inl e ↦ (
      λ _. (index, omega arith, sym e, λ f. other (sym e ∙ sym f)),
      λ _. subst (λ g. get_or (set shared (get_or places index 0) true) g false ≡ true) (sym e)
          (get_or-set_same shared (get_or places index 0) true false (omega (arith, within, size))),
    )
    | inr differs ↦ (
      λ e. widen group ((so_far group l).0 (sym (get_or-set_other shared (get_or places index 0) group true false differs) ∙ e)),
      λ h. get_or-set_other shared (get_or places index 0) group true false differs ∙ ⊎_elim (λ x. (so_far group l).1 x)
          (λ (x : (get_or places index 0 ≡ group) × (index ≡ group → ⊥)). absurd (differs (sym x.0))) (last_or group h),
    )
  ]

-- by what marks the group of the last place
pub shared_marked : (places : List ℕ) (index : ℕ) (shared marked : List Bool) → length shared ≡ length places
    → ((group : ℕ) → group < length places → (get_or shared group false ≡ true) ↔ IsSharedBelow places index group)
    → get_or places index 0 < length places
    → (get_or places index 0 ≡ index → marked ≡ shared)
    → ((get_or places index 0 ≡ index → ⊥) → marked ≡ set shared (get_or places index 0) true)
    → (length marked ≡ length places)
    × ((group : ℕ) → group < length places → (get_or marked group false ≡ true) ↔ IsSharedBelow places (index + 1) group)
shared_marked places index shared marked size so_far within same changed = elim (same_or_not (get_or places index 0) index) [
  | inl e ↦ (
    ap length (same e) ∙ size,
    λ group l. subst (λ m. (get_or m group false ≡ true) ↔ IsSharedBelow places (index + 1) group) (sym (same e))
        (shared_same places index shared size so_far e group l),
  )
  | inr differs ↦ (
    ap length (changed differs) ∙ length-set shared (get_or places index 0) true ∙ size,
    λ group l. subst (λ m. (get_or m group false ≡ true) ↔ IsSharedBelow places (index + 1) group) (sym (changed differs))
        (shared_more places index shared size so_far differs within group l),
  )
]

-- nothing is marked yet
pub never_marked : (n group : ℕ) → get_or (replicate n false) group false ≡ false
never_marked n group = ⊎_elim
    (λ (l : group < n). get_or-replicate n group false false l)
    (λ (g : n ≤ group). get_or_past (replicate n false) group false (let size = length-replicate n false in omega (arith, g, size)))
    (cases_lt group n)

pub shared_none : (places : List ℕ) (shared : List Bool) → ((group : ℕ) → get_or shared group false ≡ false) → (group : ℕ)
    → (get_or shared group false ≡ true) ↔ IsSharedBelow places 0 group
shared_none places shared unmarked group = (
  λ e. let never = unmarked group in absurd cc,
  λ h. absurd (omega (arith, h.1)),
)

-- and all places are looked at
pub shared_all : (places : List ℕ) (count : ℕ) (shared : List Bool) → length places ≤ count → count ≤ length places
    → length shared ≡ length places → ((group : ℕ) → group < length places → (get_or shared group false ≡ true) ↔ IsSharedBelow places count group)
    → AreShared places shared
shared_all places count shared all most size each = record {
  size = size;
  each = λ group l. (
    λ e. let h = (each group l).0 e in (h.0, omega (arith, h.1, most), h.2, h.3),
    λ h. (each group l).1 (h.0, omega (arith, h.1, all), h.2, h.3),
  );
}

-- the cuts with those of one fact more
module _ (facts : List Fact) (places : List ℕ) (index : ℕ) where
  later : (c : Cut) → IsCutBelow facts places index c → IsCutBelow facts places (index + 1) c
  later c h = (h.0, (h.1.0, omega (arith, h.1.1), h.1.2, h.1.3))

  last_cut : (c : Cut) → IsCutBelow facts places (index + 1) c
      → IsCutBelow facts places index c ⊎ ((get_or places index 0 ≡ c.group) × IsSomeAnd (slice_get facts index) (λ fact. IsEndOf fact.span c.at))
  last_cut c h = ⊎_elim
      (λ (before : h.1.0 < index). inl (h.0, (h.1.0, before, h.1.2, h.1.3)))
      (λ (after : index ≤ h.1.0).
      let same : h.1.0 ≡ index = omega (arith, after, h.1.1) in
      inr (
        subst (λ n. get_or places n 0 ≡ c.group) same h.1.2,
        subst (λ n. IsSomeAnd (slice_get facts n) (λ fact. IsEndOf fact.span c.at)) same h.1.3,
      ))
      (cases_lt h.1.0 index)

  pub cuts_same : ¬ (IsShared places (get_or places index 0)) → (old : List Cut) → ((c : Cut) → Contains old c ↔ IsCutBelow facts places index c)
      → (c : Cut) → Contains old c ↔ IsCutBelow facts places (index + 1) c
  cuts_same alone old each c = (
    λ d. later c ((each c).0 d),
    λ h. ⊎_elim (λ x. (each c).1 x) (λ (x : (get_or places index 0 ≡ c.group) × IsSomeAnd (slice_get facts index) (λ fact. IsEndOf fact.span c.at)).
        absurd (alone (subst (IsShared places) (sym x.0) h.0))) (last_cut c h),
  )

  pub cuts_more : IsShared places (get_or places index 0) → (fact : Fact) → slice_get facts index ≡ Some fact → (old between new : List Cut)
      → ((c : Cut) → Contains old c ↔ IsCutBelow facts places index c)
      → AddsCut (get_or places index 0) fact.span.lo old between → AddsCut (get_or places index 0) fact.span.hi between new
      → (c : Cut) → Contains new c ↔ IsCutBelow facts places (index + 1) c
  cuts_more shared fact at old between new each lo hi c = (
    λ d. ⊎_elim
        (λ (e : Contains between c). ⊎_elim (λ (f : Contains old c). later c ((each c).0 f)) (λ x. this x.0 (inl x.1)) ((lo c).0 e))
        (λ x. this x.0 (inr x.1))
        ((hi c).0 d),
    λ h. ⊎_elim
        (λ (x : IsCutBelow facts places index c). (hi c).1 (inl ((lo c).1 (inl ((each c).1 x)))))
        (λ (x : (get_or places index 0 ≡ c.group) × IsSomeAnd (slice_get facts index) (λ f. IsEndOf f.span c.at)). ⊎_elim
        (λ e. (hi c).1 (inl ((lo c).1 (inr (sym x.0, e)))))
        (λ e. (hi c).1 (inr (sym x.0, e)))
        (end_of x.1))
        (last_cut c h),
  )
    where
      this : c.group ≡ get_or places index 0 → IsEndOf fact.span c.at → IsCutBelow facts places (index + 1) c
      this e h = (
        subst (IsShared places) (sym e) shared,
        (index, omega arith, sym e, and_some (λ (f : Fact). IsEndOf f.span c.at) (slice_get facts index) fact at h),
      )

      end_of : IsSomeAnd (slice_get facts index) (λ f. IsEndOf f.span c.at) → IsEndOf fact.span c.at
      end_of h =
          let s = some_and (λ (f : Fact). IsEndOf f.span c.at) (slice_get facts index) h in
          subst (λ (f : Fact). IsEndOf f.span c.at) (same_some (slice_get facts index) s.0 fact s.1 at) s.2

-- with what is added for the last fact, or not
pub cuts_with : (facts : List Fact) (places : List ℕ) (index : ℕ) (shared : List Bool) → AreShared places shared → get_or places index 0 < length places
    → (fact : Fact) → slice_get facts index ≡ Some fact → (old new : List Cut) → ((c : Cut) → Contains old c ↔ IsCutBelow facts places index c)
    → (get_or shared (get_or places index 0) false ≡ true → AddsCuts (get_or places index 0) fact.span old new)
    → (get_or shared (get_or places index 0) false ≡ false → new ≡ old)
    → (c : Cut) → Contains new c ↔ IsCutBelow facts places (index + 1) c
cuts_with facts places index shared marks within fact at old new each adds still =
    by (get_or shared (get_or places index 0) false) refl
  where
    by : (b : Bool) → get_or shared (get_or places index 0) false ≡ b → (c : Cut) → Contains new c ↔ IsCutBelow facts places (index + 1) c
    by true e c =
        let both = adds e in
        cuts_more facts places index ((marks.each (get_or places index 0) within).0 e) fact at old both.0 new each both.1 both.2 c
    by false e c =
        subst (λ l. Contains l c ↔ IsCutBelow facts places (index + 1) c) (sym (still e))
        (cuts_same facts places index
        (λ h. let up : get_or shared (get_or places index 0) false ≡ true = (marks.each (get_or places index 0) within).1 h in absurd cc) old each c)

cut_cmp-total : IsTotalOrder cut_cmp
cut_cmp-total = then_total (on_total (λ (c : Cut). c.group) nat_cmp_total) (on_total (λ (c : Cut). c.at) int_cmp_total)

cut_cmp-IsAntisymmetric : (a b : Cut) → cut_cmp a b ≡ Equal → a ≡ b
cut_cmp-IsAntisymmetric a b e =
    let h = then_ties (nat_cmp a.group b.group) (int_cmp a.at b.at) e in
    let group = nat_cmp-IsAntisymmetric a.group b.group h.0 in
    let at = int_cmp-IsAntisymmetric a.at b.at h.1 in
    λ i. record { group = group i; at = at i }
  where
    then_ties : (r s : Ordering) → ordering_then r s ≡ Equal → (r ≡ Equal) × (s ≡ Equal)
    then_ties Less s e = absurd cc
    then_ties Equal s e = (refl, e)
    then_ties Greater s e = absurd cc

eq_equal : (r : Ordering) → is_eq r ≡ true → r ≡ Equal
eq_equal Less e = absurd cc
eq_equal Equal e = refl
eq_equal Greater e = absurd cc

-- the cuts once they are sorted and stand once each
pub all_cuts : (facts : List Fact) (places : List ℕ) (count : ℕ) → length facts ≤ count → {E : Cut → Cut → Bool} → IsEquivalence E
    → ((x y : Cut) → E x y ≡ eq_by_cmp cut_cmp x y) → (cuts sorted kept : List Cut)
    → ((c : Cut) → Contains cuts c ↔ IsCutBelow facts places count c) → AreWithinLimit cuts
    → IsPermutation cuts sorted → IsSorted cut_cmp sorted → kept ≡ dedup E sorted → AreCuts facts places kept
all_cuts facts places count all {E} same ties cuts sorted kept each limit moved rises is = record {
  each = λ c. (
    λ d. let h = (each c).0 (was c d) in (h.0, (h.1.0, h.1.2, h.1.3)),
    λ h.
        let s = some_and (λ (f : Fact). IsEndOf f.span c.at) (slice_get facts h.1.0) h.1.2 in
        let l = within_from_at facts h.1.0 s.0 s.1 in
        stays c ((each c).1 (h.0, (h.1.0, omega (arith, l, all), h.1.1, h.1.2))),
  );
  order = subst AreCutsInOrder (sym is) (λ i j d before within.
      Less-from_sorted cut_cmp (dedup E sorted) i j d (IsStrictlySortedBy-dedup cut_cmp-total ties sorted rises) before within);
  limit = λ k d l.
      let c = get_or kept k d in
      All-contains (λ (x : Cut). IsWithinLimit (Some x.at)) cuts c limit (was c (Contains-get_or kept k d l));
}
  where
    was : (c : Cut) → Contains kept c → Contains cuts c
    was c d =
        Contains-permutation sorted cuts c (IsPermutation-sym cuts sorted moved)
        (Contains-from_dedup E sorted c (subst (λ l. Contains l c) is d))

    stays : (c : Cut) → Contains cuts c → Contains kept c
    stays c d =
        subst (λ l. Contains l c) (sym is)
        (Contains-dedup same (λ x y e. cut_cmp-IsAntisymmetric x y (eq_equal (cut_cmp x y) (sym (ties x y) ∙ e))) sorted c
        (Contains-permutation cuts sorted c moved d))
