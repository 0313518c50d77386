-- The sweep over candidates in order: what of the firings so far holds, and how one candidate more keeps it.
use Rattle.std.proofs.Common.{◌≡◌, ◌⊎◌, inl, inr, ⊎_elim, ◌↔◌, ℕ, ℤ, ◌+◌, ◌≤ℤ◌, ◌<ℤ◌, Some, List, [], ◌∷◌, ◌++◌, length, map, take, set, get_or, append-nil, length-append}
use Rattle.std.proofs.Common.{refl, sym, ap, ◌∙◌, subst, arith, All, AllPairs, Any, Contains, IsSorted}
use Rattle.std.specs.declared.cmp.Ordering.{Ordering}
use Rattle.std.specs.declared.cmp.Ordering.TheVariants.{Less, Equal, Greater}
use Rattle.std.specs.Ordering.{nat_cmp, is_lt, ordering_then}
use Rattle.std.specs.Cmp.{IsTotalOrder}
use Rattle.std.specs.Cmp.Lexicographic.{slice_cmp}
use Rattle.std.specs.FinMap.{nat_cmp-IsAntisymmetric, slice_cmp-IsAntisymmetric}
use Rattle.std.proofs.lemmas.Cmp.{then_total, on_total, lists_total, nat_cmp_total, tied_itself}
use Rattle.std.proofs.lemmas.Int.{ints, by_lt_z}
use Rattle.std.proofs.lemmas.List.{get_or-map, get_or_read, map-append, length-map, take_all, take_more, take_more_set}
use Rattle.std.proofs.Math.ListN.{length-set}
use Rattle.std.proofs.Math.Seq.{get_or-append_seam}
use Rattle.std.proofs.lemmas.List.Elements.{All-nil, All-push, All-weaker, All-contains, Contains-append_left, Contains-push, Contains-push_cases, Contains-get_or}
use Rattle.std.proofs.lemmas.List.Quantifiers.{all_pairs_push}
use Rattle.time_line.specs.Span.{Ends, IsFrom, IsBefore, Has, HasInstant, AreApart, Touch, span_cmp}
use Rattle.term_core.specs.declared.const_id.ConstId.{ConstId}
use Rattle.term_core.specs.Order.{id_cmp}
use Rattle.term_core.proofs.OrderLemmas.{id_cmp-total, id_cmp-IsAntisymmetric}
use Rattle.rule_core.specs.Terms.{StampedOf}
use Rattle.rule_core.specs.Coalesced.{Covers, AreSeparate as AreSeparateEntries, stamped_cmp}
use Rattle.rule_core.proofs.ListLemmas.{Contains-head, Contains-cons, Contains-nil, Contains-map, Contains-from_map, AllPairs-head, AllPairs-tail, AllPairs-nil, AllPairs-cons, AllPairs-from_map, AllPairs-weaker}
use Rattle.coalescer.proofs.SweepLemmas.{Before, UpTo, Swept, swept_first, swept_all, swept_apart, swept_joined}
use Rattle.normaliser.specs.Normalised.{IsEndOf}
use Rattle.failure_trace.specs.declared.firing.Firing.{Firing}
use Rattle.failure_trace.specs.declared.firing.Support.{Support}
use Rattle.failure_trace.specs.Firings.{firing_cmp, AreSeparate, IsEarlier}
use Rattle.tgd_chase.specs.Merging.{candidate_cmp, IsAlike, firing_of, IsBehind, GoesOn, IsApart, Begins, Takes, IsEndFrom, IsPart, IsMadeUp, AreMerged}
use Rattle.tgd_chase.specs.declared.candidates.Candidate.{Candidate}

-- firings and candidates as entries

-- a rule, and the values of its frontier
pub record Key : Type 0 where
  pub rule : ℕ
  pub frontier : List ConstId

abbrev pub key_cmp : Key → Key → Ordering
key_cmp a b = ordering_then (nat_cmp a.rule b.rule) (slice_cmp id_cmp a.frontier b.frontier)

-- the order of keys is total, and tells any two of them apart
key_cmp-total : IsTotalOrder key_cmp
key_cmp-total = then_total (on_total (λ (k : Key). k.rule) nat_cmp_total) (on_total (λ (k : Key). k.frontier) (lists_total id_cmp-total))

then_ties : (r s : Ordering) → ordering_then r s ≡ Equal → (r ≡ Equal) × (s ≡ Equal)
then_ties Less s e = absurd cc
then_ties Equal s e = (refl, e)
then_ties Greater s e = absurd cc

key_same : (a b : Key) → key_cmp a b ≡ Equal → a ≡ b
key_same a b e =
    let p = then_ties (nat_cmp a.rule b.rule) (slice_cmp id_cmp a.frontier b.frontier) e in
    let rule = nat_cmp-IsAntisymmetric a.rule b.rule p.0 in
    let frontier = slice_cmp-IsAntisymmetric id_cmp-IsAntisymmetric a.frontier b.frontier p.1 in
    λ i. record { rule = rule i; frontier = frontier i }

-- comparisons in turn, whichever two come first
then_assoc : (r s u : Ordering) → ordering_then (ordering_then r s) u ≡ ordering_then r (ordering_then s u)
then_assoc Less s u = refl
then_assoc Equal s u = refl
then_assoc Greater s u = refl

abbrev pub firing_entry : Firing → StampedOf Key
firing_entry f = record { row = record { rule = f.rule; frontier = f.frontier }; span = f.span }

abbrev pub candidate_entry : Candidate → StampedOf Key
candidate_entry c = record { row = record { rule = c.rule; frontier = c.frontier }; span = c.support.span }

-- what is so at an instant, and what its entries cover
module _ {X : Type 0} (entry : X → StampedOf Key) (xs : List X) (rule : ℕ) (values : List ConstId) (t : ℤ) where
  abbrev IsAt : Type 0
  IsAt = Any (λ x. ((entry x).row.rule ≡ rule) × ((entry x).row.frontier ≡ values) × Has (entry x).span t) xs

  abbrev IsCovered : Type 0
  IsCovered = Covers (map entry xs) (record { rule = rule; frontier = values }) t

  covered_at : IsAt → IsCovered
  covered_at h =
      let c = Contains-map entry xs h.1 (h.0, h.2, h.3) in
      (c.0, entry h.1, c.1, c.2, ((λ i. record { rule = h.4.0 i; frontier = h.4.1 i }), h.4.2))

  at_covered : IsCovered → IsAt
  at_covered h =
      let found = Contains-from_map entry xs h.1 (h.0, h.2, h.3) in
      let same = ap (λ (e : StampedOf Key). e.row) found.2 ∙ h.4.0 in (
        found.1.0,
        found.0,
        found.1.1,
        found.1.2,
        (ap (λ (k : Key). k.rule) same, ap (λ (k : Key). k.frontier) same, subst (λ (e : StampedOf Key). Has e.span t) (sym found.2) h.4.1),
      )

-- candidates in order are entries in order
entries_sorted : (all : List Candidate) → IsSorted candidate_cmp all → IsSorted (stamped_cmp key_cmp) (map candidate_entry all)
entries_sorted [] sorted k d low h = absurd (omega arith)
entries_sorted (first ∷ rest) sorted k d low h =
    let all = first ∷ rest in
    let size = length-map all candidate_entry in
    let a = get_or all (k + 1) first in
    let b = get_or all k first in
    (λ i. is_lt (stamped_cmp key_cmp (get_or-map candidate_entry all (k + 1) first d (omega (arith, size)) i)
    (get_or-map candidate_entry all k first d (omega (arith, size)) i)))
    ∙ ap is_lt (then_assoc (nat_cmp a.rule b.rule) (slice_cmp id_cmp a.frontier b.frontier) (span_cmp a.support.span b.support.span))
    ∙ sorted k first low (omega (arith, size))

-- lists

any_left : {X : Type 0} (P : X → Type 0) (xs ys : List X) → Any P xs → Any P (xs ++ ys)
any_left P xs ys h = let c = Contains-append_left xs ys h.1 (h.0, h.2, h.3) in (c.0, h.1, c.1, c.2, h.4)

any_last : {X : Type 0} (P : X → Type 0) (xs : List X) (y : X) → P y → Any P (xs ++ y ∷ [])
any_last P xs y p = let c = Contains-push xs y in (c.0, y, c.1, c.2, p)

any_cases : {X : Type 0} (P : X → Type 0) (xs : List X) (y : X) → Any P (xs ++ y ∷ []) → Any P xs ⊎ P y
any_cases P xs y h = ⊎_elim
    (λ (c : Contains xs h.1). inl (c.0, h.1, c.1, c.2, h.4))
    (λ (e : y ≡ h.1). inr (subst P (sym e) h.4))
    (Contains-push_cases xs y h.1 (h.0, h.2, h.3))

any_of : {X : Type 0} (P : X → Type 0) (xs : List X) (x : X) → Contains xs x → P x → Any P xs
any_of P xs x c p = (c.0, x, c.1, c.2, p)

-- a list is empty or has a last element
last_cases : {X : Type 0} (xs : List X) → (xs ≡ []) ⊎ ((front : List X) × (last : X) × (xs ≡ front ++ last ∷ []))
last_cases [] = inl refl
last_cases {X} (x ∷ xs) = by (last_cases xs)
  where
    by : (xs ≡ []) ⊎ ((front : List X) × (last : X) × (xs ≡ front ++ last ∷ []))
        → (x ∷ xs ≡ []) ⊎ ((front : List X) × (last : X) × (x ∷ xs ≡ front ++ last ∷ []))
    by (inl e) = inr ([], x, ap (λ l. x ∷ l) e)
    by (inr h) = inr (x ∷ h.0, h.1, ap (λ l. x ∷ l) h.2)

all_front : {X : Type 0} (P : X → Type 0) (xs : List X) (y : X) → All P (xs ++ y ∷ []) → All P xs
all_front P xs y h k d l =
    All-contains P (xs ++ y ∷ []) (get_or xs k d) h
    (Contains-append_left xs (y ∷ []) (get_or xs k d) (Contains-get_or xs k d l))

all_last : {X : Type 0} (P : X → Type 0) (xs : List X) (y : X) → All P (xs ++ y ∷ []) → P y
all_last P xs y h = All-contains P (xs ++ y ∷ []) y h (Contains-push xs y)

-- what a firing is made of

module _ (all : List Candidate) where
  -- an end from a candidate is one for a firing with the same key
  end_from : (a b : Firing) → b.rule ≡ a.rule → b.frontier ≡ a.frontier → (m : ℤ) → IsEndFrom all a m → IsEndFrom all b m
  end_from a b p q m h = (h.0, h.1, (p ∙ h.2.0, q ∙ h.2.1), h.3)

  -- and so is a part
  part_from : (a b : Firing) → b.rule ≡ a.rule → b.frontier ≡ a.frontier → (s : Support) → IsPart all a s → IsPart all b s
  part_from a b p q s h = record {
    whole = h.whole;
    there = h.there;
    alike = (p ∙ h.alike.0, q ∙ h.alike.1);
    binding = h.binding;
    instant = h.instant;
    within = h.within;
    ends = λ m e. end_from a b p q m (h.ends m e);
  }

  -- a candidate alone
  begun : (next : Candidate) → Contains all next → HasInstant next.support.span → IsMadeUp all (firing_of next)
  begun next there has =
      let own : (m : ℤ) → IsEndOf next.support.span m → IsEndFrom all (firing_of next) m = λ m e. (next, there, (refl, refl), e) in
      record {
        first = (next, there, (refl, refl));
        instant = has;
        each = All-push (IsPart all (firing_of next)) [] next.support (All-nil (IsPart all (firing_of next))) (record {
          whole = next;
          there = there;
          alike = (refl, refl);
          binding = refl;
          instant = has;
          within = λ t h. h;
          ends = own;
        });
        order = λ i j d lt within. absurd (omega arith);
        whole = λ t. (
          λ h. any_last (λ (s : Support). Has s.span t) [] next.support h,
          λ h. ⊎_elim (λ (none : Any (λ (s : Support). Has s.span t) []). absurd (omega (arith, none.2))) (λ k. k)
              (any_cases (λ (s : Support). Has s.span t) [] next.support h),
        );
        stop = λ m e. own m (inr e);
      }

  -- a firing that goes on with a candidate that starts no earlier
  module _ (next : Candidate) (last after : Firing) (there : Contains all next) (alike : IsAlike last next)
      (on : GoesOn next.support last after) (upto : (t : ℤ) → IsFrom next.support.span.lo t → IsFrom last.span.lo t)
      (made : IsMadeUp all last) where
    abbrev HasAt : ℤ → Support → Type 0
    HasAt t s = Has s.span t

    next_alike : IsAlike after next
    next_alike = (on.rule ∙ alike.0, on.frontier ∙ alike.1)

    end_kept : (m : ℤ) → IsEndFrom all last m → IsEndFrom all after m
    end_kept m h = end_from last after on.rule on.frontier m h

    end_of_next : (m : ℤ) → IsEndOf next.support.span m → IsEndFrom all after m
    end_of_next m e = (next, there, next_alike, e)

    longer : HasInstant after.span
    longer = (made.instant.0, (on.join made.instant.0).1 (inl made.instant.1))

    parts_kept : All (IsPart all after) last.supports
    parts_kept = All-weaker (IsPart all last) (IsPart all after) (part_from last after on.rule on.frontier) last.supports made.each

    stop_after : (m : ℤ) → after.span.hi ≡ Some m → IsEndFrom all after m
    stop_after m e = ⊎_elim
        (λ (p : after.span.hi ≡ last.span.hi). end_kept m (made.stop m (sym p ∙ e)))
        (λ (p : after.span.hi ≡ next.support.span.hi). end_of_next m (inr (sym p ∙ e)))
        on.stop

    -- an instant before the stop of the last is in it
    before_stop : (t : ℤ) → Has next.support.span t → IsBefore last.span.hi t → Has last.span t
    before_stop t h before = (upto t h.0, before)

    -- where a part is added
    module _ (part : Ends) (behind : IsBehind last.span next.support.span part)
        (is : after.supports ≡ last.supports ++ record { span = part; binding = next.support.binding } ∷ []) where
      abbrev added : Support
      added = record { span = part; binding = next.support.binding }

      added_is_part : IsPart all after added
      added_is_part = record {
        whole = next;
        there = there;
        alike = next_alike;
        binding = refl;
        instant = behind.instant;
        within = λ t h. ((behind.same t).0 h).0;
        ends = λ m e. ⊎_elim
            (λ (p : m ≡ behind.stop). end_kept m (made.stop m (behind.is ∙ ap Some (sym p))))
            (λ (q : IsEndOf next.support.span m). end_of_next m q)
            (behind.ends m e);
      }

      earlier : (x : Support) → Contains last.supports x → IsEarlier x.span part
      earlier x c s t h k =
          let has : Has last.span s = (made.whole s).1 (any_of (HasAt s) last.supports x c h) in
          let stops : s <ℤ behind.stop = subst (λ end. IsBefore end s) behind.is has.1 in
          let starts : behind.stop ≤ℤ t = ((behind.same t).0 k).1 in
          omega (arith, ints)

      in_next : (t : ℤ) → Has next.support.span t → Any (HasAt t) (last.supports ++ added ∷ [])
      in_next t h = by_lt_z t behind.stop
          (λ before. any_left (HasAt t) last.supports (added ∷ []) ((made.whole t).0
          (before_stop t h (subst (λ end. IsBefore end t) (sym behind.is) before))))
          (λ later. any_last (HasAt t) last.supports added ((behind.same t).1 (h, later)))

      from_parts : (t : ℤ) → Any (HasAt t) (last.supports ++ added ∷ []) → Has after.span t
      from_parts t h = ⊎_elim
          (λ (old : Any (HasAt t) last.supports). (on.join t).1 (inl ((made.whole t).1 old)))
          (λ (new : Has part t). (on.join t).1 (inr ((behind.same t).0 new).0))
          (any_cases (HasAt t) last.supports added h)

      made_with : IsMadeUp all after
      made_with = record {
        first = (made.first.0, made.first.1, (on.rule ∙ made.first.2.0, on.frontier ∙ made.first.2.1));
        instant = longer;
        each = subst (All (IsPart all after)) (sym is) (All-push (IsPart all after) last.supports added parts_kept added_is_part);
        order = subst (AllPairs (λ (a b : Support). IsEarlier a.span b.span)) (sym is)
            (all_pairs_push (λ (a b : Support). IsEarlier a.span b.span) last.supports added made.order
            (λ k d l. earlier (get_or last.supports k d) (Contains-get_or last.supports k d l)));
        whole = λ t. subst (λ list. Has after.span t ↔ Any (HasAt t) list) (sym is) (
          λ h. ⊎_elim
              (λ (k : Has last.span t). any_left (HasAt t) last.supports (added ∷ []) ((made.whole t).0 k))
              (λ (k : Has next.support.span t). in_next t k)
              ((on.join t).0 h),
          from_parts t,
        );
        stop = stop_after;
      }

    -- where none is added
    module _ (none : (t : ℤ) → Has next.support.span t → IsBefore last.span.hi t) (is : after.supports ≡ last.supports) where
      made_without : IsMadeUp all after
      made_without = record {
        first = (made.first.0, made.first.1, (on.rule ∙ made.first.2.0, on.frontier ∙ made.first.2.1));
        instant = longer;
        each = subst (All (IsPart all after)) (sym is) parts_kept;
        order = subst (AllPairs (λ (a b : Support). IsEarlier a.span b.span)) (sym is) made.order;
        whole = λ t. subst (λ list. Has after.span t ↔ Any (HasAt t) list) (sym is) (
          λ h. (made.whole t).0 (⊎_elim (λ (k : Has last.span t). k)
              (λ (k : Has next.support.span t). before_stop t k (none t k)) ((on.join t).0 h)),
          λ h. (on.join t).1 (inl ((made.whole t).1 h)),
        );
        stop = stop_after;
      }

    gone_on : IsMadeUp all after
    gone_on = elim on.supports [
      | inl h ↦ made_with h.0 h.1 h.2
      | inr h ↦ made_without h.0 h.1
    ]

-- one step on a list of firings

-- the last firing is extended
pub extends_last : (items : List Firing) (i : ℕ) (read was new : Firing) (next : Candidate) → i + 1 ≡ length items
    → read ≡ get_or items i read → was ≡ get_or items i was → IsAlike read next → GoesOn next.support was new
    → Takes next items (set items i new)
extends_last items i read was new next size is_read is_was alike on =
    let one : read ≡ was = get_or_read items i read (omega (arith, size)) is_read was ∙ sym is_was in
    inl (record {
      front = take i items;
      last = was;
      after = new;
      was = sym (take_all (i + 1) items (omega (arith, size))) ∙ take_more items i was (omega (arith, size))
          ∙ ap (λ f. take i items ++ f ∷ []) (sym is_was);
      is = sym (take_all (i + 1) (set items i new) (omega (arith, size, length-set items i new)))
          ∙ take_more_set items i new (omega (arith, size));
      alike = subst (λ f. IsAlike f next) one alike;
      goes_on = on;
    })

-- the last firing is not the one to extend
pub begins_behind : (items new : List Firing) (i : ℕ) (read : Firing) (next : Candidate) → i + 1 ≡ length items
    → read ≡ get_or items i read
    → (IsAlike read next → AreApart read.span next.support.span × ¬ (Touch read.span next.support.span))
    → Begins next items new → Takes next items new
begins_behind items new i read next size is_read apart begins = inr (away, begins)
  where
    away : IsApart next items
    away front last e =
        let place : i ≡ length front = omega (arith, size, ap length e, length-append front (last ∷ [])) in
        let one : read ≡ last = is_read ∙ (λ k. get_or (e k) (place k) read) ∙ get_or-append_seam front last [] read in
        subst (λ (f : Firing). IsAlike f next → AreApart f.span next.support.span × ¬ (Touch f.span next.support.span)) one apart

-- the sweep

-- nothing is done yet
swept_none : (entries : List (StampedOf Key)) → IsSorted (stamped_cmp key_cmp) entries → All (λ e. HasInstant e.span) entries
    → Swept key_cmp [] entries entries
swept_none [] sorted has = record {
  spans = All-nil (λ (e : StampedOf Key). HasInstant e.span);
  stretches = AllPairs-nil (Before key_cmp);
  ahead = λ x c. absurd (Contains-nil x c);
  order = AllPairs-nil (UpTo key_cmp);
  covers = λ row t. (λ c. c, λ c. c);
}
swept_none (first ∷ rest) sorted has =
    let s = swept_first key_cmp key_cmp-total key_same (first ∷ rest) first (omega arith) sorted (has 0 first (omega arith)) in
    record {
      spans = All-nil (λ (e : StampedOf Key). HasInstant e.span);
      stretches = AllPairs-nil (Before key_cmp);
      ahead = λ x c. absurd (Contains-nil x c);
      order = AllPairs-cons (UpTo key_cmp) first rest (λ y c. s.ahead first (Contains-head first []) y c) s.order;
      covers = λ row t. (λ c. c, λ c. c);
    }

-- the first entry is done
swept_one : (next : StampedOf Key) (rest all : List (StampedOf Key)) → Swept key_cmp [] (next ∷ rest) all → HasInstant next.span
    → Swept key_cmp (next ∷ []) rest all
swept_one next rest all s has = record {
  spans = All-push (λ (e : StampedOf Key). HasInstant e.span) [] next s.spans has;
  stretches = λ i j d lt within. absurd (omega arith);
  ahead = λ x c e k. ⊎_elim
      (λ (none : Contains [] x). absurd (Contains-nil x none))
      (λ (same : next ≡ x). subst (λ z. UpTo key_cmp z e) same (AllPairs-head (UpTo key_cmp) next rest s.order e k))
      (Contains-push_cases [] next x c);
  order = AllPairs-tail (UpTo key_cmp) next rest s.order;
  covers = s.covers;
}

-- the sweep has brought all candidates but the rest into the firings
pub record AreMergedSoFar (firings : List Firing) (rest all : List Candidate) : Type 0 where
  pub swept : Swept key_cmp (map firing_entry firings) (map candidate_entry rest) (map candidate_entry all)
  pub made : All (IsMadeUp all) firings
  pub inside : (c : Candidate) → Contains rest c → Contains all c

abbrev pub HaveInstants : List Candidate → Type 0
HaveInstants all = All (λ candidate. HasInstant candidate.support.span) all

pub merged_none : (firings : List Firing) (rest all : List Candidate) → firings ≡ [] → rest ≡ all → IsSorted candidate_cmp all
    → HaveInstants all → AreMergedSoFar firings rest all
merged_none firings rest all none whole sorted has =
    subst (λ w. w) (λ i. AreMergedSoFar (sym none i) (sym whole i) all) (record {
      swept = swept_none (map candidate_entry all) (entries_sorted all sorted) (λ k d l.
          let e = Contains-from_map candidate_entry all (get_or (map candidate_entry all) k d)
          (Contains-get_or (map candidate_entry all) k d l) in
          subst (λ (e : StampedOf Key). HasInstant e.span) e.2
          (All-contains (λ (c : Candidate). HasInstant c.support.span) all e.0 has e.1));
      made = All-nil (IsMadeUp all);
      inside = λ c h. h;
    })

module _ (next : Candidate) (rest all : List Candidate) (has : HaveInstants all) where
  -- the sweep has come to the candidate, and past it
  abbrev SweptTo : List (StampedOf Key) → Type 0
  SweptTo done = Swept key_cmp done (candidate_entry next ∷ map candidate_entry rest) (map candidate_entry all)

  abbrev SweptPast : List (StampedOf Key) → Type 0
  SweptPast done = Swept key_cmp done (map candidate_entry rest) (map candidate_entry all)

  next_is : (firings : List Firing) → AreMergedSoFar firings (next ∷ rest) all → Contains all next
  next_is firings h = h.inside next (Contains-head next rest)

  next_has : (firings : List Firing) → AreMergedSoFar firings (next ∷ rest) all → HasInstant next.support.span
  next_has firings h = All-contains (λ (c : Candidate). HasInstant c.support.span) all next has (next_is firings h)

  -- the last firing goes on
  extended : (front : List Firing) (last after : Firing) → AreMergedSoFar (front ++ last ∷ []) (next ∷ rest) all → IsAlike last next
      → GoesOn next.support last after → AreMergedSoFar (front ++ after ∷ []) rest all
  extended front last after h alike on =
      let entries = map firing_entry front in
      let one : (firing_entry last).row ≡ (candidate_entry next).row = λ i. record { rule = alike.0 i; frontier = alike.1 i } in
      let kept : (firing_entry after).row ≡ (firing_entry last).row = λ i. record { rule = on.rule i; frontier = on.frontier i } in
      let was : SweptTo (entries ++ firing_entry last ∷ []) =
      subst SweptTo (map-append firing_entry front (last ∷ [])) h.swept in
      let is = swept_joined key_cmp key_cmp-total key_same entries (firing_entry last) (candidate_entry next) (map candidate_entry rest)
      (map candidate_entry all) was (firing_entry after) one kept on.join on.start in
      record {
        swept = subst SweptPast (sym (map-append firing_entry front (after ∷ []))) is;
        made = All-push (IsMadeUp all) front after (all_front (IsMadeUp all) front last h.made)
            (gone_on all next last after (next_is (front ++ last ∷ []) h) alike on (upto was one)
            (all_last (IsMadeUp all) front last h.made));
        inside = λ c k. h.inside c (Contains-cons next c rest k);
      }
    where
      upto : SweptTo (map firing_entry front ++ firing_entry last ∷ []) → (firing_entry last).row ≡ (candidate_entry next).row
          → (t : ℤ) → IsFrom next.support.span.lo t → IsFrom last.span.lo t
      upto was one = elim (was.ahead (firing_entry last) (Contains-push (map firing_entry front) (firing_entry last))
          (candidate_entry next) (Contains-head (candidate_entry next) (map candidate_entry rest))) [
            | inl less ↦
                let tied = tied_itself key_cmp-total (firing_entry last).row in
                let same : key_cmp (firing_entry last).row (firing_entry last).row ≡ Less =
                subst (λ k. key_cmp (firing_entry last).row k ≡ Less) (sym one) less in
                absurd cc
            | inr starts ↦ starts.1
          ]

  -- the candidate begins a firing
  begun_behind : (firings : List Firing) → AreMergedSoFar firings (next ∷ rest) all → IsApart next firings
      → AreMergedSoFar (firings ++ firing_of next ∷ []) rest all
  begun_behind firings h apart = record {
    swept = by (last_cases firings);
    made = All-push (IsMadeUp all) firings (firing_of next) h.made (begun all next (next_is firings h) (next_has firings h));
    inside = λ c k. h.inside c (Contains-cons next c rest k);
  }
    where
      by : (firings ≡ []) ⊎ ((front : List Firing) × (last : Firing) × (firings ≡ front ++ last ∷ []))
          → SweptPast (map firing_entry (firings ++ firing_of next ∷ []))
      by (inl e) =
          let was = subst (λ l. SweptTo (map firing_entry l)) e h.swept in
          subst (λ l. SweptPast (map firing_entry (l ++ firing_of next ∷ []))) (sym e)
          (swept_one (candidate_entry next) (map candidate_entry rest) (map candidate_entry all) was (next_has firings h))
      by (inr k) =
          let front = map firing_entry k.0 in
          let last = firing_entry k.1 in
          let done : map firing_entry firings ≡ front ++ last ∷ [] = ap (map firing_entry) k.2 ∙ map-append firing_entry k.0 (k.1 ∷ []) in
          let was = subst SweptTo done h.swept in
          let away : last.row ≡ (candidate_entry next).row → AreApart last.span next.support.span × ¬ (Touch last.span next.support.span) =
          λ e. apart k.0 k.1 k.2 (ap (λ (x : Key). x.rule) e, ap (λ (x : Key). x.frontier) e) in
          subst SweptPast (sym (map-append firing_entry firings (firing_of next ∷ []) ∙ ap (λ l. l ++ candidate_entry next ∷ []) done))
          (swept_apart key_cmp key_cmp-total key_same front last (candidate_entry next) (map candidate_entry rest) (map candidate_entry all)
          was (next_has firings h) away)

pub merged_more : (next : Candidate) (firings new : List Firing) (rest all : List Candidate) → HaveInstants all
    → AreMergedSoFar firings (next ∷ rest) all → Takes next firings new → AreMergedSoFar new rest all
merged_more next firings new rest all has h (inl e) =
    subst (λ l. AreMergedSoFar l rest all) (sym e.is)
    (extended next rest all has e.front e.last e.after (subst (λ l. AreMergedSoFar l (next ∷ rest) all) e.was h) e.alike e.goes_on)
merged_more next firings new rest all has h (inr b) =
    subst (λ l. AreMergedSoFar l rest all) (sym b.1) (begun_behind next rest all has firings h b.0)

-- the end

pub merged_all : (firings : List Firing) (all : List Candidate) → AreMergedSoFar firings [] all → AreMerged all firings
merged_all firings all h =
    let done = swept_all key_cmp key_cmp-total key_same (map firing_entry firings) (map candidate_entry all) h.swept in
    let covers : (row : Key) (t : ℤ) → Covers (map firing_entry firings) row t ↔ Covers (map candidate_entry all) row t =
    λ row t. subst (λ l. Covers l row t ↔ Covers (map candidate_entry all) row t) (append-nil (map firing_entry firings))
    (h.swept.covers row t) in
    record {
      same = λ rule values t. (
        λ f. at_covered candidate_entry all rule values t
            ((covers (record { rule = rule; frontier = values }) t).0 (covered_at firing_entry firings rule values t f)),
        λ f. at_covered firing_entry firings rule values t
            ((covers (record { rule = rule; frontier = values }) t).1 (covered_at candidate_entry all rule values t f)),
      );
      instants = All-weaker (IsMadeUp all) (λ firing. HasInstant firing.span) (λ firing made. made.instant) firings h.made;
      separate = AllPairs-weaker (λ (a b : Firing). AreSeparateEntries (firing_entry a) (firing_entry b)) AreSeparate
          (λ a b s rule frontier. s (λ i. record { rule = rule i; frontier = frontier i })) firings
          (AllPairs-from_map AreSeparateEntries firing_entry firings done.separate);
      ordered = AllPairs-weaker (λ (a b : Firing). stamped_cmp key_cmp (firing_entry a) (firing_entry b) ≡ Less)
          (λ a b. firing_cmp a b ≡ Less)
          (λ a b e. sym (then_assoc (nat_cmp a.rule b.rule) (slice_cmp id_cmp a.frontier b.frontier) (span_cmp a.span b.span)) ∙ e) firings
          (AllPairs-from_map (λ a b. stamped_cmp key_cmp a b ≡ Less) firing_entry firings done.ordered);
      made = h.made;
    }
