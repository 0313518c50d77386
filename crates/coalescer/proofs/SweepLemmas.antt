-- The sweep over sorted entries: what is behind it, what is ahead of it, and how one step keeps both.
use Rattle.std.proofs.Common.{◌≡◌, ◌⊎◌, ◌↔◌, ℕ, ◌<◌, ℤ, pos, ◌-ℤ◌, ◌≤ℤ◌, ◌<ℤ◌, false, Option, Some, None, List, [], ◌∷◌, ◌++◌, length, get_or, take, drop, refl, sym, ap, ◌∙◌, subst, inl, inr, ⊎_elim, arith, All, AllPairs, Contains, append_assoc, length-append, IsSorted}
use Rattle.std.specs.declared.cmp.Ordering.{Ordering}
use Rattle.std.specs.declared.cmp.Ordering.TheVariants.{Less, Equal, Greater}
use Rattle.std.specs.Ordering.{int_cmp, is_lt, ordering_then, ordering_reverse}
use Rattle.std.specs.Cmp.{IsTotalOrder}
use Rattle.std.proofs.lemmas.Bool.{false≢true}
use Rattle.std.proofs.lemmas.Int.{ints, by_lt_z}
use Rattle.std.proofs.lemmas.Cmp.{int_ranked, tied_itself}
use Rattle.std.proofs.lemmas.List.{get_or_append_left}
use Rattle.std.proofs.Math.Seq.{get_or-append_seam}
use Rattle.std.proofs.lemmas.List.Elements.{All-contains, All-push, Contains-append_left, Contains-append_right, Contains-append_cases, Contains-push, Contains-push_cases, Contains-get_or}
use Rattle.std.proofs.lemmas.List.Quantifiers.{all_pairs_push}
use Rattle.std.proofs.lemmas.List.Sorted.{sorted_far, ranks_by}
use Rattle.time_line.specs.Span.{Ends, IsFrom, IsBefore, Has, HasInstant, AreApart, Meet, StopsAt, Touch, IsJoin, start_cmp, stop_cmp, span_cmp}
use Rattle.rule_core.specs.Terms.{StampedOf}
use Rattle.rule_core.specs.Coalesced.{Covers, stamped_cmp, AreSeparate, IsCoalesced}
use Rattle.rule_core.proofs.CoalescedLemmas.{stamped_cmp-total}
use Rattle.rule_core.proofs.ListLemmas.{Contains-head, Contains-cons, Contains-cons_cases, Contains-nil, AllPairs-head, AllPairs-tail}

-- two spans

-- what is from the start of the second on is from the start of the first on
abbrev StartsUpTo : Ends → Ends → Type 0
StartsUpTo a b = (t : ℤ) → IsFrom b.lo t → IsFrom a.lo t

-- the first stops before the second starts
abbrev LeavesGap : Ends → Ends → Type 0
LeavesGap a b = (stop start : ℤ) × (a.hi ≡ Some stop) × (b.lo ≡ Some start) × (stop <ℤ start)

-- a start between a gap and what comes behind it
gap_over : (a b c : Ends) → LeavesGap a b → StartsUpTo b c → LeavesGap a c
gap_over a b c gap upto = by_start c.lo refl
  where
    by_start : (lo : Option ℤ) → c.lo ≡ lo → LeavesGap a c
    by_start None is =
        let early : gap.1 ≤ℤ (gap.1 -ℤ pos 1) = rw gap.3 at (upto (gap.1 -ℤ pos 1) (rw is tt)) in
        absurd (omega (arith, ints))
    by_start (Some lo) is =
        let late : gap.1 ≤ℤ lo = rw gap.3 at (upto lo (rw is (omega (arith, ints)))) in
        (gap.0, lo, gap.2, is, omega (arith, ints))

IsBefore-earlier : (hi : Option ℤ) (s t : ℤ) → s ≤ℤ t → IsBefore hi t → IsBefore hi s
IsBefore-earlier None s t h f = tt
IsBefore-earlier (Some hi) s t h f = omega (arith, ints)

-- spans in the order of their starts that neither meet nor touch leave a gap
module _ (a b : Ends) (in_a : HasInstant a) (in_b : HasInstant b)
    (upto : StartsUpTo a b) (apart : AreApart a b) (away : ¬ (Touch a b)) where
  -- an instant of the first that the second has from its start on
  common : (t : ℤ) → IsFrom b.lo t → t ≤ℤ in_b.0 → IsBefore a.hi t → ⊥
  common t from early before = apart t (upto t from, before) (from, IsBefore-earlier b.hi t in_b.0 early in_b.1.1)

  gap_by : (hi lo : Option ℤ) → a.hi ≡ hi → b.lo ≡ lo → LeavesGap a b
  gap_by None lo is_hi is_lo = absurd (common in_b.0 in_b.1.0 (omega (arith, ints)) (rw is_hi tt))
  gap_by (Some hi) None is_hi is_lo =
      by_lt_z in_b.0 in_a.0
      (λ l. absurd (common in_b.0 in_b.1.0 (omega (arith, ints)) (IsBefore-earlier a.hi in_b.0 in_a.0 (omega (arith, ints)) in_a.1.1)))
      (λ g. absurd (common in_a.0 (rw is_lo tt) g in_a.1.1))
  gap_by (Some hi) (Some lo) is_hi is_lo =
      let reached : lo ≤ℤ in_b.0 = rw is_lo at in_b.1.0 in
      by_lt_z hi lo
      (λ l. (hi, lo, is_hi, is_lo, l))
      (λ g. by_lt_z lo hi
      (λ l. absurd (common lo (rw is_lo (omega (arith, ints))) reached (rw is_hi l)))
      (λ k. let same : hi ≡ lo = omega (arith, ints) in absurd (away (inl (rw (is_hi, is_lo) same)))))

  pub gap_between : LeavesGap a b
  gap_between = gap_by a.hi b.lo refl refl

-- the order of starts
int_upto : (y x : ℤ) (r : Ordering) → r ≡ int_cmp y x → is_lt r ≡ false → x ≤ℤ y
int_upto y x Less e h = absurd (false≢true (sym h))
int_upto y x Equal e h = let m : y ≡ x = int_ranked y x Equal e in omega (arith, ints)
int_upto y x Greater e h = let m : x <ℤ y = int_ranked y x Greater e in omega (arith, ints)

int_below : (a b : ℤ) → a <ℤ b → (r : Ordering) → r ≡ int_cmp a b → r ≡ Less
int_below a b h Less e = refl
int_below a b h Equal e = let m : a ≡ b = int_ranked a b Equal e in absurd (omega (arith, ints))
int_below a b h Greater e = let m : b <ℤ a = int_ranked a b Greater e in absurd (omega (arith, ints))

start_upto : (a b : Option ℤ) → is_lt (start_cmp b a) ≡ false → (t : ℤ) → IsFrom b t → IsFrom a t
start_upto None b h t f = tt
start_upto (Some x) None h t f = absurd (false≢true (sym h))
start_upto (Some x) (Some y) h t f = let m : x ≤ℤ y = int_upto y x (int_cmp y x) refl h in omega (arith, ints)

first_lt : (r s : Ordering) → is_lt (ordering_then r s) ≡ false → is_lt r ≡ false
first_lt Less s h = h
first_lt Equal s h = refl
first_lt Greater s h = refl

-- a span before a gap stands before the one behind it
start_before : (lo : Option ℤ) (t start : ℤ) → IsFrom lo t → t <ℤ start → start_cmp lo (Some start) ≡ Less
start_before None t start f h = refl
start_before (Some lo) t start f h = int_below lo start (omega (arith, ints)) (int_cmp lo start) refl

gap_less : (a b : Ends) → HasInstant a → LeavesGap a b → span_cmp a b ≡ Less
gap_less a b in_a gap =
    let before : in_a.0 <ℤ gap.0 = rw gap.2 at in_a.1.1 in
    ap (λ r. ordering_then r (stop_cmp a.hi b.hi))
    (ap (start_cmp a.lo) gap.3 ∙ start_before a.lo in_a.0 gap.1 in_a.1.0 (omega (arith, ints)))

gap_apart : (a b : Ends) → LeavesGap a b → ¬ (Meet a b)
gap_apart a b gap m =
    let before : m.0 <ℤ gap.0 = rw gap.2 at m.1.1 in
    let after : gap.1 ≤ℤ m.0 = rw gap.3 at m.2.0 in
    absurd (omega (arith, ints))

-- the starts and stops of a touch
stops_by : (hi lo : Option ℤ) (h l : ℤ) → hi ≡ Some h → lo ≡ Some l → StopsAt hi lo → h ≡ l
stops_by hi lo h l p q s = rw (p, q) at s

gap_away : (a b : Ends) → HasInstant a → HasInstant b → LeavesGap a b → ¬ (Touch a b)
gap_away a b in_a in_b gap (inl s) = let e = stops_by a.hi b.lo gap.0 gap.1 gap.2 gap.3 s in absurd (omega (arith, ints))
gap_away a b in_a in_b gap (inr s) = by_back b.hi a.lo refl refl s
  where
    by_back : (hi lo : Option ℤ) → b.hi ≡ hi → a.lo ≡ lo → StopsAt hi lo → ⊥
    by_back None lo p q h = elim h [ ]
    by_back (Some hi) None p q h = elim h [ ]
    by_back (Some hi) (Some lo) p q h =
        let one : lo ≤ℤ in_a.0 = rw q at in_a.1.0 in
        let two : in_a.0 <ℤ gap.0 = rw gap.2 at in_a.1.1 in
        let three : gap.1 ≤ℤ in_b.0 = rw gap.3 at in_b.1.0 in
        let four : in_b.0 <ℤ hi = rw p at in_b.1.1 in
        absurd (omega (arith, ints))

-- lists

-- a list with one more element, whose elements stand in pairs
AllPairs-front : {X : Type 0} (R : X → X → Type 0) (xs : List X) (y : X) → AllPairs R (xs ++ y ∷ []) → AllPairs R xs
AllPairs-front R xs y pairs i j d h l =
    let e = get_or_append_left xs (y ∷ []) d i (omega arith) in
    let f = get_or_append_left xs (y ∷ []) d j l in
    let both = pairs i j d h (omega (arith, length-append xs (y ∷ []))) in
    subst (λ z. R z (get_or xs j d)) e (subst (λ z. R (get_or (xs ++ y ∷ []) i d) z) f both)

AllPairs-last : {X : Type 0} (R : X → X → Type 0) (xs : List X) (y : X) → AllPairs R (xs ++ y ∷ []) → (x : X) → Contains xs x → R x y
AllPairs-last R xs y pairs x c =
    let e = get_or_append_left xs (y ∷ []) x c.0 c.1 ∙ c.2 in
    let f = get_or-append_seam xs y [] x in
    let both = pairs c.0 (length xs) x c.1 (omega (arith, length-append xs (y ∷ []))) in
    subst (λ z. R z y) e (subst (λ z. R (get_or (xs ++ y ∷ []) c.0 x) z) f both)

-- entries

module _ {X : Type 0} (cmp : X → X → Ordering) where
  abbrev Entry : Type 0
  Entry = StampedOf X

  abbrev Lives : Entry → Type 0
  Lives e = HasInstant e.span

  -- the first is of a row before, or it stops before the second starts
  abbrev pub Before : Entry → Entry → Type 0
  Before a b = (cmp a.row b.row ≡ Less) ⊎ ((a.row ≡ b.row) × LeavesGap a.span b.span)

  -- the first is of a row before, or it starts no later than the second
  abbrev pub UpTo : Entry → Entry → Type 0
  UpTo a b = (cmp a.row b.row ≡ Less) ⊎ ((a.row ≡ b.row) × StartsUpTo a.span b.span)

  -- the sweep has brought all entries but the rest into the stretches that are done
  pub record Swept (done rest all : List Entry) : Type 0 where
    pub spans : All Lives done
    pub stretches : AllPairs Before done
    pub ahead : (x : Entry) → Contains done x → (e : Entry) → Contains rest e → UpTo x e
    pub order : AllPairs UpTo rest
    pub covers : (row : X) (t : ℤ) → Covers (done ++ rest) row t ↔ Covers all row t

  module _ (o : IsTotalOrder cmp) (same : (x y : X) → cmp x y ≡ Equal → x ≡ y) where
    not_less : (x : X) → ¬ (cmp x x ≡ Less)
    not_less x h = cc (tied_itself o x)

    before_upto : (a b c : Entry) → Before a b → UpTo b c → Before a c
    before_upto a b c (inl l) (inl m) = inl (o.trans a.row b.row c.row l m)
    before_upto a b c (inl l) (inr u) = inl (subst (λ z. cmp a.row z ≡ Less) u.0 l)
    before_upto a b c (inr g) (inl m) = inl (subst (λ z. cmp z c.row ≡ Less) (sym g.0) m)
    before_upto a b c (inr g) (inr u) = inr (g.0 ∙ u.0, gap_over a.span b.span c.span g.1 u.1)

    before_separate : (a b : Entry) → HasInstant a.span → HasInstant b.span → Before a b → AreSeparate a b
    before_separate a b in_a in_b (inl l) e = absurd (not_less a.row (subst (λ z. cmp a.row z ≡ Less) (sym e) l))
    before_separate a b in_a in_b (inr g) e = (gap_apart a.span b.span g.1, gap_away a.span b.span in_a in_b g.1)

    before_less : (a b : Entry) → HasInstant a.span → Before a b → stamped_cmp cmp a b ≡ Less
    before_less a b in_a (inl l) = ap (λ r. ordering_then r (span_cmp a.span b.span)) l
    before_less a b in_a (inr g) =
        ap (λ r. ordering_then r (span_cmp a.span b.span)) (ap (cmp a.row) (sym g.0) ∙ tied_itself o a.row)
        ∙ gap_less a.span b.span in_a g.1

    -- when nothing is left, what is done is coalesced
    pub swept_all : (done all : List Entry) → Swept done [] all → IsCoalesced cmp done
    swept_all done all s =
        let has : (k : ℕ) (d : Entry) → k < length done → HasInstant (get_or done k d).span = λ k d h. s.spans k d h in
        record {
          spans = s.spans;
          separate = λ i j d h l.
              before_separate (get_or done i d) (get_or done j d) (has i d (omega arith)) (has j d l) (s.stretches i j d h l);
          ordered = λ i j d h l. before_less (get_or done i d) (get_or done j d) (has i d (omega arith)) (s.stretches i j d h l);
        }

    -- the start

    turned : (r : Ordering) → ordering_reverse r ≡ Greater → r ≡ Less
    turned Less h = refl
    turned Equal h = cc
    turned Greater h = cc

    upto_by : (a b : Entry) (r : Ordering) → cmp b.row a.row ≡ r → is_lt (ordering_then r (span_cmp b.span a.span)) ≡ false → UpTo a b
    upto_by a b Less e h = absurd (false≢true (sym h))
    upto_by a b Equal e h =
        let first = first_lt (start_cmp b.span.lo a.span.lo) (stop_cmp b.span.hi a.span.hi) h in
        inr (sym (same b.row a.row e), start_upto a.span.lo b.span.lo first)
    upto_by a b Greater e h = inl (o.antisymm a.row b.row ∙ ap ordering_reverse e)

    sorted_upto : (all : List Entry) → IsSorted (stamped_cmp cmp) all → AllPairs UpTo all
    sorted_upto all sorted i j d h l =
        let a = get_or all i d in
        let b = get_or all j d in
        let weak = ranks_by (stamped_cmp-total cmp o) (λ (x : Entry). x) in
        upto_by a b (cmp b.row a.row) refl
        (sorted_far (λ x y. is_lt (stamped_cmp cmp x y)) weak all sorted i j d (omega arith) l)

    pub swept_first : (all : List Entry) (d : Entry) → 0 < length all → IsSorted (stamped_cmp cmp) all → HasInstant (get_or all 0 d).span
        → Swept (take 1 all) (drop 1 all) all
    swept_first [] d h sorted has = absurd (omega arith)
    swept_first (first ∷ rest) d h sorted has =
        let order = sorted_upto (first ∷ rest) sorted in
        record {
          spans = All-push Lives [] first (λ k z l. absurd (omega arith)) has;
          stretches = λ i j z l m. absurd (omega arith);
          ahead = λ x c e k. elim (Contains-cons_cases first x [] c) [
            | inl p ↦ subst (λ z. UpTo z e) p (AllPairs-head UpTo first rest order e k)
            | inr n ↦ absurd (Contains-nil x n)
          ];
          order = AllPairs-tail UpTo first rest order;
          covers = λ row t. (λ c. c, λ c. c);
        }

    -- one step

    -- the next entry goes behind the others
    pushed : (done : List Entry) (next : Entry) (rest all : List Entry) → Swept done (next ∷ rest) all → HasInstant next.span
        → ((x : Entry) → Contains done x → Before x next) → Swept (done ++ next ∷ []) rest all
    pushed done next rest all s has before = record {
      spans = All-push Lives done next s.spans has;
      stretches = all_pairs_push Before done next s.stretches (λ k d h. before (get_or done k d) (Contains-get_or done k d h));
      ahead = λ x c e k. elim (Contains-push_cases done next x c) [
        | inl p ↦ s.ahead x p e (Contains-cons next e rest k)
        | inr q ↦ subst (λ z. UpTo z e) q (AllPairs-head UpTo next rest s.order e k)
      ];
      order = AllPairs-tail UpTo next rest s.order;
      covers = λ row t. subst (λ list. Covers list row t ↔ Covers all row t) (sym (append_assoc done (next ∷ []) rest)) (s.covers row t);
    }

    module _ (front : List Entry) (last next : Entry) (rest all : List Entry) (s : Swept (front ++ last ∷ []) (next ∷ rest) all) where
      last_upto : UpTo last next
      last_upto = s.ahead last (Contains-push front last) next (Contains-head next rest)

      last_has : HasInstant last.span
      last_has = All-contains Lives (front ++ last ∷ []) last s.spans (Contains-push front last)

      -- the next entry begins a stretch
      pub swept_apart : HasInstant next.span → (last.row ≡ next.row → AreApart last.span next.span × ¬ (Touch last.span next.span))
          → Swept ((front ++ last ∷ []) ++ next ∷ []) rest all
      swept_apart has apart =
          let before : Before last next = elim last_upto [
            | inl l ↦ inl l
            | inr u ↦ inr (u.0, gap_between last.span next.span last_has has u.1 (apart u.0).0 (apart u.0).1)
          ] in
          pushed (front ++ last ∷ []) next rest all s has (λ x c. elim (Contains-push_cases front last x c) [
            | inl p ↦ before_upto x last next (AllPairs-last Before front last s.stretches x p) last_upto
            | inr q ↦ subst (λ z. Before z next) q before
          ])

      -- the next entry goes on with the last stretch
      module _ (joined : Entry) (one : last.row ≡ next.row) (kept : joined.row ≡ last.row) (join : IsJoin last.span next.span joined.span)
          (start : (joined.span.lo ≡ last.span.lo) ⊎ (joined.span.lo ≡ next.span.lo)) where
        starts : StartsUpTo last.span next.span
        starts = elim last_upto [
          | inl l ↦ absurd (not_less last.row (subst (λ z. cmp last.row z ≡ Less) (sym one) l))
          | inr u ↦ u.1
        ]

        before_joined : (x : Entry) → Before x last → Before x joined
        before_joined x (inl l) = inl (subst (λ z. cmp x.row z ≡ Less) (sym kept) l)
        before_joined x (inr g) =
            let over = gap_over x.span last.span next.span g.1 starts in
            inr (
              g.0 ∙ sym kept,
              ⊎_elim
                  (λ (p : joined.span.lo ≡ last.span.lo). (g.1.0, g.1.1, g.1.2, p ∙ g.1.3, g.1.4))
                  (λ (p : joined.span.lo ≡ next.span.lo). (over.0, over.1, over.2, p ∙ over.3, over.4))
                  start,
            )

        joined_upto : (e : Entry) → UpTo last e → UpTo next e → UpTo joined e
        joined_upto e (inl l) v = inl (subst (λ z. cmp z e.row ≡ Less) (sym kept) l)
        joined_upto e (inr u) (inl m) = absurd (not_less next.row (subst (λ z. cmp next.row z ≡ Less) (sym u.0 ∙ one) m))
        joined_upto e (inr u) (inr v) = inr (
          kept ∙ u.0,
          λ t f. ⊎_elim
              (λ (p : joined.span.lo ≡ last.span.lo). subst (λ lo. IsFrom lo t) (sym p) (u.1 t f))
              (λ (p : joined.span.lo ≡ next.span.lo). subst (λ lo. IsFrom lo t) (sym p) (v.1 t f))
              start,
        )

        front_spans : All Lives front
        front_spans k d h =
            subst Lives (get_or_append_left front (last ∷ []) d k h) (s.spans k d (omega (arith, length-append front (last ∷ []))))

        covered : (list : List Entry) (e : Entry) (row : X) (t : ℤ) → Contains list e → e.row ≡ row → Has e.span t → Covers list row t
        covered list e row t c p h = (c.0, e, c.1, c.2, (p, h))

        abbrev before_step : List Entry
        before_step = (front ++ last ∷ []) ++ next ∷ rest

        abbrev after_step : List Entry
        after_step = (front ++ joined ∷ []) ++ rest

        -- what is among the entries before the step
        front_was : (e : Entry) → Contains front e → Contains before_step e
        front_was e p = Contains-append_left (front ++ last ∷ []) (next ∷ rest) e (Contains-append_left front (last ∷ []) e p)

        last_was : Contains before_step last
        last_was = Contains-append_left (front ++ last ∷ []) (next ∷ rest) last (Contains-push front last)

        rest_was : (e : Entry) → Contains (next ∷ rest) e → Contains before_step e
        rest_was e p = Contains-append_right (front ++ last ∷ []) (next ∷ rest) e p

        -- and after it
        front_is : (e : Entry) → Contains front e → Contains after_step e
        front_is e p = Contains-append_left (front ++ joined ∷ []) rest e (Contains-append_left front (joined ∷ []) e p)

        joined_is : Contains after_step joined
        joined_is = Contains-append_left (front ++ joined ∷ []) rest joined (Contains-push front joined)

        rest_is : (e : Entry) → Contains rest e → Contains after_step e
        rest_is e p = Contains-append_right (front ++ joined ∷ []) rest e p

        from_joined : (row : X) (t : ℤ) → joined.row ≡ row → Has joined.span t → Covers before_step row t
        from_joined row t p h = elim ((join t).0 h) [
          | inl k ↦ covered before_step last row t last_was (sym kept ∙ p) k
          | inr k ↦ covered before_step next row t (rest_was next (Contains-head next rest)) (sym one ∙ sym kept ∙ p) k
        ]

        to_joined : (row : X) (t : ℤ) → last.row ≡ row → Has last.span t ⊎ Has next.span t → Covers after_step row t
        to_joined row t p h =
            covered after_step joined row t joined_is (kept ∙ p) ((join t).1 h)

        back : (row : X) (t : ℤ) → Covers after_step row t → Covers before_step row t
        back row t c = elim (Contains-append_cases (front ++ joined ∷ []) rest c.1 (c.0, c.2, c.3)) [
          | inl p ↦ elim (Contains-push_cases front joined c.1 p) [
            | inl q ↦ covered before_step c.1 row t (front_was c.1 q) c.4.0 c.4.1
            | inr q ↦ from_joined row t (ap (λ (e : Entry). e.row) q ∙ c.4.0) (subst (λ (e : Entry). Has e.span t) (sym q) c.4.1)
          ]
          | inr p ↦ covered before_step c.1 row t (rest_was c.1 (Contains-cons next c.1 rest p)) c.4.0 c.4.1
        ]

        there : (row : X) (t : ℤ) → Covers before_step row t → Covers after_step row t
        there row t c = elim (Contains-append_cases (front ++ last ∷ []) (next ∷ rest) c.1 (c.0, c.2, c.3)) [
          | inl p ↦ elim (Contains-push_cases front last c.1 p) [
            | inl q ↦ covered after_step c.1 row t (front_is c.1 q) c.4.0 c.4.1
            | inr q ↦ to_joined row t (ap (λ (e : Entry). e.row) q ∙ c.4.0) (inl (subst (λ (e : Entry). Has e.span t) (sym q) c.4.1))
          ]
          | inr p ↦ elim (Contains-cons_cases next c.1 rest p) [
            | inl q ↦ to_joined row t (one ∙ ap (λ (e : Entry). e.row) q ∙ c.4.0) (inr (subst (λ (e : Entry). Has e.span t) (sym q) c.4.1))
            | inr q ↦ covered after_step c.1 row t (rest_is c.1 q) c.4.0 c.4.1
          ]
        ]

        pub swept_joined : Swept (front ++ joined ∷ []) rest all
        swept_joined = record {
          spans = All-push Lives front joined front_spans (last_has.0, (join last_has.0).1 (inl last_has.1));
          stretches = all_pairs_push Before front joined (AllPairs-front Before front last s.stretches)
              (λ k d h. before_joined (get_or front k d)
              (AllPairs-last Before front last s.stretches (get_or front k d) (Contains-get_or front k d h)));
          ahead = λ x c e k. elim (Contains-push_cases front joined x c) [
            | inl p ↦ s.ahead x (Contains-append_left front (last ∷ []) x p) e (Contains-cons next e rest k)
            | inr q ↦ subst (λ z. UpTo z e) q (joined_upto e
                (s.ahead last (Contains-push front last) e (Contains-cons next e rest k)) (AllPairs-head UpTo next rest s.order e k))
          ];
          order = AllPairs-tail UpTo next rest s.order;
          covers = λ row t. (λ c. (s.covers row t).0 (back row t c), λ c. there row t ((s.covers row t).1 c));
        }
