-- The coalescing law: two coalesced lists that cover the same are equal.
use Rattle.std.proofs.Common.{◌≡◌, ◌⊎◌, ℤ, pos, ◌-ℤ◌, ◌≤ℤ◌, ◌<ℤ◌, Option, Some, None, List, refl, sym, ap, subst, inl, inr}
use Rattle.std.proofs.Common.{⊎_elim, arith, Contains}
use Rattle.std.specs.declared.cmp.Ordering.{Ordering}
use Rattle.std.specs.Cmp.{IsTotalOrder}
use Rattle.std.proofs.lemmas.Int.{ints, by_lt_z}
use Rattle.std.proofs.lemmas.Cmp.{then_total, on_total}
use Rattle.std.proofs.lemmas.List.Elements.{All-contains}
use Rattle.time_line.specs.Span.{Ends, IsFrom, IsBefore, Has, HasInstant, Meet, StopsAt, Touch}
use Rattle.time_line.specs.SpanOrder.{span_cmp-total}
use Rattle.rule_core.specs.Terms.{StampedOf}
use Rattle.rule_core.specs.Coalesced.{Covers, stamped_cmp, AreSeparate, IsCoalesced}
use Rattle.rule_core.proofs.ListLemmas.{AllPairs-members, same_strict_lists}

not_below : (a b : ℤ) → ¬ (a <ℤ b) → b ≤ℤ a
not_below a b n = by_lt_z a b (λ l. absurd (n l)) (λ h. h)

not_upto : (a b : ℤ) → ¬ (a ≤ℤ b) → b <ℤ a
not_upto a b n = by_lt_z b a (λ l. l) (λ h. absurd (n h))

-- an end that bounds an instant bounds the ones on its other side
IsFrom-later : (lo : Option ℤ) (s t : ℤ) → s ≤ℤ t → IsFrom lo s → IsFrom lo t
IsFrom-later None s t h f = tt
IsFrom-later (Some lo) s t h f = omega (arith, ints)

IsBefore-earlier : (hi : Option ℤ) (s t : ℤ) → s ≤ℤ t → IsBefore hi t → IsBefore hi s
IsBefore-earlier None s t h f = tt
IsBefore-earlier (Some hi) s t h f = omega (arith, ints)

previous : (t : ℤ) → (t -ℤ pos 1) ≤ℤ t
previous t = omega (arith, ints)

-- a stop between two instants is the start that is absent between them, or the two are apart
start_before : (lo hi : Option ℤ) (t : ℤ) → IsFrom lo t → IsBefore hi (t -ℤ pos 1) → ¬ (IsBefore hi t) → ¬ (StopsAt hi lo)
    → IsFrom lo (t -ℤ pos 1)
start_before None hi t f g n s = tt
start_before (Some lo) None t f g n s = absurd (n tt)
start_before (Some lo) (Some hi) t f g n s =
    let h : hi ≤ℤ t = not_below t hi n in
    by_lt_z (t -ℤ pos 1) lo (λ l. absurd (s (omega (arith, ints)))) (λ k. k)

stop_after : (lo hi : Option ℤ) (t : ℤ) → IsBefore hi (t -ℤ pos 1) → IsFrom lo t → ¬ (IsFrom lo (t -ℤ pos 1)) → ¬ (StopsAt hi lo)
    → IsBefore hi t
stop_after lo None t f g n s = tt
stop_after None (Some hi) t f g n s = absurd (n tt)
stop_after (Some lo) (Some hi) t f g n s =
    let l : (t -ℤ pos 1) <ℤ lo = not_upto lo (t -ℤ pos 1) n in
    by_lt_z t hi (λ k. k) (λ h. absurd (s (omega (arith, ints))))

-- two spans that neither meet nor touch: where one has an instant and the other a neighbour of it, the one has both
module _ (a b : Ends) (t : ℤ) (apart : ¬ (Meet a b)) (away : ¬ (Touch a b)) where
  has_before : Has a t → Has b (t -ℤ pos 1) → Has a (t -ℤ pos 1)
  has_before h k =
      let from = IsFrom-later b.lo (t -ℤ pos 1) t (previous t) k.0 in (
        start_before a.lo b.hi t h.0 k.1 (λ l. apart (t, h, (from, l))) (λ s. away (inr s)),
        IsBefore-earlier a.hi (t -ℤ pos 1) t (previous t) h.1,
      )

  has_after : Has a (t -ℤ pos 1) → Has b t → Has a t
  has_after h k =
      let before = IsBefore-earlier b.hi (t -ℤ pos 1) t (previous t) k.1 in (
        IsFrom-later a.lo (t -ℤ pos 1) t (previous t) h.0,
        stop_after b.lo a.hi t h.1 k.0 (λ f. apart (t -ℤ pos 1, h, (f, before))) (λ s. away (inl s)),
      )

-- ends that are not apart in either order are one
same_start : (a b : Option ℤ) → ((l : ℤ) → b ≡ Some l → ¬ (IsFrom a (l -ℤ pos 1))) → ((l : ℤ) → a ≡ Some l → ¬ (IsFrom b (l -ℤ pos 1)))
    → a ≡ b
same_start None None f g = refl
same_start None (Some l) f g = absurd (f l refl tt)
same_start (Some k) None f g = absurd (g k refl tt)
same_start (Some k) (Some l) f g =
    let p : (l -ℤ pos 1) <ℤ k = not_upto k (l -ℤ pos 1) (f l refl) in
    let q : (k -ℤ pos 1) <ℤ l = not_upto l (k -ℤ pos 1) (g k refl) in
    ap Some (omega (arith, ints))

same_stop : (a b : Option ℤ) → ((h : ℤ) → b ≡ Some h → ¬ (IsBefore a h)) → ((h : ℤ) → a ≡ Some h → ¬ (IsBefore b h)) → a ≡ b
same_stop None None f g = refl
same_stop None (Some h) f g = absurd (f h refl tt)
same_stop (Some k) None f g = absurd (g k refl tt)
same_stop (Some k) (Some h) f g =
    let p : k ≤ℤ h = not_below h k (f h refl) in
    let q : h ≤ℤ k = not_below k h (g k refl) in
    ap Some (omega (arith, ints))

module _ {X : Type 0} (cmp : X → X → Ordering) where
  -- an entry has each covered instant beside one that it has
  module _ (list : List (StampedOf X)) (good : IsCoalesced cmp list) (e : StampedOf X) (member : Contains list e) where
    separate_from : (f : StampedOf X) → Contains list f → e.row ≡ f.row → (e ≡ f) ⊎ (¬ (Meet e.span f.span) × ¬ (Touch e.span f.span))
    separate_from f found same = elim (AllPairs-members AreSeparate list good.separate e f member found) [
      | inl p ↦ inl p
      | inr (inl s) ↦ inr (s same)
      | inr (inr s) ↦
          let p = s (sym same) in
          inr (λ m. p.0 (m.0, m.2, m.1), λ h. p.1 (⊎_elim inr inl h))
    ]

    covered_before : (t : ℤ) → Has e.span t → Covers list e.row (t -ℤ pos 1) → Has e.span (t -ℤ pos 1)
    covered_before t h c = elim (separate_from c.1 (c.0, c.2, c.3) (sym c.4.0)) [
      | inl p ↦ subst (λ (z : StampedOf X). Has z.span (t -ℤ pos 1)) (sym p) c.4.1
      | inr s ↦ has_before e.span c.1.span t s.0 s.1 h c.4.1
    ]

    covered_after : (t : ℤ) → Has e.span (t -ℤ pos 1) → Covers list e.row t → Has e.span t
    covered_after t h c = elim (separate_from c.1 (c.0, c.2, c.3) (sym c.4.0)) [
      | inl p ↦ subst (λ (z : StampedOf X). Has z.span t) (sym p) c.4.1
      | inr s ↦ has_after e.span c.1.span t s.0 s.1 h c.4.1
    ]

  -- the span of an entry ends where that of an entry of another list ends, if the lists cover the same of the row
  module _ (ds es : List (StampedOf X)) (good : IsCoalesced cmp es) (d e : StampedOf X) (t : ℤ)
      (same : d.row ≡ e.row) (there : Contains ds d) (member : Contains es e)
      (covers : (u : ℤ) → Covers ds d.row u → Covers es d.row u) (in_d : Has d.span t) (in_e : Has e.span t) where
    covered : (u : ℤ) → Has d.span u → Covers es e.row u
    covered u h = subst (λ r. Covers es r u) same (covers u (there.0, d, there.1, there.2, (refl, h)))

    no_later_start : (l : ℤ) → e.span.lo ≡ Some l → ¬ (IsFrom d.span.lo (l -ℤ pos 1))
    no_later_start l is f =
        let below : l ≤ℤ t = rw is at in_e.0 in
        let first : IsFrom e.span.lo l = rw is (omega (arith, ints)) in
        let h : Has e.span l = (first, IsBefore-earlier e.span.hi l t below in_e.1) in
        let k : Has d.span (l -ℤ pos 1) = (f, IsBefore-earlier d.span.hi (l -ℤ pos 1) t (omega (arith, ints)) in_d.1) in
        let m = covered_before es good e member l h (covered (l -ℤ pos 1) k) in
        let n : l ≤ℤ (l -ℤ pos 1) = rw is at m.0 in
        absurd (omega (arith, ints))

    no_earlier_stop : (h : ℤ) → e.span.hi ≡ Some h → ¬ (IsBefore d.span.hi h)
    no_earlier_stop h is f =
        let above : t <ℤ h = rw is at in_e.1 in
        let last : IsBefore e.span.hi (h -ℤ pos 1) = rw is (omega (arith, ints)) in
        let j : Has e.span (h -ℤ pos 1) = (IsFrom-later e.span.lo t (h -ℤ pos 1) (omega (arith, ints)) in_e.0, last) in
        let k : Has d.span h = (IsFrom-later d.span.lo t h (omega (arith, ints)) in_d.0, f) in
        let m = covered_after es good e member h j (covered h k) in
        let n : h <ℤ h = rw is at m.1 in
        absurd (omega (arith, ints))

  -- one covers what the other covers
  SameCover : List (StampedOf X) → List (StampedOf X) → Type 0
  SameCover ds es = (row : X) (t : ℤ) → Covers ds row t → Covers es row t

  module _ (ds es : List (StampedOf X)) (good_ds : IsCoalesced cmp ds) (good_es : IsCoalesced cmp es)
      (to : SameCover ds es) (back : SameCover es ds) where
    member_of_other : (d : StampedOf X) → Contains ds d → Contains es d
    unfolding SameCover
    member_of_other d there =
        let has_instant = All-contains (λ (z : StampedOf X). HasInstant z.span) ds d good_ds.spans there in
        let t = has_instant.0 in
        let in_d = has_instant.1 in
        let c = to d.row t (there.0, d, there.1, there.2, (refl, in_d)) in
        let e = c.1 in
        let member : Contains es e = (c.0, c.2, c.3) in
        let same : d.row ≡ e.row = sym c.4.0 in
        let lo = same_start d.span.lo e.span.lo
        (no_later_start ds es good_es d e t same there member (to d.row) in_d c.4.1)
        (no_later_start es ds good_ds e d t (sym same) member there (back e.row) c.4.1 in_d) in
        let hi = same_stop d.span.hi e.span.hi
        (no_earlier_stop ds es good_es d e t same there member (to d.row) in_d c.4.1)
        (no_earlier_stop es ds good_ds e d t (sym same) member there (back e.row) c.4.1 in_d) in
        let equal : d ≡ e = λ i. record { row = same i; span = record { lo = lo i; hi = hi i } } in
        subst (λ z. Contains es z) (sym equal) member

-- the order by row and then by span is total, if that of rows is
pub stamped_cmp-total : {X : Type 0} (cmp : X → X → Ordering) → IsTotalOrder cmp → IsTotalOrder (stamped_cmp cmp)
stamped_cmp-total {X} cmp o = then_total (on_total (λ (z : StampedOf X). z.row) o) (on_total (λ (z : StampedOf X). z.span) span_cmp-total)

-- the law
pub same_coalesced : {X : Type 0} (cmp : X → X → Ordering) → IsTotalOrder cmp → (ds es : List (StampedOf X)) → IsCoalesced cmp ds
    → IsCoalesced cmp es
    → ((row : X) (t : ℤ) → Covers ds row t → Covers es row t) → ((row : X) (t : ℤ) → Covers es row t → Covers ds row t) → ds ≡ es
unfolding SameCover
same_coalesced cmp o ds es good_ds good_es to back =
    same_strict_lists (stamped_cmp cmp) (stamped_cmp-total cmp o) ds es good_ds.ordered good_es.ordered
    (member_of_other cmp ds es good_ds good_es to back) (member_of_other cmp es ds good_es good_ds back to)
