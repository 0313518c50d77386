-- A span that has an instant is told by its instants.
use Rattle.std.proofs.Common.{◌≡◌, ◌↔◌, ℤ, pos, ◌≤ℤ◌, ◌<ℤ◌, ◌-ℤ◌, Option, Some, None, refl, ap, arith}
use Rattle.std.proofs.lemmas.Int.{ints, by_lt_z}
use lib.Signed.{≤ℤ_refl}
use Rattle.time_line.specs.Span.{Ends, IsFrom, IsBefore, Has, HasInstant, IsWithinLimit, IsSpan}
use Rattle.body_match.specs.Keys.{start_number, stop_number}

IsBefore-earlier : (hi : Option ℤ) (s t : ℤ) → s ≤ℤ t → IsBefore hi t → IsBefore hi s
IsBefore-earlier None s t h f = tt
IsBefore-earlier (Some hi) s t h f = omega (arith, ints)

IsFrom-later : (lo : Option ℤ) (s t : ℤ) → s ≤ℤ t → IsFrom lo s → IsFrom lo t
IsFrom-later None s t h f = tt
IsFrom-later (Some lo) s t h f = omega (arith, ints)

module _ (a b : Ends) (t : ℤ) (in_a : Has a t) (in_b : Has b t) (into : (s : ℤ) → Has a s → Has b s) where
  -- no start is after another from which on the same instants come
  starts : (lo start : ℤ) → b.lo ≡ Some start → IsFrom a.lo lo → lo ≤ℤ t → start ≤ℤ lo
  starts lo start e from early = rw e at ((into lo (from, IsBefore-earlier a.hi lo t early in_a.1)).0)

  stops : (hi stop : ℤ) → b.hi ≡ Some stop → IsBefore a.hi hi → t ≤ℤ hi → hi <ℤ stop
  stops hi stop e before late = rw e at ((into hi (IsFrom-later a.lo t hi late in_a.0, before)).1)

module _ (a b : Ends) (t : ℤ) (in_a : Has a t) (in_b : Has b t) (into : (s : ℤ) → Has a s → Has b s)
    (back : (s : ℤ) → Has b s → Has a s) where
  same_start : (x y : Option ℤ) → a.lo ≡ x → b.lo ≡ y → x ≡ y
  same_start None None p q = refl
  same_start None (Some y) p q =
      let from : y ≤ℤ t = rw q at in_b.0 in
      let h : y ≤ℤ (y -ℤ pos 1) = starts a b t in_a in_b into (y -ℤ pos 1) y q (rw p tt) (omega (arith, ints)) in
      absurd (omega (arith, ints))
  same_start (Some x) None p q =
      let from : x ≤ℤ t = rw p at in_a.0 in
      let h : x ≤ℤ (x -ℤ pos 1) = starts b a t in_b in_a back (x -ℤ pos 1) x p (rw q tt) (omega (arith, ints)) in
      absurd (omega (arith, ints))
  same_start (Some x) (Some y) p q =
      let from_x : x ≤ℤ t = rw p at in_a.0 in
      let from_y : y ≤ℤ t = rw q at in_b.0 in
      let h : y ≤ℤ x = starts a b t in_a in_b into x y q (rw p (≤ℤ_refl x)) from_x in
      let k : x ≤ℤ y = starts b a t in_b in_a back y x p (rw q (≤ℤ_refl y)) from_y in
      let same : x ≡ y = omega (arith, ints) in
      ap Some same

  same_stop : (x y : Option ℤ) → a.hi ≡ x → b.hi ≡ y → x ≡ y
  same_stop None None p q = refl
  same_stop None (Some y) p q =
      let before : t <ℤ y = rw q at in_b.1 in
      let h : y <ℤ y = stops a b t in_a in_b into y y q (rw p tt) (omega (arith, ints)) in
      absurd (omega (arith, ints))
  same_stop (Some x) None p q =
      let before : t <ℤ x = rw p at in_a.1 in
      let h : x <ℤ x = stops b a t in_b in_a back x x p (rw q tt) (omega (arith, ints)) in
      absurd (omega (arith, ints))
  same_stop (Some x) (Some y) p q =
      let before_x : t <ℤ x = rw p at in_a.1 in
      let before_y : t <ℤ y = rw q at in_b.1 in
      let up_to : x ≤ℤ y = by_lt_z x y (λ l. omega (arith, ints)) (λ g. by_lt_z y x
      (λ l. let h : y <ℤ y = stops a b t in_a in_b into y y q (rw p l) (omega (arith, ints)) in absurd (omega (arith, ints)))
      (λ h. h)) in
      let down_to : y ≤ℤ x = by_lt_z y x (λ l. omega (arith, ints)) (λ g. by_lt_z x y
      (λ l. let h : x <ℤ x = stops b a t in_b in_a back x x p (rw q l) (omega (arith, ints)) in absurd (omega (arith, ints)))
      (λ h. h)) in
      let same : x ≡ y = omega (arith, ints) in
      ap Some same

pub same_ends : (a b : Ends) → HasInstant a → ((t : ℤ) → Has a t ↔ Has b t) → a ≡ b
same_ends a b inside h =
    let t = inside.0 in
    let in_b = (h t).0 inside.1 in
    let start = same_start a b t inside.1 in_b (λ s. (h s).0) (λ s. (h s).1) a.lo b.lo refl refl in
    let stop = same_stop a b t inside.1 in_b (λ s. (h s).0) (λ s. (h s).1) a.hi b.hi refl refl in
    λ i. record { lo = start i; hi = stop i }

-- a start is before a stop where some instant is from the one on and before the other
start_before_stop : (lo hi : Option ℤ) (t : ℤ) → IsFrom lo t → IsBefore hi t → IsWithinLimit lo → IsWithinLimit hi
    → start_number lo <ℤ stop_number hi
start_before_stop None None t from before l h = omega (arith, ints)
start_before_stop None (Some hi) t from before l h = omega (arith, ints, h.0)
start_before_stop (Some lo) None t from before l h = omega (arith, ints, l.1)
start_before_stop (Some lo) (Some hi) t from before l h = omega (arith, ints)

pub meeting_ends : (a b : Ends) → IsSpan a → IsSpan b → (t : ℤ) → Has a t → Has b t → start_number a.lo <ℤ stop_number b.hi
meeting_ends a b p q t in_a in_b = start_before_stop a.lo b.hi t in_a.0 in_b.1 p.start q.stop

-- a span within another starts no earlier and stops no later
module _ (a b : Ends) (t : ℤ) (in_a : Has a t) (in_b : Has b t) (into : (s : ℤ) → Has a s → Has b s) where
  start_within : (x y : Option ℤ) → a.lo ≡ x → b.lo ≡ y → IsWithinLimit x → start_number y ≤ℤ start_number x
  start_within None None p q limit = ≤ℤ_refl (start_number None)
  start_within None (Some y) p q limit =
      let from : y ≤ℤ t = rw q at in_b.0 in
      let h : y ≤ℤ (y -ℤ pos 1) = starts a b t in_a in_b into (y -ℤ pos 1) y q (rw p tt) (omega (arith, ints)) in
      absurd (omega (arith, ints))
  start_within (Some x) None p q limit = let low = limit.0 in omega (arith, ints)
  start_within (Some x) (Some y) p q limit =
      let from : x ≤ℤ t = rw p at in_a.0 in
      starts a b t in_a in_b into x y q (rw p (≤ℤ_refl x)) from

  stop_within : (x y : Option ℤ) → a.hi ≡ x → b.hi ≡ y → IsWithinLimit x → stop_number x ≤ℤ stop_number y
  stop_within None None p q limit = ≤ℤ_refl (stop_number None)
  stop_within None (Some y) p q limit =
      let before : t <ℤ y = rw q at in_b.1 in
      let h : y <ℤ y = stops a b t in_a in_b into y y q (rw p tt) (omega (arith, ints)) in
      absurd (omega (arith, ints))
  stop_within (Some x) None p q limit = let high = limit.1 in omega (arith, ints)
  stop_within (Some x) (Some y) p q limit =
      let before : t <ℤ y = rw q at in_b.1 in
      by_lt_z x y (λ l. omega (arith, ints)) (λ g. by_lt_z y x
      (λ l. let h : y <ℤ y = stops a b t in_a in_b into y y q (rw p l) (omega (arith, ints)) in absurd (omega (arith, ints)))
      (λ h. h))

pub starts_no_earlier : (a b : Ends) → IsSpan a → ((s : ℤ) → Has a s → Has b s) → start_number b.lo ≤ℤ start_number a.lo
starts_no_earlier a b is into = start_within a b is.instant.0 is.instant.1 (into is.instant.0 is.instant.1) into a.lo b.lo refl refl is.start

pub stops_no_later : (a b : Ends) → IsSpan a → ((s : ℤ) → Has a s → Has b s) → stop_number a.hi ≤ℤ stop_number b.hi
stops_no_later a b is into = stop_within a b is.instant.0 is.instant.1 (into is.instant.0 is.instant.1) into a.hi b.hi refl refl is.stop
