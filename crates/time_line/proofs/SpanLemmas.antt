-- What ends in order have, and what the ends of a common and of a joined span have.
use Rattle.std.proofs.Common.{◌≡◌, ◌⊎◌, ◌↔◌, ℤ, pos, ◌≤ℤ◌, ◌<ℤ◌, ◌-ℤ◌, Bool, true, false, cond, Option, Some, None, inl, inr, ⊎_elim, refl, arith}
use Rattle.std.proofs.lemmas.Int.{ints, by_lt_z}
use Rattle.std.specs.Ordering.{ord_max, ord_min}
use lib.Signed.{≤ℤ_refl}
use Rattle.time_line.specs.Span.{Ends, IsFrom, IsBefore, Has, HasInstant, IsWithinLimit, IsSpan, AreOrdered, Meet, IsMeet, StopsAt, Touch, IsJoin, start_cmp, stop_cmp}

-- ends in order have an instant
pub HasInstant-from_ordered : (lo hi : Option ℤ) → AreOrdered lo hi → HasInstant (record { lo = lo; hi = hi })
HasInstant-from_ordered None None h = (pos 0, (tt, tt))
HasInstant-from_ordered None (Some hi) h = (hi -ℤ pos 1, (tt, omega (arith, ints)))
HasInstant-from_ordered (Some lo) None h = (lo, (≤ℤ_refl lo, tt))
HasInstant-from_ordered (Some lo) (Some hi) h = (lo, (≤ℤ_refl lo, h))

-- ends in order and within the limit are a span's
pub IsSpan-from_ordered : (lo hi : Option ℤ) → IsWithinLimit lo → IsWithinLimit hi → AreOrdered lo hi → IsSpan (record { lo = lo; hi = hi })
IsSpan-from_ordered lo hi start stop ordered = record { instant = HasInstant-from_ordered lo hi ordered; start = start; stop = stop }

-- ends with an instant are in order
pub AreOrdered-from_has : (lo hi : Option ℤ) (t : ℤ) → IsFrom lo t → IsBefore hi t → AreOrdered lo hi
AreOrdered-from_has None hi t f b = tt
AreOrdered-from_has (Some lo) None t f b = tt
AreOrdered-from_has (Some lo) (Some hi) t f b = omega (arith, ints)

-- what both have, the one that is picked has
pub picked : (P : Option ℤ → Type 0) (b : Bool) (x y : Option ℤ) → P x → P y → P (cond b x y)
picked P true x y p q = p
picked P false x y p q = q

-- the later of two starts is a start for the instants of both
IsFrom-later : (a b : Option ℤ) (t : ℤ) → IsFrom (ord_max start_cmp a b) t ↔ (IsFrom a t × IsFrom b t)
IsFrom-later None None t = (λ _. (tt, tt), λ _. tt)
IsFrom-later None (Some b) t = (λ h. (tt, h), λ h. h.1)
IsFrom-later (Some a) None t = (λ h. (h, tt), λ h. h.0)
IsFrom-later (Some a) (Some b) t = grind (arith, ints)

-- the earlier of two stops is a stop for the instants of both
IsBefore-earlier : (a b : Option ℤ) (t : ℤ) → IsBefore (ord_min stop_cmp a b) t ↔ (IsBefore a t × IsBefore b t)
IsBefore-earlier None None t = (λ _. (tt, tt), λ _. tt)
IsBefore-earlier None (Some b) t = (λ h. (tt, h), λ h. h.1)
IsBefore-earlier (Some a) None t = (λ h. (h, tt), λ h. h.0)
IsBefore-earlier (Some a) (Some b) t = grind (arith, ints)

-- the earlier of two starts is a start for the instants of either
IsFrom-earlier : (a b : Option ℤ) (t : ℤ) → IsFrom (ord_min start_cmp a b) t ↔ (IsFrom a t ⊎ IsFrom b t)
IsFrom-earlier None None t = (λ _. inl tt, λ _. tt)
IsFrom-earlier None (Some b) t = (λ _. inl tt, λ _. tt)
IsFrom-earlier (Some a) None t = (λ _. inr tt, λ _. tt)
IsFrom-earlier (Some a) (Some b) t = grind (arith, ints)

-- the later of two stops is a stop for the instants of either
IsBefore-later : (a b : Option ℤ) (t : ℤ) → IsBefore (ord_max stop_cmp a b) t ↔ (IsBefore a t ⊎ IsBefore b t)
IsBefore-later None None t = (λ _. inl tt, λ _. tt)
IsBefore-later None (Some b) t = (λ _. inl tt, λ _. tt)
IsBefore-later (Some a) None t = (λ _. inr tt, λ _. tt)
IsBefore-later (Some a) (Some b) t = grind (arith, ints)

-- ends that are picked as `Span::meet` does are those of the common instants
pub IsMeet-from_ends : (a b : Ends) (lo hi : Option ℤ) → lo ≡ ord_max start_cmp a.lo b.lo → hi ≡ ord_min stop_cmp a.hi b.hi
    → IsMeet a b (record { lo = lo; hi = hi })
IsMeet-from_ends a b lo hi p q t =
    let start = IsFrom-later a.lo b.lo t in
    let stop = IsBefore-earlier a.hi b.hi t in
    rw (p, q) (
      λ h. (((start.0 h.0).0, (stop.0 h.1).0), ((start.0 h.0).1, (stop.0 h.1).1)),
      λ h. (start.1 (h.0.0, h.1.0), stop.1 (h.0.1, h.1.1)),
    )

-- a stop does not stand before an instant of the span that starts there
not_within : (hi lo : Option ℤ) (t : ℤ) → StopsAt hi lo → IsFrom lo t → IsBefore hi t → ⊥
not_within (Some hi) (Some lo) t e f b = omega (arith, ints)
not_within (Some hi) None t e f b = e
not_within None lo t e f b = e

-- what `Span::join` requires
abbrev AreLinked : Ends → Ends → Type 0
AreLinked a b = Meet a b ⊎ Touch a b

-- spans that meet or touch leave no gap
no_gap : (a b : Ends) (h l t : ℤ) → a.hi ≡ Some h → b.lo ≡ Some l → AreLinked a b
    → IsFrom a.lo t → IsBefore b.hi t → h ≤ℤ t → t <ℤ l → ⊥
no_gap a b h l t p q (inl m) f g x y =
    let before : m.0 <ℤ h = rw p at m.1.1 in
    let from : l ≤ℤ m.0 = rw q at m.2.0 in
    omega (arith, ints)
no_gap a b h l t p q (inr (inl e)) f g x y =
    let same : h ≡ l = rw (p, q) at e in
    omega (arith, ints)
no_gap a b h l t p q (inr (inr e)) f g x y = not_within b.hi a.lo t e f g

-- between the start of one and the stop of another that meets or touches it, each instant is in one of the two
crossed : (a b : Ends) (t : ℤ) (hi lo : Option ℤ) → a.hi ≡ hi → b.lo ≡ lo → AreLinked a b
    → IsFrom a.lo t → IsBefore b.hi t → IsBefore hi t ⊎ IsFrom lo t
crossed a b t None lo p q m f g = inl tt
crossed a b t (Some h) None p q m f g = inr tt
crossed a b t (Some h) (Some l) p q m f g =
    by_lt_z t h (λ x. inl x) (λ x. by_lt_z t l (λ y. absurd (no_gap a b h l t p q m f g x y)) (λ y. inr y))

-- meeting and touching go both ways
turned : (a b : Ends) → AreLinked a b → AreLinked b a
turned a b (inl m) = inl (m.0, m.2, m.1)
turned a b (inr (inl e)) = inr (inr e)
turned a b (inr (inr e)) = inr (inl e)

-- an instant between the earlier start and the later stop is in one of the two
within_one : (a b : Ends) (t : ℤ) → AreLinked a b
    → IsFrom a.lo t ⊎ IsFrom b.lo t → IsBefore a.hi t ⊎ IsBefore b.hi t → Has a t ⊎ Has b t
within_one a b t m (inl f) (inl g) = inl (f, g)
within_one a b t m (inr f) (inr g) = inr (f, g)
within_one a b t m (inl f) (inr g) =
    ⊎_elim (λ x. inl (f, x)) (λ x. inr (x, g)) (crossed a b t a.hi b.lo refl refl m f g)
within_one a b t m (inr f) (inl g) =
    ⊎_elim (λ x. inr (f, x)) (λ x. inl (x, g)) (crossed b a t b.hi a.lo refl refl (turned a b m) f g)

-- ends that are picked as `Span::join` does are those of the instants of either
pub IsJoin-from_ends : (a b : Ends) (lo hi : Option ℤ) → AreLinked a b
    → lo ≡ ord_min start_cmp a.lo b.lo → hi ≡ ord_max stop_cmp a.hi b.hi → IsJoin a b (record { lo = lo; hi = hi })
IsJoin-from_ends a b lo hi m p q t =
    let start = IsFrom-earlier a.lo b.lo t in
    let stop = IsBefore-later a.hi b.hi t in
    rw (p, q) (
      λ h. within_one a b t m (start.0 h.0) (stop.0 h.1),
      ⊎_elim (λ h. (start.1 (inl h.0), stop.1 (inl h.1))) (λ h. (start.1 (inr h.0), stop.1 (inr h.1))),
    )
