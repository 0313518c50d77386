-- The ends of a row's span that has all of another span.
use Rattle.std.proofs.Common.{◌≡◌, ℤ, pos, ◌-ℤ◌, ◌≤ℤ◌, ◌<ℤ◌, Bool, true, false, int_le, Option, Some, None, refl, sym, ◌∙◌, subst, arith}
use Rattle.std.proofs.lemmas.Int.{ints}
use Rattle.time_line.specs.Span.{Ends, Has, IsFrom, IsBefore, IsInside, IsSpan}
use Rattle.egd_chase.proofs.MeasureLemmas.{starts_at, stops_at}

earlier : (hi : Option ℤ) (t s : ℤ) → IsBefore hi t → s ≤ℤ t → IsBefore hi s
earlier None t s b l = tt
earlier (Some n) t s b l = omega (arith, ints)

later : (lo : Option ℤ) (t s : ℤ) → IsFrom lo t → t ≤ℤ s → IsFrom lo s
later None t s b l = tt
later (Some n) t s b l = omega (arith, ints)

module _ (s c : Ends) (covers : (t : ℤ) → Has c t → Has s t) (is : IsSpan c) where
  -- a present start of the inner span is one of its instants, and the last before a present stop is
  start_has : (m : ℤ) → c.lo ≡ Some m → Has c m
  start_has m e = (
    subst (λ o. IsFrom o m) (sym e) (omega (arith, ints)),
    earlier c.hi is.instant.0 m is.instant.1.1 (subst (λ o. IsFrom o is.instant.0) e is.instant.1.0),
  )

  stop_has : (m : ℤ) → c.hi ≡ Some m → Has c (m -ℤ pos 1)
  stop_has m e = (
    later c.lo is.instant.0 (m -ℤ pos 1) is.instant.1.0 (last (subst (λ o. IsBefore o is.instant.0) e is.instant.1.1)),
    subst (λ o. IsBefore o (m -ℤ pos 1)) (sym e) (omega (arith, ints)),
  )
    where
      last : {t : ℤ} → t <ℤ m → t ≤ℤ (m -ℤ pos 1)
      last {t} l = omega (arith, ints)

  -- where the start is not strictly inside, the spans start together, and so with the stop
  pub same_start : (m : ℤ) → c.lo ≡ Some m → ¬ (IsInside s m) → s.lo ≡ c.lo
  same_start m e out = starts_at s m (covers m (start_has m e)) (λ h. out (covers m (start_has m e), h)) ∙ sym e

  pub same_stop : (m : ℤ) → c.hi ≡ Some m → ¬ (IsInside s m) → s.hi ≡ c.hi
  same_stop m e out = stops_at s m (covers (m -ℤ pos 1) (stop_has m e)) (λ h. out (h, covers (m -ℤ pos 1) (stop_has m e))) ∙ sym e

  -- a span around one with no start has none, and so with the stop
  pub no_start : c.lo ≡ None → s.lo ≡ c.lo
  no_start e = by s.lo refl
    where
      below : (l : ℤ) (b : Bool) → int_le (l -ℤ pos 1) is.instant.0 ≡ b → (x : ℤ) × (x <ℤ l) × (x ≤ℤ is.instant.0)
      below l true h = (l -ℤ pos 1, omega (arith, ints), omega (arith, ints))
      below l false h = (is.instant.0, omega (arith, ints), omega (arith, ints))

      by : (o : Option ℤ) → s.lo ≡ o → s.lo ≡ c.lo
      by None a = a ∙ sym e
      by (Some l) a =
          let x = below l (int_le (l -ℤ pos 1) is.instant.0) refl in
          let h = covers x.0 (subst (λ o. IsFrom o x.0) (sym e) tt, earlier c.hi is.instant.0 x.0 is.instant.1.1 x.2) in
          let from : l ≤ℤ x.0 = subst (λ o. IsFrom o x.0) a h.0 in
          absurd (omega (arith, ints))

  pub no_stop : c.hi ≡ None → s.hi ≡ c.hi
  no_stop e = by s.hi refl
    where
      above : (n : ℤ) (b : Bool) → int_le n is.instant.0 ≡ b → (x : ℤ) × (n ≤ℤ x) × (is.instant.0 ≤ℤ x)
      above n true h = (is.instant.0, omega (arith, ints), omega (arith, ints))
      above n false h = (n, omega (arith, ints), omega (arith, ints))

      by : (o : Option ℤ) → s.hi ≡ o → s.hi ≡ c.hi
      by None a = a ∙ sym e
      by (Some n) a =
          let x = above n (int_le n is.instant.0) refl in
          let h = covers x.0 (later c.lo is.instant.0 x.0 is.instant.1.0 x.2, subst (λ o. IsBefore o x.0) (sym e) tt) in
          let before : x.0 <ℤ n = subst (λ o. IsBefore o x.0) a h.1 in
          absurd (omega (arith, ints))
