-- Instants inside spans, and spans that no end cuts.
use Rattle.std.proofs.Common.{◌≡◌, ◌⊎◌, ◌↔◌, ℤ, pos, ◌≤ℤ◌, ◌<ℤ◌, ◌-ℤ◌, true, false, Option, Some, None, refl, sym, ap, ◌∙◌, subst, inl, inr, rules, arith}
use Rattle.std.specs.declared.cmp.Ordering.{Ordering}
use Rattle.std.specs.declared.cmp.Ordering.TheVariants.{Less, Equal, Greater}
use Rattle.std.proofs.lemmas.Int.{ints, by_lt_z}
use Rattle.std.proofs.lemmas.Cmp.{tied_itself}
use lib.Signed.{≤ℤ_refl}
use Rattle.time_line.specs.Span.{Ends, IsFrom, IsBefore, Has, AreApart, IsInside, span_cmp}
use Rattle.time_line.specs.SpanOrder.{span_cmp-total}
use Rattle.normaliser.specs.Normalised.{IsEndOf}
use Rattle.normaliser.specs.Cuts.{is_up_to_start, is_before_stop}

pub IsFrom-later : (lo : Option ℤ) (s t : ℤ) → s ≤ℤ t → IsFrom lo s → IsFrom lo t
IsFrom-later None s t h f = tt
IsFrom-later (Some lo) s t h f = omega (arith, ints)

pub IsBefore-earlier : (hi : Option ℤ) (s t : ℤ) → s ≤ℤ t → IsBefore hi t → IsBefore hi s
IsBefore-earlier None s t h f = tt
IsBefore-earlier (Some hi) s t h f = omega (arith, ints)

-- what is inside a span is so by two tests
pub start_test : (lo : Option ℤ) (m : ℤ) → (is_up_to_start lo m ≡ false) ↔ IsFrom lo (m -ℤ pos 1)
start_test None m = (λ _. tt, λ _. refl)
start_test (Some lo) m = (λ e. grind (arith, ints), λ h. grind (arith, ints))

pub stop_test : (hi : Option ℤ) (m : ℤ) → (is_before_stop hi m ≡ true) ↔ IsBefore hi m
stop_test None m = (λ _. tt, λ _. refl)
stop_test (Some hi) m = (λ e. grind (arith, ints), λ h. grind (arith, ints))

pub inside_tests : (s : Ends) (m : ℤ) → ((is_up_to_start s.lo m ≡ false) × (is_before_stop s.hi m ≡ true)) ↔ IsInside s m
inside_tests s m = (
  λ h.
      let from = (start_test s.lo m).0 h.0 in
      let before = (stop_test s.hi m).0 h.1 in (
        (IsFrom-later s.lo (m -ℤ pos 1) m (omega (arith, ints)) from, before),
        (from, IsBefore-earlier s.hi (m -ℤ pos 1) m (omega (arith, ints)) before),
      ),
  λ h. ((start_test s.lo m).1 h.1.0, (stop_test s.hi m).1 h.0.1),
)

-- both tests hold below each number for which they hold
pub up_to_below : (lo : Option ℤ) (a b : ℤ) → a <ℤ b → is_up_to_start lo b ≡ true → is_up_to_start lo a ≡ true
up_to_below None a b l e = e
up_to_below (Some lo) a b l e = grind (arith, ints)

pub before_below : (hi : Option ℤ) (a b : ℤ) → a <ℤ b → is_before_stop hi b ≡ true → is_before_stop hi a ≡ true
before_below None a b l e = e
before_below (Some hi) a b l e = grind (arith, ints)

-- what is inside a part is inside the whole
pub inside_whole : (part whole : Ends) → ((t : ℤ) → Has part t → Has whole t) → (m : ℤ) → IsInside part m → IsInside whole m
inside_whole part whole into m h = (into m h.0, into (m -ℤ pos 1) h.1)

-- an end in a span that starts before it is inside, and so is one behind an instant of a span that stops after it
start_inside : (s : Ends) (t m : ℤ) → Has s t → m ≤ℤ t → IsFrom s.lo (m -ℤ pos 1) → IsInside s m
start_inside s t m h early from = (
  (IsFrom-later s.lo (m -ℤ pos 1) m (omega (arith, ints)) from, IsBefore-earlier s.hi m t early h.1),
  (from, IsBefore-earlier s.hi (m -ℤ pos 1) t (omega (arith, ints)) h.1),
)

stop_inside : (s : Ends) (t m : ℤ) → Has s t → t <ℤ m → IsBefore s.hi m → IsInside s m
stop_inside s t m h late before = (
  (IsFrom-later s.lo t m (omega (arith, ints)) h.0, before),
  (IsFrom-later s.lo t (m -ℤ pos 1) (omega (arith, ints)) h.0, IsBefore-earlier s.hi (m -ℤ pos 1) m (omega (arith, ints)) before),
)

-- spans with an instant in common that have no end of the other inside are equal
module _ (a b : Ends) (t : ℤ) (in_a : Has a t) (in_b : Has b t) (a_uncut : (m : ℤ) → IsEndOf b m → ¬ (IsInside a m))
    (b_uncut : (m : ℤ) → IsEndOf a m → ¬ (IsInside b m)) where
  same_start : (x y : Option ℤ) → a.lo ≡ x → b.lo ≡ y → x ≡ y
  same_start None None p q = refl
  same_start None (Some y) p q =
      let early : y ≤ℤ t = rw q at in_b.0 in
      absurd (a_uncut y (inl q) (start_inside a t y in_a early (rw p tt)))
  same_start (Some x) None p q =
      let early : x ≤ℤ t = rw p at in_a.0 in
      absurd (b_uncut x (inl p) (start_inside b t x in_b early (rw q tt)))
  same_start (Some x) (Some y) p q =
      let early_x : x ≤ℤ t = rw p at in_a.0 in
      let early_y : y ≤ℤ t = rw q at in_b.0 in
      by_lt_z x y
      (λ l. let from : x ≤ℤ (y -ℤ pos 1) = omega (arith, ints, l) in absurd (a_uncut y (inl q) (start_inside a t y in_a early_y (rw p from))))
      (λ g. by_lt_z y x
      (λ l. let from : y ≤ℤ (x -ℤ pos 1) = omega (arith, ints, l) in absurd (b_uncut x (inl p) (start_inside b t x in_b early_x (rw q from))))
      (λ h. let same : x ≡ y = omega (arith, ints, g, h) in ap Some same))

  same_stop : (x y : Option ℤ) → a.hi ≡ x → b.hi ≡ y → x ≡ y
  same_stop None None p q = refl
  same_stop None (Some y) p q =
      let late : t <ℤ y = rw q at in_b.1 in
      absurd (a_uncut y (inr q) (stop_inside a t y in_a late (rw p tt)))
  same_stop (Some x) None p q =
      let late : t <ℤ x = rw p at in_a.1 in
      absurd (b_uncut x (inr p) (stop_inside b t x in_b late (rw q tt)))
  same_stop (Some x) (Some y) p q =
      let late_x : t <ℤ x = rw p at in_a.1 in
      let late_y : t <ℤ y = rw q at in_b.1 in
      by_lt_z x y
      (λ (l : x <ℤ y). absurd (b_uncut x (inr p) (stop_inside b t x in_b late_x (rw q l))))
      (λ g. by_lt_z y x
      (λ (l : y <ℤ x). absurd (a_uncut y (inr q) (stop_inside a t y in_a late_y (rw p l))))
      (λ h. let same : x ≡ y = omega (arith, ints, g, h) in ap Some same))

  pub same_span : a ≡ b
  same_span =
      let start = same_start a.lo b.lo refl refl in
      let stop = same_stop a.hi b.hi refl refl in
      λ i. record { lo = start i; hi = stop i }

-- spans that agree where they meet are equal or apart
pub equal_or_apart : (a b : Ends) → ((t : ℤ) → Has a t → Has b t → a ≡ b) → (a ≡ b) ⊎ AreApart a b
equal_or_apart a b agree = by_order (span_cmp a b) refl
  where
    apart : (o : Ordering) → span_cmp a b ≡ o → (o ≡ Equal → ⊥) → AreApart a b
    apart o e other t x y =
        let same = agree t x y in
        other (sym e ∙ subst (λ (s : Ends). span_cmp a s ≡ Equal) same (tied_itself span_cmp-total a))

    by_order : (o : Ordering) → span_cmp a b ≡ o → (a ≡ b) ⊎ AreApart a b
    by_order Less e = inr (apart Less e (λ h. cc))
    by_order Greater e = inr (apart Greater e (λ h. cc))
    by_order Equal e = inl (search rules)

-- an end isn't inside, and an end of a part is one of the whole or inside it
pub end_is_outside : (s : Ends) (m : ℤ) → IsEndOf s m → ¬ (IsInside s m)
end_is_outside s m (inl e) h = let from : m ≤ℤ (m -ℤ pos 1) = rw e at h.1.0 in omega (arith, ints, from)
end_is_outside s m (inr e) h = let before : m <ℤ m = rw e at h.0.1 in omega (arith, ints, before)

module _ (part whole : Ends) (t : ℤ) (at : Has part t) (into : (u : ℤ) → Has part u → Has whole u) (m : ℤ) where
  start_or_inside : part.lo ≡ Some m → (lo : Option ℤ) → whole.lo ≡ lo → IsEndOf whole m ⊎ IsInside whole m
  start_or_inside e lo f =
      let early : m ≤ℤ t = rw e at at.0 in
      let has : Has whole m = into m (rw e (≤ℤ_refl m), IsBefore-earlier part.hi m t early at.1) in
      by_start lo f has
    where
      by_start : (lo : Option ℤ) → whole.lo ≡ lo → Has whole m → IsEndOf whole m ⊎ IsInside whole m
      by_start None f has = inr (has, (rw f tt, IsBefore-earlier whole.hi (m -ℤ pos 1) m (omega (arith, ints)) has.1))
      by_start (Some lo) f has =
          let from : lo ≤ℤ m = rw f at has.0 in
          by_lt_z lo m
          (λ l. let h : lo ≤ℤ (m -ℤ pos 1) = omega (arith, ints, l) in
          inr (has, (rw f h, IsBefore-earlier whole.hi (m -ℤ pos 1) m (omega (arith, ints)) has.1)))
          (λ g. let same : lo ≡ m = omega (arith, ints, g, from) in inl (inl (f ∙ ap Some same)))

  stop_or_inside : part.hi ≡ Some m → (hi : Option ℤ) → whole.hi ≡ hi → IsEndOf whole m ⊎ IsInside whole m
  stop_or_inside e hi f =
      let late : t <ℤ m = rw e at at.1 in
      let last : (m -ℤ pos 1) <ℤ m = omega (arith, ints) in
      let has : Has whole (m -ℤ pos 1) = into (m -ℤ pos 1) (IsFrom-later part.lo t (m -ℤ pos 1) (omega (arith, ints, late)) at.0, rw e last) in
      by_stop hi f has
    where
      by_stop : (hi : Option ℤ) → whole.hi ≡ hi → Has whole (m -ℤ pos 1) → IsEndOf whole m ⊎ IsInside whole m
      by_stop None f has = inr ((IsFrom-later whole.lo (m -ℤ pos 1) m (omega (arith, ints)) has.0, rw f tt), has)
      by_stop (Some hi) f has =
          let before : (m -ℤ pos 1) <ℤ hi = rw f at has.1 in
          by_lt_z m hi
          (λ (l : m <ℤ hi). inr ((IsFrom-later whole.lo (m -ℤ pos 1) m (omega (arith, ints)) has.0, rw f l), has))
          (λ g. let same : hi ≡ m = omega (arith, ints, g, before) in inl (inr (f ∙ ap Some same)))

  pub end_or_inside : IsEndOf part m → IsEndOf whole m ⊎ IsInside whole m
  end_or_inside (inl e) = start_or_inside e whole.lo refl
  end_or_inside (inr e) = stop_or_inside e whole.hi refl
