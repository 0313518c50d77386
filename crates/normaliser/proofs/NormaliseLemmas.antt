-- The pieces by the cuts of groups are those of the normalised table.
use Rattle.std.proofs.Common.{◌≡◌, ◌↔◌, ℕ, ℤ, ◌<◌, Some, List, length, refl, sym, ◌∙◌, subst, inl, inr, ⊎_elim, arith, Contains, slice_get, slice_index}
use Rattle.time_line.specs.Span.{IsInside}
use Rattle.rule_core.specs.Mapping.{RuleSet}
use Rattle.fact_table.specs.declared.fact.Fact.{Fact}
use Rattle.fact_table.specs.Facts.{IsTable}
use Rattle.body_match.proofs.ListLemmas.{within_from_at}
use Rattle.body_match.proofs.SearchLemmas.{some_and, and_some, same_some}
use Rattle.normaliser.specs.declared.cuts.Cut.{Cut}
use Rattle.normaliser.specs.Normalised.{AreOfOneGroup, AreLeastPlaces, IsEndOf, IsEndInGroup, IsPieceOf, IsNormalised}
use Rattle.normaliser.specs.Normalised.Reaches.{here}
use Rattle.normaliser.specs.Cuts.{cut, IsShared, IsCutAt, AreCuts}
use Rattle.normaliser.specs.Pieces.{ArePieces}
use Rattle.normaliser.proofs.LabelLemmas.{same_or_not, reaches_on, reaches_back}
use Rattle.normaliser.proofs.InsideLemmas.{inside_whole, end_is_outside, end_or_inside}

-- cuts that are the same inside a fact's span give it the same pieces
pieces_alike : (few many : ℤ → Type 0) (fact piece : Fact) → ((m : ℤ) → few m → many m)
    → ((m : ℤ) → many m → IsInside fact.span m → few m) → IsPieceOf few fact piece ↔ IsPieceOf many fact piece
pieces_alike few many fact piece into back = (
  λ h. record {
    relation = h.relation;
    row = h.row;
    part = record {
      instant = h.part.instant;
      within = h.part.within;
      bounds = λ m e. ⊎_elim (λ x. inl x) (λ x. inr (into m x)) (h.part.bounds m e);
      uncut = λ m c i. h.part.uncut m (back m c (inside_whole piece.span fact.span h.part.within m i)) i;
    };
  },
  λ h. record {
    relation = h.relation;
    row = h.row;
    part = record {
      instant = h.part.instant;
      within = h.part.within;
      bounds = λ m e. ⊎_elim
          (λ x. inl x)
          (λ (x : many m). ⊎_elim (λ y. inl y) (λ (y : IsInside fact.span m). inr (back m x y))
          (end_or_inside piece.span fact.span h.part.instant.0 h.part.instant.1 h.part.within m e))
          (h.part.bounds m e);
      uncut = λ m c i. h.part.uncut m (into m c) i;
    };
  },
)

module _ (rules : RuleSet) (table : List Fact) (places : List ℕ) (cuts : List Cut) (least : AreLeastPlaces rules table places)
    (are : AreCuts table places cuts) where
  back : {a b : ℕ} → AreOfOneGroup rules table a b → AreOfOneGroup rules table b a
  back h = reaches_back (λ a b j. record { tgd = j.tgd; numbers = j.numbers; rule = j.rule; fits = j.fits; meet = j.meet; uses = (j.uses.1, j.uses.0) }) h

  -- one group has one least place
  same_least : (a b : ℕ) → a < length table → b < length table → AreOfOneGroup rules table a b → slice_index places a ≡ slice_index places b
  same_least a b in_a in_b h =
      let down = least.least a (slice_index places b) in_a (reaches_on h (least.member b in_b)) in
      let up = least.least b (slice_index places a) in_b (reaches_on (back h) (least.member a in_a)) in
      omega (arith, down, up)

  module _ (n : ℕ) (fact : Fact) (at : slice_get table n ≡ Some fact) where
    within : n < length table
    within = within_from_at table n fact at

    into : (m : ℤ) → IsCutAt cuts (slice_index places n) m → IsEndInGroup rules table n m
    into m c =
        let h = ((are.each (cut (slice_index places n) m)).0 c).1 in
        let s = some_and (λ (f : Fact). IsEndOf f.span m) (slice_get table h.0) h.2 in
        let other = within_from_at table h.0 s.0 s.1 in
        let to_least = subst (AreOfOneGroup rules table h.0) h.1 (least.member h.0 other) in
        (h.0, reaches_on (least.member n within) (back to_least), h.2)

    shared : (other : ℕ) → other < length table → slice_index places n ≡ slice_index places other → (n ≡ other → ⊥) → IsShared places (slice_index places n)
    shared other inside same differs = ⊎_elim
        (λ (e : n ≡ slice_index places n).
        (other, (let size = least.size in omega (arith, inside, size)), sym same, λ (f : other ≡ slice_index places n). differs (e ∙ sym f)))
        (λ (d : n ≡ slice_index places n → ⊥). (n, (let size = least.size in let l = within in omega (arith, l, size)), refl, d))
        (same_or_not n (slice_index places n))

    from : (m : ℤ) → IsEndInGroup rules table n m → IsInside fact.span m → IsCutAt cuts (slice_index places n) m
    from m h i =
        let s = some_and (λ (f : Fact). IsEndOf f.span m) (slice_get table h.0) h.2 in
        let other = within_from_at table h.0 s.0 s.1 in
        let same = same_least n h.0 within other h.1 in
        ⊎_elim
        (λ (e : n ≡ h.0).
        let one = same_some (slice_get table h.0) s.0 fact s.1 (subst (λ k. slice_get table k ≡ Some fact) e at) in
        absurd (end_is_outside fact.span m (subst (λ (f : Fact). IsEndOf f.span m) one s.2) i))
        (λ (d : n ≡ h.0 → ⊥). (are.each (cut (slice_index places n) m)).1 (shared h.0 other same d, (h.0, sym same, h.2)))
        (same_or_not n h.0)

    alike : (piece : Fact) → IsPieceOf (IsCutAt cuts (slice_index places n)) fact piece ↔ IsPieceOf (IsEndInGroup rules table n) fact piece
    alike piece = pieces_alike (IsCutAt cuts (slice_index places n)) (IsEndInGroup rules table n) fact piece into from

  pub are_normalised : (pieces made : List Fact) → ArePieces table places cuts pieces → ((f : Fact) → Contains made f ↔ Contains pieces f) → IsTable made
      → IsNormalised rules table made
  are_normalised pieces made each same order = record {
    exact = λ piece. (
      λ c.
          let h = (each piece).0 ((same piece).0 c) in
          let s = some_and (λ (f : Fact). IsPieceOf (IsCutAt cuts (slice_index places h.0)) f piece) (slice_get table h.0) h.1 in
          (h.0, and_some (λ (f : Fact). IsPieceOf (IsEndInGroup rules table h.0) f piece) (slice_get table h.0) s.0 s.1 ((alike h.0 s.0 s.1 piece).0 s.2)),
      λ h.
          let s = some_and (λ (f : Fact). IsPieceOf (IsEndInGroup rules table h.0) f piece) (slice_get table h.0) h.1 in
          (same piece).1 ((each piece).1 (
            h.0,
            and_some (λ (f : Fact). IsPieceOf (IsCutAt cuts (slice_index places h.0)) f piece) (slice_get table h.0) s.0 s.1 ((alike h.0 s.0 s.1 piece).1 s.2),
          )),
    );
    order = order;
  }

-- the least place of a group is there
pub least_within : (rules : RuleSet) (table : List Fact) (places : List ℕ) → AreLeastPlaces rules table places → (n : ℕ) → n < length places
    → slice_index places n < length places
least_within rules table places least n l =
    let size = least.size in
    let below = least.least n n (omega (arith, l, size)) here in
    omega (arith, below, l)
