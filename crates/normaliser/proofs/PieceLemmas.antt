-- A fact that is cut at one end after the other.
use Rattle.std.proofs.Common.{◌≡◌, ◌⊎◌, ◌↔◌, ℕ, ℤ, pos, ◌≤ℤ◌, ◌<ℤ◌, ◌-ℤ◌, ◌+◌, ◌<◌, ◌≤◌, Some, List, [], ◌∷◌, ◌++◌, length, get_or, refl, sym, ap, ◌∙◌, subst, inl, inr, ⊎_elim, arith, All, Contains, slice_get, slice_index}
use Rattle.std.specs.Prelude.{IsSomeAnd}
use Rattle.std.specs.List.{AllWithin}
use Rattle.std.proofs.lemmas.Int.{ints, by_lt_z}
use Rattle.std.proofs.lemmas.Bool.{cases_lt}
use Rattle.std.proofs.lemmas.List.{append_assoc, get_or_default}
use Rattle.std.proofs.lemmas.List.Elements.{All-nil, All-push, All-contains, Contains-append_left, Contains-append_right, Contains-push, Contains-append_cases}
use lib.Signed.{≤ℤ_refl}
use Rattle.time_line.specs.Span.{Ends, Has, HasInstant, IsInside, AreParts}
use Rattle.fact_table.specs.declared.fact.Fact.{Fact}
use Rattle.body_match.proofs.ListLemmas.{within_from_at}
use Rattle.body_match.proofs.SearchLemmas.{some_and, and_some, same_some}
use Rattle.normaliser.specs.Normalised.{IsEndOf, IsPieceOf}
use Rattle.normaliser.specs.Cuts.{AreInOrder}
use Rattle.normaliser.specs.Pieces.{AddsPieces, over, IsCutOff, IsNotCut}
use Rattle.normaliser.proofs.InsideLemmas.{inside_whole, end_is_outside, same_span}

-- two pieces of one fact with an instant in common are one
pub same_piece : (cuts : ℤ → Type 0) (fact a b : Fact) (t : ℤ) → IsPieceOf cuts fact a → IsPieceOf cuts fact b → Has a.span t → Has b.span t
    → a ≡ b
same_piece cuts fact a b t p q in_a in_b =
    let relation = p.relation ∙ sym q.relation in
    let row = p.row ∙ sym q.row in
    let span = same_span a.span b.span t in_a in_b (uncut a p b q) (uncut b q a p) in
    λ i. record { relation = relation i; row = row i; span = span i }
  where
    uncut : (x : Fact) → IsPieceOf cuts fact x → (y : Fact) → IsPieceOf cuts fact y → (m : ℤ) → IsEndOf y.span m → ¬ (IsInside x.span m)
    uncut x h y k m e i = ⊎_elim
        (λ (f : IsEndOf fact.span m). end_is_outside fact.span m f (inside_whole x.span fact.span h.part.within m i))
        (λ (f : cuts m). h.part.uncut m f i)
        (k.part.bounds m e)

-- the fact is cut at the first of the ends: pieces, and the rest of the span, hold together whenever the fact holds
pub record IsCutSoFar (inside : List ℤ) (fact : Fact) (index : ℕ) (rest : Ends) (more : List Fact) : Type 0 where
  pub each : All (IsPieceOf (Contains inside) fact) more
  pub instant : HasInstant rest
  pub within : (t : ℤ) → Has rest t → Has fact.span t
  pub bounds : (m : ℤ) → IsEndOf rest m → IsEndOf fact.span m ⊎ Contains inside m
  pub passed : AllWithin (λ m. ¬ (IsInside rest m)) inside 0 index
  pub whole : (t : ℤ) → Has fact.span t → ((piece : Fact) × Contains more piece × Has piece.span t) ⊎ Has rest t

pub cut_none : (inside : List ℤ) (fact : Fact) → HasInstant fact.span → IsCutSoFar inside fact 0 fact.span []
cut_none inside fact instant = record {
  each = All-nil (IsPieceOf (Contains inside) fact);
  instant = instant;
  within = λ t h. h;
  bounds = λ m e. inl e;
  passed = λ k d l g. absurd (omega (arith, l, g));
  whole = λ t h. inr h;
}

module _ (inside : List ℤ) (fact : Fact) (index : ℕ) (rest : Ends) (more : List Fact) (so_far : IsCutSoFar inside fact index rest more) where
  module _ (end : ℤ) (order : AreInOrder inside) (below : index < length inside) (here : end ≡ get_or inside index end) where
    at_index : (d : ℤ) → get_or inside index d ≡ end
    at_index d = get_or_default inside index d end below ∙ sym here

    -- nothing is cut off
    pub not_more : ¬ (IsInside rest end) → IsCutSoFar inside fact (index + 1) rest more
    not_more outside = record {
      each = so_far.each;
      instant = so_far.instant;
      within = so_far.within;
      bounds = so_far.bounds;
      passed = λ k d l g. ⊎_elim
          (λ (before : k < index). so_far.passed k d l before)
          (λ (after : index ≤ k).
          let same : index ≡ k = omega (arith, after, g) in
          subst (λ m. ¬ (IsInside rest m)) (sym (at_index d) ∙ ap (λ j. get_or inside j d) same) outside)
          (cases_lt k index);
      whole = so_far.whole;
    }

    below_end : (k : ℕ) (d : ℤ) → index ≤ k → k < length inside → end ≤ℤ get_or inside k d
    below_end k d after within = ⊎_elim
        (λ (before : index < k).
        let e = at_index d in
        let l : get_or inside index d <ℤ get_or inside k d = order index k d before within in
        omega (arith, ints, e, l))
        (λ (g : k ≤ index).
        let same : index ≡ k = omega (arith, after, g) in
        let e : get_or inside k d ≡ end = ap (λ j. get_or inside j d) (sym same) ∙ at_index d in
        omega (arith, ints, e))
        (cases_lt index k)

    -- the part before the end is cut off
    module _ (before after : Ends) (at : IsInside rest end) (parts : AreParts rest before after end) where
      in_front : (t : ℤ) → Has before t → Has rest t
      in_front t h = ((parts.first t).0 h).0

      in_back : (t : ℤ) → Has after t → Has rest t
      in_back t h = ((parts.second t).0 h).0

      there : Contains inside end
      there = (index, below, at_index end)

      this : (m : ℤ) → Some end ≡ Some m → Contains inside m
      this m e = let same : end ≡ m = cc in subst (Contains inside) same there

      part_off : IsPieceOf (Contains inside) fact (over fact before)
      part_off = record {
        relation = refl;
        row = refl;
        part = record {
          instant = (end -ℤ pos 1, (parts.first (end -ℤ pos 1)).1 (at.1, omega (arith, ints)));
          within = λ t h. so_far.within t (in_front t h);
          bounds = λ m e. ⊎_elim
              (λ x. so_far.bounds m (inl (sym (ap (λ (s : Ends). s.lo) parts.first_ends) ∙ x)))
              (λ x. inr (this m (sym (ap (λ (s : Ends). s.hi) parts.first_ends) ∙ x)))
              e;
          uncut = λ m c h. ⊎_elim
              (λ (passed : c.0 < index). so_far.passed c.0 m (omega arith) passed
              (subst (IsInside rest) (sym c.2) (inside_whole before rest in_front m h)))
              (λ (later : index ≤ c.0).
              let late = below_end c.0 m later c.1 in
              let early : m <ℤ end = ((parts.first m).0 h.0).1 in
              let same = c.2 in
              absurd (omega (arith, ints, late, early, same)))
              (cases_lt c.0 index);
        };
      }

      pub cut_more : IsCutSoFar inside fact (index + 1) after (more ++ over fact before ∷ [])
      cut_more = record {
        each = All-push (IsPieceOf (Contains inside) fact) more (over fact before) so_far.each part_off;
        instant = (end, (parts.second end).1 (at.0, ≤ℤ_refl end));
        within = λ t h. so_far.within t (in_back t h);
        bounds = λ m e. ⊎_elim
            (λ x. inr (this m (sym (ap (λ (s : Ends). s.lo) parts.second_ends) ∙ x)))
            (λ x. so_far.bounds m (inr (sym (ap (λ (s : Ends). s.hi) parts.second_ends) ∙ x)))
            e;
        passed = λ k d l g h. ⊎_elim
            (λ (passed : k < index). so_far.passed k d l passed (inside_whole after rest in_back (get_or inside k d) h))
            (λ (later : index ≤ k).
            let same : index ≡ k = omega (arith, later, g) in
            let e : get_or inside k d ≡ end = ap (λ j. get_or inside j d) (sym same) ∙ at_index d in
            let from : end ≤ℤ (get_or inside k d -ℤ pos 1) = ((parts.second (get_or inside k d -ℤ pos 1)).0 h.1).1 in
            absurd (omega (arith, ints, e, from)))
            (cases_lt k index);
        whole = λ t h. ⊎_elim
            (λ (x : (p : Fact) × Contains more p × Has p.span t). inl (x.0, Contains-append_left more (over fact before ∷ []) x.0 x.1, x.2))
            (λ x. by_lt_z t end
            (λ l. inl (over fact before, Contains-push more (over fact before), (parts.first t).1 (x, l)))
            (λ g. inr ((parts.second t).1 (x, g))))
            (so_far.whole t h);
      }

  -- behind the last end the rest of the span is a piece, and there is no further one
  module _ (cuts : ℤ → Type 0) (all : index ≡ length inside)
      (each : (m : ℤ) → Contains inside m ↔ (cuts m × IsInside fact.span m)) where
    widen : (piece : Fact) → IsPieceOf (Contains inside) fact piece → IsPieceOf cuts fact piece
    widen piece h = record {
      relation = h.relation;
      row = h.row;
      part = record {
        instant = h.part.instant;
        within = h.part.within;
        bounds = λ m e. ⊎_elim (λ x. inl x) (λ x. inr ((each m).0 x).0) (h.part.bounds m e);
        uncut = λ m c i. h.part.uncut m ((each m).1 (c, inside_whole piece.span fact.span h.part.within m i)) i;
      };
    }

    last : IsPieceOf (Contains inside) fact (over fact rest)
    last = record {
      relation = refl;
      row = refl;
      part = record {
        instant = so_far.instant;
        within = so_far.within;
        bounds = so_far.bounds;
        uncut = λ m c i. so_far.passed c.0 m (omega arith) (let l = c.1 in omega (arith, l, all)) (subst (IsInside rest) (sym c.2) i);
      };
    }

    abbrev pieces : List Fact
    pieces = more ++ over fact rest ∷ []

    are_pieces : (piece : Fact) → Contains pieces piece → IsPieceOf cuts fact piece
    are_pieces piece c = widen piece
        (All-contains (IsPieceOf (Contains inside) fact) pieces piece (All-push (IsPieceOf (Contains inside) fact) more (over fact rest) so_far.each last) c)

    at_instant : (t : ℤ) → Has fact.span t → (piece : Fact) × Contains pieces piece × Has piece.span t
    at_instant t h = ⊎_elim
        (λ (x : (p : Fact) × Contains more p × Has p.span t). (x.0, Contains-append_left more (over fact rest ∷ []) x.0 x.1, x.2))
        (λ x. (over fact rest, Contains-push more (over fact rest), x))
        (so_far.whole t h)

    pub all_pieces : (piece : Fact) → Contains pieces piece ↔ IsPieceOf cuts fact piece
    all_pieces piece = (
      are_pieces piece,
      λ h.
          let t = h.part.instant.0 in
          let other = at_instant t (h.part.within t h.part.instant.1) in
          subst (Contains pieces) (same_piece cuts fact other.0 piece t (are_pieces other.0 other.1) h other.2 h.part.instant.1) other.1,
    )

    pub adds_pieces : (old new : List Fact) → new ≡ old ++ pieces → AddsPieces cuts fact old new
    adds_pieces old new e piece = (
      λ c. ⊎_elim (λ x. inl x) (λ x. inr ((all_pieces piece).0 x)) (Contains-append_cases old pieces piece (subst (λ l. Contains l piece) e c)),
      λ h. subst (λ l. Contains l piece) (sym e)
          (⊎_elim (λ x. Contains-append_left old pieces piece x) (λ x. Contains-append_right old pieces piece ((all_pieces piece).1 x)) h),
    )

-- one end more, by what is cut off there
pub step : (inside : List ℤ) (fact : Fact) (index : ℕ) (rest after : Ends) (end : ℤ) (old now new : List Fact) → AreInOrder inside
    → index < length inside → end ≡ get_or inside index end
    → (more : List Fact) × (now ≡ old ++ more) × IsCutSoFar inside fact index rest more
    → IsCutOff fact end rest after now new ⊎ IsNotCut end rest after now new
    → (more : List Fact) × (new ≡ old ++ more) × IsCutSoFar inside fact (index + 1) after more
step inside fact index rest after end old now new order below here h (inl off) = (
  h.0 ++ over fact off.before ∷ [],
  off.adds ∙ ap (λ l. l ++ over fact off.before ∷ []) h.1 ∙ append_assoc old h.0 (over fact off.before ∷ []),
  cut_more inside fact index rest h.0 h.2 end order below here off.before after off.inside off.parts,
)
step inside fact index rest after end old now new order below here h (inr still) = (
  h.0,
  still.still ∙ h.1,
  subst (λ s. IsCutSoFar inside fact (index + 1) s h.0) (sym still.same)
      (not_more inside fact index rest h.0 h.2 end order below here still.outside),
)

-- the pieces of one fact more, and of all
module _ (facts : List Fact) (places : List ℕ) (cuts : ℕ → ℤ → Type 0) where
  abbrev IsPieceAt : ℕ → Fact → Type 0
  IsPieceAt n piece = IsSomeAnd (slice_get facts n) (λ fact. IsPieceOf (cuts (slice_index places n)) fact piece)

  pub pieces_more : (index : ℕ) (fact : Fact) → slice_get facts index ≡ Some fact → (old new : List Fact)
      → ((piece : Fact) → Contains old piece ↔ ((n : ℕ) × (n < index) × IsPieceAt n piece))
      → AddsPieces (cuts (slice_index places index)) fact old new
      → (piece : Fact) → Contains new piece ↔ ((n : ℕ) × (n < index + 1) × IsPieceAt n piece)
  pieces_more index fact at old new each adds piece = (
    λ c. ⊎_elim
        (λ (d : Contains old piece). let h = (each piece).0 d in (h.0, omega (arith, h.1), h.2))
        (λ h. (index, omega arith, and_some (λ (f : Fact). IsPieceOf (cuts (slice_index places index)) f piece) (slice_get facts index) fact at h))
        ((adds piece).0 c),
    λ h. ⊎_elim
        (λ (before : h.0 < index). (adds piece).1 (inl ((each piece).1 (h.0, before, h.2))))
        (λ (after : index ≤ h.0).
        let same : h.0 ≡ index = omega (arith, after, h.1) in
        let s = some_and (λ (f : Fact). IsPieceOf (cuts (slice_index places index)) f piece) (slice_get facts index)
        (subst (λ n. IsPieceAt n piece) same h.2) in
        (adds piece).1 (inr (subst (λ (f : Fact). IsPieceOf (cuts (slice_index places index)) f piece)
        (same_some (slice_get facts index) s.0 fact s.1 at) s.2)))
        (cases_lt h.0 index),
  )

  pub pieces_all : (count : ℕ) → length facts ≤ count → (pieces : List Fact)
      → ((piece : Fact) → Contains pieces piece ↔ ((n : ℕ) × (n < count) × IsPieceAt n piece))
      → (piece : Fact) → Contains pieces piece ↔ ((n : ℕ) × IsPieceAt n piece)
  pieces_all count all pieces each piece = (
    λ c. let h = (each piece).0 c in (h.0, h.2),
    λ h.
        let s = some_and (λ (f : Fact). IsPieceOf (cuts (slice_index places h.0)) f piece) (slice_get facts h.0) h.1 in
        let l = within_from_at facts h.0 s.0 s.1 in
        (each piece).1 (h.0, omega (arith, l, all), h.1),
  )
