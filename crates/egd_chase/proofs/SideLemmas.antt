-- What a cut of rows does to the cells that hold sides, and to all other rows.
use Rattle.std.proofs.Common.{◌≡◌, ℕ, zero, suc, ℤ, pos, ◌-ℤ◌, ◌<ℤ◌, Option, Some, None, List, [], ◌∷◌, length, refl, sym, ap, ◌∙◌, subst, inl, inr, arith, Contains, IsSomeAnd, slice_get}
use Rattle.std.proofs.lemmas.Int.{ints}
use Rattle.time_line.specs.Span.{Ends, Has, IsFrom, IsBefore, IsInside, IsSpan, IsWithinLimit}
use Rattle.std.specs.Option.{option_map}
use Rattle.term_core.specs.declared.const_id.ConstId.{ConstId}
use Rattle.term_core.specs.declared.term.Seen.{Seen}
use Rattle.rule_core.specs.Terms.{TermOf, FactOf, StampedOf}
use Rattle.rule_core.proofs.ListLemmas.{Contains-nil, Contains-cons_cases}
use Rattle.fact_table.specs.Rows.{SeenRow, row_at}
use Rattle.body_match.specs.Index.{IsNoMore}
use Rattle.null_store.specs.Store.{Store, fact_in}
use Rattle.null_store.specs.Changes.{ReplacesCells, row_instead}
use Rattle.null_store.specs.Splits.{part_before, part_after, row_over, fact_over, SplitsRow, SplitsRows}
use Rattle.egd_chase.specs.declared.sides.Side.{Side}
use Rattle.egd_chase.specs.Search.{ChangeOnly, HaveSpans}
use Rattle.egd_chase.specs.Sides.{HoldsSide}
use Rattle.egd_chase.proofs.ListLemmas.{in_list}
use Rattle.body_match.proofs.ListLemmas.{is_among}

-- what stands at a place of a list, and at the same place of another
pub placed : (xs : List ℕ) (x : ℕ) → Contains xs x → (k : ℕ) × (slice_get xs k ≡ Some x)
placed [] x c = absurd (Contains-nil x c)
placed (y ∷ xs) x c = elim (Contains-cons_cases y x xs c) [
  | inl e ↦ (0, ap Some e)
  | inr d ↦ let k = placed xs x d in (suc k.0, k.1)
]

pub beside : (xs ys : List ℕ) (k x : ℕ) → length ys ≡ length xs → slice_get xs k ≡ Some x → (y : ℕ) × (slice_get ys k ≡ Some y)
beside [] ys k x e g = absurd cc
beside (z ∷ xs) [] k x e g = absurd (omega (arith, e))
beside (z ∷ xs) (y ∷ ys) zero x e g = (y, refl)
beside (z ∷ xs) (y ∷ ys) (suc k) x e g = beside xs ys k x (omega (arith, e)) g

-- two rows under one number are one
pub one_row : (o : Option SeenRow) (a b : SeenRow) → o ≡ Some a → o ≡ Some b → a ≡ b
one_row o a b e f = let both : Some a ≡ Some b = sym e ∙ f in cc

-- rows keep their spans where values of their cells are replaced
pub spans_stay : (old new : List (Option SeenRow)) (piece : ℕ) (by : Seen) → ReplacesCells old new piece by → HaveSpans old → HaveSpans new
spans_stay old new piece by same spans n row e = from (row_at old n) refl (sym (same n) ∙ e)
  where
    from : (o : Option SeenRow) → row_at old n ≡ o → option_map (row_instead piece by) o ≡ Some row → IsSpan row.span
    from None at f = absurd cc
    from (Some before) at f =
        let is : row_instead piece by before ≡ row = cc in
        subst (λ (r : SeenRow). IsSpan r.span) is (spans n before at)

-- the parts of a span
module _ (m : ℤ) (s : Ends) (inside : IsInside s m) (limit : IsWithinLimit (Some m)) (is : IsSpan s) where
  before_is_span : IsSpan (part_before m s)
  before_is_span = record {
    instant = (m -ℤ pos 1, (inside.1.0, omega (arith, ints)));
    start = is.start;
    stop = limit;
  }

  after_is_span : IsSpan (part_after m s)
  after_is_span = record {
    instant = (m, (omega (arith, ints), inside.0.1));
    start = limit;
    stop = is.stop;
  }

earlier_end : (hi : Option ℤ) (m t : ℤ) → IsBefore hi m → t <ℤ m → IsBefore hi t
earlier_end None m t h l = tt
earlier_end (Some n) m t h l = omega (arith, ints)

module _ (m : ℤ) (numbers made : List ℕ) (old new : Store) (split : SplitsRows numbers m made old new)
    (around : (n : ℕ) → Contains numbers n → (row : SeenRow) × (row_at old.rows n ≡ Some row) × IsInside row.span m) where
  -- which row came where
  module _ (copy : ℕ) (c : Contains made copy) where
    pub record Came : Type 0 where
      pub place : ℕ
      pub number : ℕ
      pub row : SeenRow
      pub listed : slice_get numbers place ≡ Some number
      pub here : slice_get made place ≡ Some copy
      pub there : row_at old.rows number ≡ Some row
      pub inside : IsInside row.span m

    came : Came
    came =
        let k = placed made copy c in
        let n = beside made numbers k.0 copy (sym split.size) k.1 in
        let r = around n.0 (in_list numbers k.0 n.0 n.1) in
        record { place = k.0; number = n.0; row = r.0; listed = n.1; here = k.1; there = r.1; inside = r.2 }

    copy_row : SplitsRow m old new came.number copy came.row
    copy_row = split.each came.place came.number copy came.row came.listed came.here came.there

  -- no row that was there came by the cut
  pub not_made : (n : ℕ) (row : SeenRow) → row_at old.rows n ≡ Some row → ¬ (Contains made n)
  not_made n row e c = let no = sym e ∙ (copy_row n c).vacant in absurd cc

  -- a row that is cut
  module _ (n : ℕ) (c : Contains numbers n) where
    cut_place : (k : ℕ) × (slice_get numbers k ≡ Some n)
    cut_place = placed numbers n c

    cut_copy : (y : ℕ) × (slice_get made cut_place.0 ≡ Some y)
    cut_copy = beside numbers made cut_place.0 n split.size cut_place.1

    cut_row : SplitsRow m old new n cut_copy.0 (around n c).0
    cut_row = split.each cut_place.0 n cut_copy.0 (around n c).0 cut_place.1 cut_copy.1 (around n c).1

  module _ (term : TermOf ConstId) (c : Ends) (side : Side) (held : HoldsSide old term c side) where
    -- a side whose row is not cut
    pub side_elsewhere : ¬ (Contains numbers side.row) → HoldsSide new term c side
    side_elsewhere out = record {
      row = held.row;
      there = split.others side.row out (not_made side.row held.row held.there) ∙ held.there;
      term_is = subst (λ (f : StampedOf (FactOf ConstId)). slice_get f.row.terms side.column ≡ Some term)
          (sym (split.facts side.row held.row out held.there)) held.term_is;
      covers = held.covers;
    }

    -- a side whose row is cut where the span stops stands in the same cell
    pub side_before : Contains numbers side.row → c.hi ≡ Some m → HoldsSide new term c side
    side_before there stop =
        let same = one_row (row_at old.rows side.row) (around side.row there).0 held.row (around side.row there).1 held.there in
        let cut : SplitsRow m old new side.row (cut_copy side.row there).0 held.row =
        subst (SplitsRow m old new side.row (cut_copy side.row there).0) same (cut_row side.row there) in
        record {
          row = row_over (part_before m) held.row;
          there = cut.here;
          term_is = subst (λ (f : StampedOf (FactOf ConstId)). slice_get f.row.terms side.column ≡ Some term) (sym cut.fact) held.term_is;
          covers = λ t h. ((held.covers t h).0, subst (λ o. IsBefore o t) stop h.1);
        }

    -- a side whose row is cut where the span starts stands in the copy
    pub side_after : (k copy : ℕ) → slice_get numbers k ≡ Some side.row → slice_get made k ≡ Some copy → c.lo ≡ Some m
        → HoldsSide new term c (record { row = copy; column = side.column })
    side_after k copy listed here start =
        let cut = split.each k side.row copy held.row listed here held.there in
        let later = there_is (row_at new.rows copy) cut.there in
        record {
          row = later.0;
          there = later.1;
          term_is = subst (λ (f : StampedOf (FactOf ConstId)). slice_get f.row.terms side.column ≡ Some term) (sym later.2) held.term_is;
          covers = λ t h. subst (λ (f : StampedOf (FactOf ConstId)). Has f.span t) (sym later.2)
              (subst (λ o. IsFrom o t) start h.0, (held.covers t h).1);
        }
      where
        there_is : (o : Option SeenRow) → IsSomeAnd o (λ later. fact_in new later ≡ fact_over (part_after m) (fact_in old held.row))
            → (later : SeenRow) × (o ≡ Some later) × (fact_in new later ≡ fact_over (part_after m) (fact_in old held.row))
        there_is (Some later) e = (later, refl, e)
        there_is None e = absurd e

  module _ (limit : IsWithinLimit (Some m)) (spans : HaveSpans old.rows) where
    -- all rows but those that came are as they were but for times
    pub cut_changes : ChangeOnly made old.rows new.rows
    cut_changes n out = elim (is_among numbers n) [
      | inl c ↦ cut_one c
      | inr other ↦ subst (IsNoMore (row_at old.rows n)) (sym (split.others n other out)) (same_row (row_at old.rows n) refl)
    ]
      where
        same_row : (o : Option SeenRow) → row_at old.rows n ≡ o → IsNoMore o o
        same_row None e = tt
        same_row (Some row) e = (refl, refl, spans n row e, λ t h. h)

        cut_one : Contains numbers n → IsNoMore (row_at old.rows n) (row_at new.rows n)
        cut_one c =
            let row = (around n c).0 in
            let e = (around n c).1 in
            let inside = (around n c).2 in
            subst (λ o. IsNoMore o (row_at new.rows n)) (sym e)
            (subst (IsNoMore (Some row)) (sym (cut_row n c).here) (
              refl,
              refl,
              before_is_span m row.span inside limit (spans n row e),
              λ t h. (h.0, earlier_end row.span.hi m t inside.0.1 h.1),
            ))

    -- each row has a span
    pub cut_spans : HaveSpans new.rows
    cut_spans n row e = elim (is_among made n) [
      | inl c ↦ copied c
      | inr other ↦ kept other
    ]
      where
        copied : Contains made n → IsSpan row.span
        copied c =
            let k = came n c in
            let later = there_is (row_at new.rows n) (copy_row n c).there e in
            subst IsSpan (sym later) (after_is_span m k.row.span k.inside limit (spans k.number k.row k.there))
          where
            there_is : (o : Option SeenRow)
                → IsSomeAnd o (λ later. fact_in new later ≡ fact_over (part_after m) (fact_in old (came n c).row))
                → o ≡ Some row → row.span ≡ part_after m (came n c).row.span
            there_is (Some later) f g =
                let same : later ≡ row = cc in
                ap (λ (r : SeenRow). r.span) (sym same) ∙ ap (λ (s : StampedOf (FactOf ConstId)). s.span) f
            there_is None f g = absurd f

        kept : ¬ (Contains made n) → IsSpan row.span
        kept other = elim (is_among numbers n) [
          | inl c ↦
              let same : row_over (part_before m) (around n c).0 ≡ row = one_row (row_at new.rows n) (row_over (part_before m) (around n c).0) row (cut_row n c).here e in
              subst (λ (r : SeenRow). IsSpan r.span) same
              (before_is_span m (around n c).0.span (around n c).2 limit (spans n (around n c).0 (around n c).1))
          | inr out ↦ spans n row (sym (split.others n out other) ∙ e)
        ]
