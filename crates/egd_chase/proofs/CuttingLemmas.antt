-- A cut of the row of a side where the span of a step starts or stops.
use Rattle.std.specs.declared.result.Result.{Result}
use Rattle.std.specs.declared.result.Result.TheVariants.{Ok, Err}
use Rattle.std.specs.Result.{OnOk}
use Rattle.std.proofs.Common.{◌≡◌, ◌⊎◌, ℕ, ℤ, pos, ◌-ℤ◌, ◌<ℤ◌, ◌≤ℤ◌, Option, Some, None, List, [], ◌∷◌, ◌++◌, map, length, refl, sym, ap, ◌∙◌, subst, inl, inr, arith, Contains, IsSome, IsSomeAnd, slice_get}
use Rattle.std.proofs.lemmas.Int.{ints}
use Rattle.std.proofs.lemmas.List.Elements.{Contains-append_left, Contains-append_right, Contains-append_cases}
use Rattle.time_line.specs.Span.{Ends, Has, IsFrom, IsBefore, IsInside, IsWithinLimit}
use Rattle.term_core.specs.declared.const_id.ConstId.{ConstId}
use Rattle.rule_core.specs.Terms.{TermOf, constant, unknown, numbered, FactOf, StampedOf}
use Rattle.std.proofs.lemmas.Option.{slice_get-map}
use Rattle.std.specs.Option.{option_and_then, option_map, option_map_or}
use Rattle.term_core.specs.declared.term.Seen.{Seen}
use Rattle.term_core.specs.declared.term.Seen.TheVariants.{Const, Piece}
use Rattle.rule_core.specs.Values.{unknown_value}
use Rattle.fact_table.specs.Rows.{SeenRow, row_at, cell_at}
use Rattle.failure_trace.specs.declared.journal.CutNote.{CutNote}
use Rattle.failure_trace.specs.JournalRun.{HoldsTerm, Cuts, CutInTurn}
use Rattle.null_store.specs.Store.{Store, PieceOf, IsStore, piece_at, term_in, fact_in, facts_in}
use Rattle.null_store.specs.Splits.{row_over, part_before, part_after, SplitsRow, fact_over}
use Rattle.target_cut.specs.declared.cutting.Cut.{Cut}
use Rattle.target_cut.specs.Cuts.{CutsComponent, IsSideOf}
use Rattle.target_cut.proofs.ComponentLemmas.{over_span, begins, closed}
use Rattle.egd_chase.specs.declared.sides.Side.{Side}
use Rattle.egd_chase.specs.declared.cutting.Cutting.{Cutting}
use Rattle.egd_chase.specs.Search.{ChangeOnly, HaveSpans}
use Rattle.egd_chase.specs.Shared.{KeepsShared}
use Rattle.egd_chase.specs.Sides.{HoldsSide, IsFitted, IsUnknownTerm}
use Rattle.egd_chase.specs.Cutting.{IsCutTo, StartsWith, KeepsFit}
use Rattle.egd_chase.proofs.ListLemmas.{in_list}
use Rattle.body_match.proofs.ListLemmas.{is_among}
use Rattle.egd_chase.proofs.WaitLemmas.{change_twice}
use Rattle.egd_chase.proofs.TurnLemmas.{cut_more}
use Rattle.egd_chase.proofs.SharedLemmas.{cut_keeps, more_keep}
use Rattle.egd_chase.proofs.SideLemmas.{placed, beside, one_row, side_elsewhere, side_before, side_after, cut_changes, cut_spans, not_made}

-- an end of a span is not strictly inside it
not_around : (c : Ends) (m : ℤ) → (c.lo ≡ Some m) ⊎ (c.hi ≡ Some m) → ¬ (IsInside c m)
not_around c m (inl e) h = let from : m ≤ℤ (m -ℤ pos 1) = subst (λ o. IsFrom o (m -ℤ pos 1)) e h.1.0 in omega (arith, ints)
not_around c m (inr e) h = let before : m <ℤ m = subst (λ o. IsBefore o m) e h.0.1 in omega (arith, ints)

-- what follows of a result from what it was seen to give
pub on_ok : {T E A B C D P : Type 0} (r : Result T E) → OnOk r A → OnOk r B → OnOk r C → OnOk r D → (A → B → C → D → P) → OnOk r P
on_ok (Ok x) a b c d f = f a b c d
on_ok (Err e) a b c d f = tt

pub on_one : {T E A P : Type 0} (r : Result T E) → OnOk r A → (A → P) → OnOk r P
on_one (Ok x) a f = f a
on_one (Err e) a f = tt

-- the row that is there
pub some_there : (o : Option SeenRow) → IsSome o → (row : SeenRow) × (o ≡ Some row)
some_there (Some row) s = (row, refl)
some_there None s = absurd cc

-- what is so of the row that is there
pub some_is : (P : SeenRow → Type 0) (o : Option SeenRow) → IsSomeAnd o P → (row : SeenRow) × (o ≡ Some row) × P row
some_is P (Some row) p = (row, refl, p)
some_is P None p = absurd p

pub is_there : (P : SeenRow → Type 0) (o : Option SeenRow) (row : SeenRow) → o ≡ Some row → P row → IsSomeAnd o P
is_there P o row e p = subst (λ x. IsSomeAnd x P) (sym e) p

-- the term of the cell of a side
cell_term : (store : Store) (term : TermOf ConstId) (c : Ends) (side : Side) → HoldsSide store term c side → (value : Seen)
    → cell_at store.rows side.row side.column ≡ Some value → term_in store value ≡ term
cell_term store term c side held value e =
    let cells = held.row.cells in
    let at : slice_get cells side.column ≡ Some value =
    sym (ap (option_and_then (λ (r : SeenRow). slice_get r.cells side.column)) held.there) ∙ e in
    let t : slice_get (map (term_in store) cells) side.column ≡ Some (term_in store value) =
    slice_get-map (term_in store) cells side.column ∙ ap (option_map (term_in store)) at in
    let both : Some (term_in store value) ≡ Some term = sym t ∙ held.term_is in cc

pub piece_is_unknown : (store : Store) (term : TermOf ConstId) (c : Ends) (side : Side) → HoldsSide store term c side → (p : ℕ)
    → cell_at store.rows side.row side.column ≡ Some (Piece p) → IsUnknownTerm term
piece_is_unknown store term c side held p e =
    subst IsUnknownTerm (cell_term store term c side held (Piece p) e) (by (piece_at store p))
  where
    by : (o : Option PieceOf) → IsUnknownTerm (option_map_or (λ q. unknown (unknown_value q.unknown)) o (unknown (numbered p)))
    by None = tt
    by (Some q) = tt

pub constant_is_known : (store : Store) (term : TermOf ConstId) (c : Ends) (side : Side) → HoldsSide store term c side → (k : ConstId)
    → cell_at store.rows side.row side.column ≡ Some (Const k) → ¬ (IsUnknownTerm term)
constant_is_known store term c side held k e is_unknown =
    subst IsUnknownTerm (sym (cell_term store term c side held (Const k) e)) is_unknown

-- what is so before any cut, or where none is needed
module _ (own other : TermOf ConstId) (c : Ends) (first old : Store) (work : Cutting) (was : IsCutTo own other c first old work) where
  pub starts_there : was.own_held.row.span.lo ≡ c.lo → StartsWith old c work.own
  starts_there e = is_there (λ (r : SeenRow). r.span.lo ≡ c.lo) (row_at old.rows work.own.row) was.own_held.row was.own_held.there e

  pub fitted_there : StartsWith old c work.own → was.own_held.row.span.hi ≡ c.hi → IsFitted old own c work.own
  fitted_there begun e is_unknown =
      let b = some_is (λ (r : SeenRow). r.span.lo ≡ c.lo) (row_at old.rows work.own.row) begun in
      let lo : was.own_held.row.span.lo ≡ c.lo =
      ap (λ (r : SeenRow). r.span.lo) (sym (one_row (row_at old.rows work.own.row) b.0 was.own_held.row b.1 was.own_held.there)) ∙ b.2 in
      is_there (λ (r : SeenRow). r.span ≡ c) (row_at old.rows work.own.row) was.own_held.row was.own_held.there
      (λ i. record { lo = lo i; hi = e i })

  -- where the row is not cut at an end, since that is not strictly inside
  pub not_inside : (m : ℤ) → ¬ (IsSomeAnd (row_at old.rows work.own.row) (λ r. IsInside r.span m)) → ¬ (IsInside was.own_held.row.span m)
  not_inside m out h = out (is_there (λ (r : SeenRow). IsInside r.span m) (row_at old.rows work.own.row) was.own_held.row was.own_held.there h)

module _ (own other : TermOf ConstId) (c : Ends) (first old new : Store) (ok : IsStore old) (work : Cutting)
    (was : IsCutTo own other c first old work) (m : ℤ) (inside : IsInside was.own_held.row.span m) (limit : IsWithinLimit (Some m))
    (cut : Cut) (is : CutsComponent work.own.row m cut old new) where
  around : (n : ℕ) → Contains cut.rows n → (row : SeenRow) × (row_at old.rows n ≡ Some row) × IsInside row.span m
  around n there =
      let o = over_span old ok work.own.row was.own_held.row was.own_held.there cut.rows is.component n there in
      (o.row, o.there, subst (λ s. IsInside s m) (sym o.over) inside)

  own_there : Contains cut.rows work.own.row
  own_there = begins old ok work.own.row was.own_held.row was.own_held.there cut.rows is.component

  -- the other side's row is not cut where it is over exactly the span
  other_out : (c.lo ≡ Some m) ⊎ (c.hi ≡ Some m) → IsFitted old other c work.other → IsUnknownTerm other → ¬ (Contains cut.rows work.other.row)
  other_out end fitted is_unknown there =
      let r = some_is (λ (row : SeenRow). row.span ≡ c) (row_at old.rows work.other.row) (fitted is_unknown) in
      let a = around work.other.row there in
      let same = one_row (row_at old.rows work.other.row) a.0 r.0 a.1 r.1 in
      not_around c m end (subst (λ s. IsInside s m) r.2 (subst (λ (row : SeenRow). IsInside row.span m) same a.2))

  -- a row that is not cut is over the span still
  keeps_fit : (c.lo ≡ Some m) ⊎ (c.hi ≡ Some m) → (later : Side)
      → (¬ (Contains cut.rows work.other.row) → later.row ≡ work.other.row) → KeepsFit other c old work.other new later
  keeps_fit end later stays fitted is_unknown =
      let out = other_out end fitted is_unknown in
      let r = some_is (λ (row : SeenRow). row.span ≡ c) (row_at old.rows work.other.row) (fitted is_unknown) in
      let kept = is.rows.others work.other.row out (not_made m cut.rows cut.made old new is.rows around work.other.row r.0 r.1) ∙ r.1 in
      is_there (λ (row : SeenRow). row.span ≡ c) (row_at new.rows later.row) r.0
      (subst (λ n. row_at new.rows n ≡ Some r.0) (sym (stays out)) kept) r.2

  -- the side, in the words of the cut
  pub is_side : IsUnknownTerm own → (c.lo ≡ Some m) ⊎ (c.hi ≡ Some m) → IsSideOf old work.own.row own c m
  is_side is_unknown end = record {
    holds = is_there (λ r. HoldsTerm (fact_in old r) own) (row_at old.rows work.own.row) was.own_held.row was.own_held.there
        (of_term own is_unknown (in_list (fact_in old was.own_held.row).row.terms work.own.column own was.own_held.term_is));
    covers = is_there (λ r. (t : ℤ) → Has c t → Has r.span t) (row_at old.rows work.own.row) was.own_held.row was.own_held.there
        was.own_held.covers;
    end = end;
  }
    where
      of_term : (term : TermOf ConstId) → IsUnknownTerm term → Contains (fact_in old was.own_held.row).row.terms term
          → HoldsTerm (fact_in old was.own_held.row) term
      of_term (constant k) u c = absurd u
      of_term (unknown u) k c = (u, refl, c)

  -- all but the sides
  more_cuts : (notes : List CutNote) → notes ≡ work.notes ++ (record { at = m; rows = length cut.rows }) ∷ []
      → Cuts (facts_in old) own c (record { at = m; rows = length cut.rows }) (facts_in new)
      → CutInTurn (facts_in first) own other c notes (facts_in new)
  more_cuts notes e cuts = subst (λ n. CutInTurn (facts_in first) own other c n (facts_in new)) (sym e)
      (cut_more (facts_in first) own other c work.notes (facts_in old) (facts_in new) (record { at = m; rows = length cut.rows }) was.cuts cuts)

  more_changes : (made : List ℕ) → made ≡ work.made.items ++ cut.made → ChangeOnly made first.rows new.rows
  more_changes made e number out = change_twice work.made.items cut.made first.rows old.rows new.rows was.only
      (cut_changes m cut.rows cut.made old new is.rows around limit was.spans) number
      (λ there. out (subst (λ list. Contains list number) (sym e) (either number there)))
    where
      either : (number : ℕ) → Contains (cut.made ++ work.made.items) number → Contains (work.made.items ++ cut.made) number
      either number there = elim (Contains-append_cases cut.made work.made.items number there) [
        | inl k ↦ Contains-append_right work.made.items cut.made number k
        | inr k ↦ Contains-append_left work.made.items cut.made number k
      ]

  more_shared : (made : List ℕ) → made ≡ work.made.items ++ cut.made → KeepsShared made first.rows new.rows
  more_shared made e = subst (λ list. KeepsShared list first.rows new.rows) (sym e)
      (more_keep work.made.items cut.made first.rows old.rows new.rows was.shared
      (cut_keeps m cut.rows cut.made old new is.rows around
      (closed old ok work.own.row was.own_held.row was.own_held.there cut.rows is.component))
      (cut_changes m cut.rows cut.made old new is.rows around limit was.spans))

  more_spans : HaveSpans new.rows
  more_spans = cut_spans m cut.rows cut.made old new is.rows around limit was.spans

  -- where the cut is made at the start of the span, the sides go on in the copies
  module _ (start : c.lo ≡ Some m) (later : Cutting)
      (own_column : later.own.column ≡ work.own.column)
      (own_copy : (k : ℕ) → slice_get cut.rows k ≡ Some work.own.row → slice_get cut.made k ≡ Some later.own.row)
      (other_column : later.other.column ≡ work.other.column)
      (other_copy : (k : ℕ) → slice_get cut.rows k ≡ Some work.other.row → slice_get cut.made k ≡ Some later.other.row)
      (other_stays : ¬ (Contains cut.rows work.other.row) → later.other.row ≡ work.other.row)
      (notes : later.notes ≡ work.notes ++ (record { at = m; rows = length cut.rows }) ∷ [])
      (made : later.made.items ≡ work.made.items ++ cut.made)
      (cuts : Cuts (facts_in old) own c (record { at = m; rows = length cut.rows }) (facts_in new)) where
    own_place : (k : ℕ) × (slice_get cut.rows k ≡ Some work.own.row)
    own_place = placed cut.rows work.own.row own_there

    side_is : (side from : Side) → side.column ≡ from.column → side ≡ record { row = side.row; column = from.column }
    side_is side from e = λ i. record { row = side.row; column = e i }

    own_after : HoldsSide new own c later.own
    own_after = subst (HoldsSide new own c) (sym (side_is later.own work.own own_column))
        (side_after m cut.rows cut.made old new is.rows around own c work.own was.own_held own_place.0 later.own.row own_place.1
        (own_copy own_place.0 own_place.1) start)

    other_after : HoldsSide new other c later.other
    other_after = elim (is_among cut.rows work.other.row) [
      | inl there ↦
          let k = placed cut.rows work.other.row there in
          subst (HoldsSide new other c) (sym (side_is later.other work.other other_column))
          (side_after m cut.rows cut.made old new is.rows around other c work.other was.other_held k.0 later.other.row k.1
          (other_copy k.0 k.1) start)
      | inr out ↦
          let same : work.other ≡ later.other = λ i. record { row = sym (other_stays out) i; column = sym other_column i } in
          subst (HoldsSide new other c) same
          (side_elsewhere m cut.rows cut.made old new is.rows around other c work.other was.other_held out)
    ]

    pub started : IsCutTo own other c first new later
    started = record {
      cuts = more_cuts later.notes notes cuts;
      own_held = own_after;
      other_held = other_after;
      spans = more_spans;
      only = more_changes later.made.items made;
      shared = more_shared later.made.items made;
    }

    pub starts : StartsWith new c later.own
    starts =
        let row = split_row own_place.0 own_place.1 in
        let copy = some_is (λ r. fact_in new r ≡ fact_over (part_after m) (fact_in old was.own_held.row)) (row_at new.rows later.own.row) row.there in
        let lo : copy.0.span.lo ≡ Some m = ap (λ (f : StampedOf (FactOf ConstId)). f.span.lo) copy.2 in
        is_there (λ (r : SeenRow). r.span.lo ≡ c.lo) (row_at new.rows later.own.row) copy.0 copy.1 (lo ∙ sym start)
      where
        split_row : (k : ℕ) → slice_get cut.rows k ≡ Some work.own.row → SplitsRow m old new work.own.row later.own.row was.own_held.row
        split_row k e = is.rows.each k work.own.row later.own.row was.own_held.row e (own_copy k e) was.own_held.there

    pub start_keeps : KeepsFit other c old work.other new later.other
    start_keeps = keeps_fit (inl start) later.other other_stays

  -- where it is made at the stop, they stay in the rows
  module _ (stop : c.hi ≡ Some m) (later : Cutting) (own_same : later.own ≡ work.own) (other_same : later.other ≡ work.other)
      (notes : later.notes ≡ work.notes ++ (record { at = m; rows = length cut.rows }) ∷ [])
      (made : later.made.items ≡ work.made.items ++ cut.made)
      (cuts : Cuts (facts_in old) own c (record { at = m; rows = length cut.rows }) (facts_in new)) where
    side_stays : (term : TermOf ConstId) (side : Side) → HoldsSide old term c side → HoldsSide new term c side
    side_stays term side held = elim (is_among cut.rows side.row) [
      | inl there ↦ side_before m cut.rows cut.made old new is.rows around term c side held there stop
      | inr out ↦ side_elsewhere m cut.rows cut.made old new is.rows around term c side held out
    ]

    pub stopped : IsCutTo own other c first new later
    stopped = record {
      cuts = more_cuts later.notes notes cuts;
      own_held = subst (HoldsSide new own c) (sym own_same) (side_stays own work.own was.own_held);
      other_held = subst (HoldsSide new other c) (sym other_same) (side_stays other work.other was.other_held);
      spans = more_spans;
      only = more_changes later.made.items made;
      shared = more_shared later.made.items made;
    }

    pub stops : StartsWith old c work.own → IsFitted new own c later.own
    stops begun is_unknown =
        let k = placed cut.rows work.own.row own_there in
        let y = beside cut.rows cut.made k.0 work.own.row is.rows.size k.1 in
        let row = is.rows.each k.0 work.own.row y.0 was.own_held.row k.1 y.1 was.own_held.there in
        let b = some_is (λ (r : SeenRow). r.span.lo ≡ c.lo) (row_at old.rows work.own.row) begun in
        let lo : was.own_held.row.span.lo ≡ c.lo =
        ap (λ (r : SeenRow). r.span.lo) (sym (one_row (row_at old.rows work.own.row) b.0 was.own_held.row b.1 was.own_held.there)) ∙ b.2 in
        let span : part_before m was.own_held.row.span ≡ c = λ i. record { lo = lo i; hi = sym stop i } in
        is_there (λ (r : SeenRow). r.span ≡ c) (row_at new.rows later.own.row) (row_over (part_before m) was.own_held.row)
        (subst (λ (s : Side). row_at new.rows s.row ≡ Some (row_over (part_before m) was.own_held.row)) (sym own_same) row.here) span

    pub stop_keeps : KeepsFit other c old work.other new later.other
    stop_keeps = keeps_fit (inr stop) later.other (λ out. ap (λ (s : Side). s.row) other_same)
