-- What callers see of a sound arena, and how it stays sound.
use Rattle.std.proofs.Common.{cond, ◌≡◌, ◌≢◌, ◌⊎◌, inl, inr, ℕ, ◌+◌, ◌-◌, ◌<◌, ◌≤◌, max, Option, Some, None, List, length, take, get_or, set, refl, sym, ap, ◌∙◌, subst, arith, ⊎_elim}
use Rattle.std.specs.Prelude.{slice_get, is_some, count_by, IsSome, IsSomeAnd}
use Rattle.std.specs.Option.{option_map}
use Rattle.std.proofs.lemmas.Bool.{cases_eq}
use Rattle.std.proofs.lemmas.List.{length-take-le}
use Rattle.std.proofs.lemmas.List.Sums.{sum_by-set}
use Rattle.std.proofs.lemmas.List.FromFn.{length-map-range_with_len}
use Rattle.std.proofs.lemmas.Option.{get_or_from_slice_get}
use Rattle.time_line.specs.Span.{Ends}
use Rattle.slab.specs.Slab.{Slab, slab_len, Updates}
use Rattle.term_core.specs.declared.term.Seen.{Seen}
use Rattle.term_core.specs.declared.term.Seen.TheVariants.{Const}
use Rattle.row_arena.specs.declared.cell.Cell.{Cell}
use Rattle.row_arena.specs.declared.held.HeldRow.{HeldRow}
use Rattle.row_arena.specs.declared.held.TheConstants.{MOST_COLUMNS}
use Rattle.row_arena.specs.Arena.{RowOf, Arena, row_in, cell_in, head_of, HasRow, HasColumn, StandsAt, IsArena}
use Rattle.row_arena.specs.Changes.{AddsRow, SetsSpan, TakesRow, new_cell}
use Rattle.row_arena.specs.Layout.{at, row_of, held_in, arena_of, IsHeld, IsSound, cell_for, AddsCells, TakesCells, AreInPlace}
use Rattle.row_arena.proofs.LookUpLemmas.{some_and, and_some, same_some, is_there, there_is, inside, written_here, written_else, taken_at, at_taken}
use Rattle.row_arena.proofs.ArenaLemmas.{row_seen, held_row, kept_rows, arena_grown}

-- a held row has as many cells as its head says
pub arity_of : (held : HeldRow) → IsHeld held → length (take held.head.arity held.ids) ≡ held.head.arity
arity_of held h = length-take-le held.head.arity held.ids (omega (arith, h.size, h.arity))

module _ (rows : Slab HeldRow) (bound : ℕ) (cells : Slab Cell) (sound : IsSound rows.slots bound cells.slots) where
  abbrev arena : Arena
  arena = arena_of rows bound cells

  -- callers see the rows that are held
  pub seen : (number : ℕ) → row_in arena number ≡ held_in rows.slots number
  seen number = row_seen rows.slots bound sound.below number

  pub seen_arena : IsArena (row_in arena) (cell_in arena)
  seen_arena = subst (λ (f : ℕ → Option RowOf). IsArena f (at cells.slots)) (λ i number. sym (seen number) i) sound.arena

  pub seen_head : (number : ℕ) (held : HeldRow) → at rows.slots number ≡ Some held
      → Some held.head ≡ option_map head_of (row_in arena number)
  seen_head number held e =
      let arity = sym (arity_of held (sound.held number held e)) in
      let head : held.head ≡ head_of (row_of held) =
      λ i. record { relation = held.head.relation; arity = arity i; span = held.head.span } in
      ap Some head ∙ sym (ap (λ (o : Option HeldRow). option_map head_of (option_map row_of o)) e)
      ∙ sym (ap (option_map head_of) (seen number))

  pub seen_none : (number : ℕ) → at rows.slots number ≡ None → None ≡ option_map head_of (row_in arena number)
  seen_none number e =
      sym (ap (λ (o : Option HeldRow). option_map head_of (option_map row_of o)) e) ∙ sym (ap (option_map head_of) (seen number))

  -- a row that callers see is held
  pub has_row : (now : Arena) → arena ≡ now → (number : ℕ) → HasRow now number → IsSome (at rows.slots number)
  has_row now view number h =
      let r = is_there (row_in arena number) (subst (λ (a : Arena). HasRow a number) (sym view) h) in
      let held = held_row (at rows.slots number) r.0 (sym (seen number) ∙ r.1) in
      there_is (at rows.slots number) held.0 held.1

  module _ (now : Arena) (view : arena ≡ now) (number column : ℕ) (h : HasColumn now number column) where
    pub has_column : (held : HeldRow) × (at rows.slots number ≡ Some held) × (column < held.head.arity)
    has_column =
        let r = some_and (λ (r : RowOf). column < length r.cells) (row_in arena number)
        (subst (λ (a : Arena). HasColumn a number column) (sym view) h) in
        let held = held_row (at rows.slots number) r.0 (sym (seen number) ∙ r.1) in
        let size = arity_of held.0 (sound.held number held.0 held.1) in
        let same = ap (λ (w : RowOf). length w.cells) held.2 in
        (held.0, held.1, omega (arith, r.2, same, size))

    pub there : IsSome (at rows.slots number)
    there = there_is (at rows.slots number) has_column.0 has_column.1

    pub narrow : column < MOST_COLUMNS
    narrow = omega (arith, has_column.2, (sound.held number has_column.0 has_column.1).arity)

    module _ (held : HeldRow) (is : at rows.slots number ≡ Some held) where
      its_column : column < held.head.arity
      its_column =
          let same = same_some (at rows.slots number) has_column.0 held has_column.1 is in
          subst (λ (w : HeldRow). column < w.head.arity) same has_column.2

      its_number : slice_get (row_of held).cells column ≡ Some (get_or held.ids column 0)
      its_number =
          let h = sound.held number held is in
          at_taken held.head.arity held.ids column (omega (arith, h.size, h.arity)) its_column

      its_row : row_in arena number ≡ Some (row_of held)
      its_row = seen number ∙ ap (option_map row_of) is

      pub cell_number : IsSomeAnd (row_in now number) (λ r. slice_get r.cells column ≡ Some (get_or held.ids column 0))
      cell_number =
          subst (λ (a : Arena). IsSomeAnd (row_in a number) (λ r. slice_get r.cells column ≡ Some (get_or held.ids column 0))) view
          (and_some (λ (r : RowOf). slice_get r.cells column ≡ Some (get_or held.ids column 0)) (row_in arena number) (row_of held)
          its_row its_number)

      pub cell_there : IsSomeAnd (cell_in now (get_or held.ids column 0)) (λ c. StandsAt c number column)
      cell_there =
          subst (λ (a : Arena). IsSomeAnd (cell_in a (get_or held.ids column 0)) (λ c. StandsAt c number column)) view
          (sound.arena.columns number (row_of held) (ap (option_map row_of) is) column (get_or held.ids column 0) its_number)

  -- a row gets another span
  module _ (number : ℕ) (held : HeldRow) (span : Ends) (is : at rows.slots number ≡ Some held) where
    abbrev with_span : HeldRow
    with_span = record { head = record { relation = held.head.relation; arity = held.head.arity; span = span }; ids = held.ids }

    abbrev respanned : List (Option HeldRow)
    respanned = set rows.slots number (Some with_span)

    here : at respanned number ≡ Some with_span
    here = written_here rows.slots number held with_span is

    elsewhere : (other : ℕ) → other ≢ number → at respanned other ≡ at rows.slots other
    elsewhere other differ = written_else rows.slots number other (Some with_span) differ

    same_cells : (n : ℕ) → option_map (λ (r : RowOf). r.cells) (held_in respanned n)
        ≡ option_map (λ (r : RowOf). r.cells) (held_in rows.slots n)
    same_cells n =
        let cells_of : Option HeldRow → Option (List ℕ) = λ o. option_map (λ (r : RowOf). r.cells) (option_map row_of o) in
        ⊎_elim
        (λ (e : n ≡ number).
        ap cells_of (ap (at respanned) e ∙ here) ∙ sym (ap cells_of (ap (at rows.slots) e ∙ is)))
        (λ differ. ap cells_of (elsewhere n differ))
        (cases_eq n number)

    pub spans_sound : IsSound respanned bound cells.slots
    spans_sound = record {
      arena = kept_rows (held_in rows.slots) (held_in respanned) (at cells.slots) sound.arena same_cells;
      below = λ n w e. ⊎_elim
          (λ (same : n ≡ number). subst (λ m. m < bound) (sym same) (sound.below number held is))
          (λ differ. sound.below n w (sym (elsewhere n differ) ∙ e))
          (cases_eq n number);
      held = λ n w e. ⊎_elim
          (λ (same : n ≡ number).
          let h = sound.held number held is in
          let its = same_some (at respanned number) with_span w here (sym (ap (at respanned) same) ∙ e) in
          subst IsHeld its (record { size = h.size; arity = h.arity }))
          (λ differ. sound.held n w (sym (elsewhere n differ) ∙ e))
          (cases_eq n number);
    }

    abbrev spans : Slab HeldRow
    spans = record { slots = respanned; vacant_key = rows.vacant_key; capacity = rows.capacity }

    same_count : count_by is_some respanned ≡ count_by is_some rows.slots
    same_count =
        let count : Option HeldRow → ℕ = λ o. cond (is_some o) 1 0 in
        let sums = sum_by-set count rows.slots number (Some with_span) None (inside rows.slots number held is) in
        omega (arith, sums, ap count is)

    pub sets_span : SetsSpan arena (arena_of spans bound cells) number span
    sets_span =
        let later : (n : ℕ) → row_in (arena_of spans bound cells) n ≡ held_in respanned n = row_seen respanned bound spans_sound.below in
        record {
          row = later number ∙ ap (option_map row_of) here
              ∙ sym (ap (λ (o : Option HeldRow). option_map (λ (r : RowOf). record { relation = r.relation; span = span; cells = r.cells })
              (option_map row_of o)) is)
              ∙ sym (ap (option_map (λ (r : RowOf). record { relation = r.relation; span = span; cells = r.cells })) (seen number));
          rows = λ n differ. later n ∙ ap (option_map row_of) (elsewhere n differ) ∙ sym (seen n);
          bound = length-map-range_with_len (held_in respanned) 0 bound ∙ sym (length-map-range_with_len (held_in rows.slots) 0 bound);
          cells = refl;
          spare_rows = ap (λ n. rows.capacity - n) same_count;
          spare_cells = refl;
        }

  -- a row is added, where its cells are
  module _ (later : Slab HeldRow) (bound_after : ℕ) (after : Slab Cell) (number key : ℕ) (held : HeldRow) (values : List Seen)
      (vacant : at rows.slots number ≡ None) (is_key : key ≡ number) (updates : Updates rows later key (Some held))
      (bounded : bound_after ≡ max bound (number + 1)) (arity : held.head.arity ≡ length values)
      (few : length values ≤ MOST_COLUMNS) (size : length held.ids ≡ MOST_COLUMNS)
      (adds : AddsCells cells.slots after.slots number values held.ids (length values)) where
    is_held : IsHeld held
    is_held = record { size = size; arity = omega (arith, arity, few) }

    front : held.head.arity ≤ length held.ids
    front = omega (arith, arity, few, size)

    added : at later.slots number ≡ Some held
    added = subst (λ n. at later.slots n ≡ Some held) is_key updates.changed

    others : (n : ℕ) → n ≢ number → at later.slots n ≡ at rows.slots n
    others n differ = updates.others n (λ same. differ (same ∙ is_key))

    its_place : (column id : ℕ) → slice_get (row_of held).cells column ≡ Some id → (column < length values) × (get_or held.ids column 0 ≡ id)
    its_place column id e =
        let place = taken_at held.head.arity held.ids column id front e in
        (omega (arith, place.0, arity), place.1)

    new_at : (column id : ℕ) → slice_get (row_of held).cells column ≡ Some id → at after.slots id ≡ Some (cell_for number values column)
    new_at column id e =
        let place = its_place column id e in
        sym (ap (at after.slots) place.1) ∙ adds.each column place.0

    place_of_new : (id : ℕ) (c : Cell) → at after.slots id ≡ Some c
        → (at cells.slots id ≡ Some c) ⊎ ((c.row ≡ number) × (slice_get (row_of held).cells c.column ≡ Some id))
    place_of_new id c e = ⊎_elim
        (λ (o : at cells.slots id ≡ Some c). inl o)
        (λ (m : (column : ℕ) × (column < length values) × (get_or held.ids column 0 ≡ id) × (c ≡ cell_for number values column)).
        let l : m.0 < held.head.arity = omega (arith, m.1, arity) in
        inr (
          ap (λ (d : Cell). d.row) m.3,
          ap (slice_get (row_of held).cells) (ap (λ (d : Cell). d.column) m.3)
              ∙ at_taken held.head.arity held.ids m.0 front l ∙ ap Some m.2,
        ))
        (adds.only id c e)

    pub grown_sound : IsSound later.slots bound_after after.slots
    grown_sound = record {
      arena = arena_grown (held_in rows.slots) (held_in later.slots) (at cells.slots) (at after.slots) sound.arena number (row_of held)
          (ap (option_map row_of) vacant) (ap (option_map row_of) added) (λ n differ. ap (option_map row_of) (others n differ))
          (omega (arith, arity_of held is_held, is_held.arity))
          (λ column id e. and_some (λ (c : Cell). StandsAt c number column) (at after.slots id) (cell_for number values column)
          (new_at column id e) (record { row = refl; column = refl }))
          adds.kept place_of_new;
      below = λ n w e. ⊎_elim
          (λ (same : n ≡ number). omega (arith, same, bounded))
          (λ differ. let l = sound.below n w (sym (others n differ) ∙ e) in omega (arith, l, bounded))
          (cases_eq n number);
      held = λ n w e. ⊎_elim
          (λ (same : n ≡ number).
          subst IsHeld (same_some (at later.slots number) held w added (sym (ap (at later.slots) same) ∙ e)) is_held)
          (λ differ. sound.held n w (sym (others n differ) ∙ e))
          (cases_eq n number);
    }

    pub adds_row : 0 < rows.capacity - slab_len rows → length values ≤ cells.capacity - slab_len cells
        → slab_len later ≡ slab_len rows + 1 → later.capacity ≡ rows.capacity
        → slab_len after ≡ slab_len cells + length values → after.capacity ≡ cells.capacity
        → AddsRow arena (arena_of later bound_after after) number held.head.relation held.head.span values
    adds_row some room row_count row_capacity cell_count cell_capacity =
        let shown : (n : ℕ) → row_in (arena_of later bound_after after) n ≡ held_in later.slots n =
        row_seen later.slots bound_after grown_sound.below in
        record {
          ids = (row_of held).cells;
          vacant = seen number ∙ ap (option_map row_of) vacant;
          row = shown number ∙ ap (option_map row_of) added;
          size = arity_of held is_held ∙ arity;
          fresh = λ column id e.
              let place = its_place column id e in
              sym (ap (at cells.slots) place.1) ∙ adds.fresh column place.0;
          each = λ column id value e f.
              new_at column id e
              ∙ ap (λ v. Some (new_cell number column v)) (get_or_from_slice_get values column value (Const (record { 0 = 0 })) f);
          rows = λ n differ. shown n ∙ ap (option_map row_of) (others n differ) ∙ sym (seen n);
          cells = adds.kept;
          only = λ id c e. ⊎_elim
              (λ (o : at cells.slots id ≡ Some c). inl o)
              (λ (m : (c.row ≡ number) × (slice_get (row_of held).cells c.column ≡ Some id)). inr m.0)
              (place_of_new id c e);
          spare_rows = omega (arith, some, row_count, row_capacity);
          spare_cells = omega (arith, room, cell_count, cell_capacity);
        }

  -- a row is taken away, and its cells
  module _ (later : Slab HeldRow) (after : Slab Cell) (number : ℕ) (held : HeldRow) (is : at rows.slots number ≡ Some held)
      (updates : Updates rows later number None) (takes : TakesCells cells.slots after.slots held.ids held.head.arity) where
    held_is : IsHeld held
    held_is = sound.held number held is

    its_front : held.head.arity ≤ length held.ids
    its_front = omega (arith, held_is.size, held_is.arity)

    its_row_was : held_in rows.slots number ≡ Some (row_of held)
    its_row_was = ap (option_map row_of) is

    -- a cell that is left is in another row
    left_elsewhere : (id : ℕ) (c : Cell) → at after.slots id ≡ Some c → c.row ≢ number
    left_elsewhere id c e same =
        let r = some_and (λ (r : RowOf). slice_get r.cells c.column ≡ Some id) (held_in rows.slots c.row)
        (sound.arena.placed id c (takes.only id c e)) in
        let its = same_some (held_in rows.slots number) r.0 (row_of held) (sym (ap (held_in rows.slots) same) ∙ r.1) its_row_was in
        let place = taken_at held.head.arity held.ids c.column id its_front (sym (ap (λ (w : RowOf). slice_get w.cells c.column) its) ∙ r.2) in
        let clash : None ≡ Some c = sym (takes.gone c.column place.0) ∙ ap (at after.slots) place.1 ∙ e in
        cc

    -- a cell of another row is left
    elsewhere_left : (id : ℕ) (c : Cell) → at cells.slots id ≡ Some c → c.row ≢ number → at after.slots id ≡ Some c
    elsewhere_left id c e differ = takes.kept id c e (λ column l same.
        let its = some_and (λ (d : Cell). StandsAt d number column) (at cells.slots id)
        (sound.arena.columns number (row_of held) its_row_was column id (at_taken held.head.arity held.ids column its_front l ∙ ap Some same)) in
        differ (ap (λ (d : Cell). d.row) (same_some (at cells.slots id) c its.0 e its.1) ∙ its.2.row))

    same_rows : (n : ℕ) → n ≢ number → held_in later.slots n ≡ held_in rows.slots n
    same_rows n differ = ap (option_map row_of) (updates.others n differ)

    -- a row that is left was there
    row_left : (n : ℕ) (w : HeldRow) → at later.slots n ≡ Some w → (n ≢ number) × (at rows.slots n ≡ Some w)
    row_left n w e =
        let differ : n ≢ number = λ same. (let clash : None ≡ Some w = sym updates.changed ∙ sym (ap (at later.slots) same) ∙ e in cc) in
        (differ, sym (updates.others n differ) ∙ e)

    seen_left : (n : ℕ) (r : RowOf) → held_in later.slots n ≡ Some r → (n ≢ number) × (held_in rows.slots n ≡ Some r)
    seen_left n r e =
        let w = held_row (at later.slots n) r e in
        let was = row_left n w.0 w.1 in
        (was.0, ap (option_map row_of) was.1 ∙ ap Some w.2)

    pub taken_sound : IsSound later.slots bound after.slots
    taken_sound = record {
      arena = record {
        few = λ n r e. sound.arena.few n r (seen_left n r e).1;
        columns = λ n r e column id f.
            let was = seen_left n r e in
            let c = some_and (λ (c : Cell). StandsAt c n column) (at cells.slots id) (sound.arena.columns n r was.1 column id f) in
            and_some (λ (c : Cell). StandsAt c n column) (at after.slots id) c.0
            (elsewhere_left id c.0 c.1 (λ same. was.0 (sym c.2.row ∙ same))) c.2;
        placed = λ id c e.
            subst (λ (o : Option RowOf). IsSomeAnd o (λ r. slice_get r.cells c.column ≡ Some id))
            (sym (same_rows c.row (left_elsewhere id c e))) (sound.arena.placed id c (takes.only id c e));
      };
      below = λ n w e. sound.below n w (row_left n w e).1;
      held = λ n w e. sound.held n w (row_left n w e).1;
    }

    pub takes_row : slab_len later + 1 ≡ slab_len rows → slab_len later + 1 ≤ later.capacity → later.capacity ≡ rows.capacity
        → slab_len after + held.head.arity ≡ slab_len cells → slab_len cells ≤ cells.capacity → after.capacity ≡ cells.capacity
        → TakesRow arena (arena_of later bound after) number
    takes_row row_count row_room row_capacity cell_count cell_room cell_capacity =
        let shown : (n : ℕ) → row_in (arena_of later bound after) n ≡ held_in later.slots n =
        row_seen later.slots bound taken_sound.below in
        record {
          row = shown number ∙ ap (option_map row_of) updates.changed;
          rows = λ n differ. shown n ∙ same_rows n differ ∙ sym (seen n);
          bound = length-map-range_with_len (held_in later.slots) 0 bound ∙ sym (length-map-range_with_len (held_in rows.slots) 0 bound);
          gone = left_elsewhere;
          cells = elsewhere_left;
          only = takes.only;
          spare_rows = omega (arith, row_count, row_room, row_capacity);
          spare_cells = and_some
              (λ (r : RowOf). after.capacity - slab_len after ≡ (cells.capacity - slab_len cells) + length r.cells)
              (row_in arena number) (row_of held) (seen number ∙ its_row_was)
              (omega (arith, cell_count, cell_room, cell_capacity, arity_of held held_is));
        }

  -- the cells of a row that is held are in place
  pub in_place : (number : ℕ) (held : HeldRow) → at rows.slots number ≡ Some held → AreInPlace cells.slots held 0
  in_place number held is column _ l =
      let id = get_or held.ids column 0 in
      let h = sound.held number held is in
      let c = some_and (λ (c : Cell). StandsAt c number column) (at cells.slots id)
      (sound.arena.columns number (row_of held) (ap (option_map row_of) is) column id
      (at_taken held.head.arity held.ids column (omega (arith, h.size, h.arity)) l)) in
      and_some (λ (c : Cell). c.column ≡ column) (at cells.slots id) c.0 c.1 c.2.column
