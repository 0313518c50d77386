-- What an arena keeps as rows and cells are added and written.
use Rattle.std.proofs.Common.{◌≡◌, ◌≢◌, ◌⊎◌, inl, inr, ℕ, ◌+◌, ◌<◌, ◌≤◌, Option, Some, None, List, length, get_or, set, refl, sym, ap, ◌∙◌, subst, arith, ⊎_elim}
use Rattle.std.specs.Prelude.{slice_get, IsSomeAnd}
use Rattle.std.specs.Option.{option_map}
use Rattle.std.proofs.lemmas.Bool.{cases_lt, cases_eq}
use Rattle.std.proofs.lemmas.List.{get_or_past, get_or-set_same, get_or-set_other}
use Rattle.std.proofs.lemmas.List.FromFn.{get_or-map-range_with_len, length-map-range_with_len}
use Rattle.slab.specs.Slab.{Slab, Updates}
use Rattle.term_core.specs.declared.term.Seen.{Seen}
use Rattle.row_arena.specs.declared.cell.Cell.{Cell}
use Rattle.row_arena.specs.declared.held.HeldRow.{HeldRow}
use Rattle.row_arena.specs.declared.held.TheConstants.{MOST_COLUMNS}
use Rattle.row_arena.specs.Arena.{RowOf, StandsAt, IsArena}
use Rattle.row_arena.specs.Layout.{at, row_of, held_in, rows_of, cell_for, AddsCells, TakesCells, AreInPlace}
use Rattle.row_arena.proofs.LookUpLemmas.{some_and, and_some, same_some, written_here, written_else}

-- the row that callers see under a number is the one that is held there
absent : (slots : List (Option HeldRow)) (number : ℕ) → ((held : HeldRow) → ¬ (at slots number ≡ Some held))
    → held_in slots number ≡ None
absent slots number never = by never (at slots number) refl
  where
    by : ((held : HeldRow) → ¬ (at slots number ≡ Some held)) → (o : Option HeldRow) → at slots number ≡ o → held_in slots number ≡ None
    by n None e = ap (option_map row_of) e
    by n (Some held) e = absurd (n held e)

pub row_seen : (slots : List (Option HeldRow)) (bound : ℕ)
    → ((number : ℕ) (held : HeldRow) → at slots number ≡ Some held → number < bound)
    → (number : ℕ) → get_or (rows_of slots bound) number None ≡ held_in slots number
row_seen slots bound below number = ⊎_elim
    (λ (l : number < bound). get_or-map-range_with_len (held_in slots) 0 bound number number None l (omega arith))
    (λ (g : bound ≤ number).
    get_or_past (rows_of slots bound) number None (omega (arith, g, length-map-range_with_len (held_in slots) 0 bound))
    ∙ sym (absent slots number (λ held e. let l = below number held e in omega (arith, l, g))))
    (cases_lt number bound)

-- a row that callers see is held
pub held_row : (o : Option HeldRow) (r : RowOf) → option_map row_of o ≡ Some r → (held : HeldRow) × (o ≡ Some held) × (row_of held ≡ r)
held_row None r e = absurd cc
held_row (Some held) r e = let same : row_of held ≡ r = cc in (held, refl, same)

-- an arena stays one when a cell gets another content
module _ (row : ℕ → Option RowOf) (cells : List (Option Cell)) (ok : IsArena row (at cells)) (id : ℕ) (old new : Cell)
    (is : at cells id ≡ Some old) (same_row : new.row ≡ old.row) (same_column : new.column ≡ old.column) where
  abbrev after : List (Option Cell)
  after = set cells id (Some new)

  written_columns : (number : ℕ) (r : RowOf) → row number ≡ Some r → (column i : ℕ) → slice_get r.cells column ≡ Some i
      → IsSomeAnd (at after i) (λ c. StandsAt c number column)
  written_columns number r e column i f =
      let cell = some_and (λ (c : Cell). StandsAt c number column) (at cells i) (ok.columns number r e column i f) in
      ⊎_elim
      (λ (same : i ≡ id).
      let its = same_some (at cells id) cell.0 old (sym (ap (at cells) same) ∙ cell.1) is in
      and_some (λ (c : Cell). StandsAt c number column) (at after i) new (ap (at after) same ∙ written_here cells id old new is) (record {
        row = same_row ∙ sym (ap (λ (c : Cell). c.row) its) ∙ cell.2.row;
        column = same_column ∙ sym (ap (λ (c : Cell). c.column) its) ∙ cell.2.column;
      }))
      (λ differ. and_some (λ (c : Cell). StandsAt c number column) (at after i) cell.0
      (written_else cells id i (Some new) differ ∙ cell.1) cell.2)
      (cases_eq i id)

  written_placed : (i : ℕ) (c : Cell) → at after i ≡ Some c → IsSomeAnd (row c.row) (λ r. slice_get r.cells c.column ≡ Some i)
  written_placed i c e = ⊎_elim
      (λ (same : i ≡ id).
      let its = same_some (at after id) c new (sym (ap (at after) same) ∙ e) (written_here cells id old new is) in
      let r : old.row ≡ c.row = sym same_row ∙ sym (ap (λ (d : Cell). d.row) its) in
      let k : old.column ≡ c.column = sym same_column ∙ sym (ap (λ (d : Cell). d.column) its) in
      subst (λ n. IsSomeAnd (row n) (λ w. slice_get w.cells c.column ≡ Some i)) r
      (subst (λ n. IsSomeAnd (row old.row) (λ w. slice_get w.cells n ≡ Some i)) k
      (subst (λ n. IsSomeAnd (row old.row) (λ w. slice_get w.cells old.column ≡ Some n)) (sym same) (ok.placed id old is))))
      (λ differ. ok.placed i c (sym (written_else cells id i (Some new) differ) ∙ e))
      (cases_eq i id)

  pub written : IsArena row (at after)
  written = record { few = ok.few; columns = written_columns; placed = written_placed }

-- an arena stays one when its rows keep their cells
module _ (row later : ℕ → Option RowOf) (cell : ℕ → Option Cell) (ok : IsArena row cell)
    (same : (number : ℕ) → option_map (λ (r : RowOf). r.cells) (later number) ≡ option_map (λ (r : RowOf). r.cells) (row number)) where
  cells_from : (o : Option RowOf) (p : Option RowOf) → option_map (λ (r : RowOf). r.cells) p ≡ option_map (λ (r : RowOf). r.cells) o
      → (r : RowOf) → p ≡ Some r → (w : RowOf) × (o ≡ Some w) × (w.cells ≡ r.cells)
  cells_from None p e r is = let clash = sym (ap (option_map (λ (r : RowOf). r.cells)) is) ∙ e in absurd cc
  cells_from (Some w) p e r is =
      let both = sym (ap (option_map (λ (r : RowOf). r.cells)) is) ∙ e in
      let its : w.cells ≡ r.cells = cc in
      (w, refl, its)

  pub kept_rows : IsArena later cell
  kept_rows = record {
    few = λ number r e.
        let w = cells_from (row number) (later number) (same number) r e in
        subst (λ (l : List ℕ). length l ≤ MOST_COLUMNS) w.2 (ok.few number w.0 w.1);
    columns = λ number r e column id f.
        let w = cells_from (row number) (later number) (same number) r e in
        ok.columns number w.0 w.1 column id (ap (λ (l : List ℕ). slice_get l column) w.2 ∙ f);
    placed = λ id c e.
        let r = some_and (λ (r : RowOf). slice_get r.cells c.column ≡ Some id) (row c.row) (ok.placed id c e) in
        let w = cells_from (later c.row) (row c.row) (sym (same c.row)) r.0 r.1 in
        and_some (λ (r : RowOf). slice_get r.cells c.column ≡ Some id) (later c.row) w.0 w.1
        (ap (λ (l : List ℕ). slice_get l c.column) w.2 ∙ r.2);
  }

-- an arena stays one when a row is added under a number that has none
module _ (row later : ℕ → Option RowOf) (cell after : ℕ → Option Cell) (ok : IsArena row cell) (number : ℕ) (r : RowOf)
    (vacant : row number ≡ None) (here : later number ≡ Some r) (else_same : (n : ℕ) → n ≢ number → later n ≡ row n)
    (few : length r.cells ≤ MOST_COLUMNS)
    (each : (column id : ℕ) → slice_get r.cells column ≡ Some id → IsSomeAnd (after id) (λ c. StandsAt c number column))
    (kept : (id : ℕ) (c : Cell) → cell id ≡ Some c → after id ≡ Some c)
    (only : (id : ℕ) (c : Cell) → after id ≡ Some c → (cell id ≡ Some c) ⊎ ((c.row ≡ number) × (slice_get r.cells c.column ≡ Some id))) where
  -- a row that was there is another
  old_row : (n : ℕ) (w : RowOf) → row n ≡ Some w → later n ≡ Some w
  old_row n w e = else_same n (λ same. let clash : None ≡ Some w = sym vacant ∙ sym (ap row same) ∙ e in absurd cc) ∙ e

  abbrev Case : ℕ → RowOf → Type 0
  Case n w = (row n ≡ Some w) ⊎ ((n ≡ number) × (r ≡ w))

  row_cases : (n : ℕ) (w : RowOf) → later n ≡ Some w → Case n w
  row_cases n w e = ⊎_elim
      (λ (same : n ≡ number). inr (same, same_some (later number) r w here (sym (ap later same) ∙ e)))
      (λ differ. inl (sym (else_same n differ) ∙ e))
      (cases_eq n number)

  pub arena_grown : IsArena later after
  arena_grown = record {
    few = λ n w e. ⊎_elim
        (λ (old : row n ≡ Some w). ok.few n w old)
        (λ (new : (n ≡ number) × (r ≡ w)). subst (λ (v : RowOf). length v.cells ≤ MOST_COLUMNS) new.1 few)
        (row_cases n w e);
    columns = λ n w e column id f. ⊎_elim
        (λ (old : row n ≡ Some w).
        let c = some_and (λ (c : Cell). StandsAt c n column) (cell id) (ok.columns n w old column id f) in
        and_some (λ (c : Cell). StandsAt c n column) (after id) c.0 (kept id c.0 c.1) c.2)
        (λ (new : (n ≡ number) × (r ≡ w)).
        subst (λ m. IsSomeAnd (after id) (λ c. StandsAt c m column)) (sym new.0)
        (each column id (ap (λ (v : RowOf). slice_get v.cells column) new.1 ∙ f)))
        (row_cases n w e);
    placed = λ id c e. ⊎_elim
        (λ (old : cell id ≡ Some c).
        let w = some_and (λ (w : RowOf). slice_get w.cells c.column ≡ Some id) (row c.row) (ok.placed id c old) in
        and_some (λ (w : RowOf). slice_get w.cells c.column ≡ Some id) (later c.row) w.0 (old_row c.row w.0 w.1) w.2)
        (λ (new : (c.row ≡ number) × (slice_get r.cells c.column ≡ Some id)).
        and_some (λ (w : RowOf). slice_get w.cells c.column ≡ Some id) (later c.row) r (ap later new.0 ∙ here) new.1)
        (only id c e);
  }

-- one more cell of a row
module _ (old mid new : List (Option Cell)) (number : ℕ) (values : List Seen) (ids : List ℕ) (n key : ℕ) (cell : Cell)
    (adds : AddsCells old mid number values ids n) (room : n < length ids) (is : cell ≡ cell_for number values n)
    (vacant : at mid key ≡ None) (here : at new key ≡ Some cell) (else_same : (id : ℕ) → id ≢ key → at new id ≡ at mid id) where
  abbrev later : List ℕ
  later = set ids n key

  before_n : (column : ℕ) → column < n → get_or later column 0 ≡ get_or ids column 0
  before_n column l = get_or-set_other ids n column key 0 (λ e. omega (arith, l, e))

  at_n : get_or later n 0 ≡ key
  at_n = get_or-set_same ids n key 0 room

  was_none : at old key ≡ None
  was_none = by adds.kept (at old key) refl
    where
      by : ((id : ℕ) (c : Cell) → at old id ≡ Some c → at mid id ≡ Some c) → (o : Option Cell) → at old key ≡ o → at old key ≡ None
      by kept None e = e
      by kept (Some c) e = let clash : None ≡ Some c = sym vacant ∙ kept key c e in absurd cc

  is_other : (id : ℕ) (c : Cell) → at mid id ≡ Some c → id ≢ key
  is_other id c e same = let clash : None ≡ Some c = sym vacant ∙ sym (ap (at mid) same) ∙ e in cc

  below : (column : ℕ) → column < n + 1 → (column < n) ⊎ (column ≡ n)
  below column l = ⊎_elim (λ (b : column < n). inl b) (λ (g : n ≤ column). inr (omega (arith, l, g))) (cases_lt column n)

  pub cells_more : AddsCells old new number values later (n + 1)
  cells_more = record {
    fresh = λ column l. ⊎_elim
        (λ (b : column < n). ap (at old) (before_n column b) ∙ adds.fresh column b)
        (λ (e : column ≡ n). ap (at old) (ap (λ k. get_or later k 0) e ∙ at_n) ∙ was_none)
        (below column l);
    each = λ column l. ⊎_elim
        (λ (b : column < n).
        let id = get_or ids column 0 in
        let there = adds.each column b in
        ap (at new) (before_n column b) ∙ else_same id (is_other id (cell_for number values column) there) ∙ there)
        (λ (e : column ≡ n).
        ap (at new) (ap (λ k. get_or later k 0) e ∙ at_n) ∙ here ∙ ap Some (is ∙ ap (cell_for number values) (sym e)))
        (below column l);
    kept = λ id c e. let there = adds.kept id c e in else_same id (is_other id c there) ∙ there;
    only = λ id c e. ⊎_elim
        (λ (same : id ≡ key).
        let its = same_some (at new key) c cell (sym (ap (at new) same) ∙ e) here in
        let last : n < n + 1 = omega arith in
        inr (n, last, at_n ∙ sym same, its ∙ is))
        (λ differ. ⊎_elim
        (λ (o : at old id ≡ Some c). inl o)
        (λ (m : (column : ℕ) × (column < n) × (get_or ids column 0 ≡ id) × (c ≡ cell_for number values column)).
        let l : m.0 < n + 1 = omega (arith, m.1) in
        inr (m.0, l, before_n m.0 m.1 ∙ m.2, m.3))
        (adds.only id c (sym (else_same id differ) ∙ e)))
        (cases_eq id key);
  }

-- one cell of a row less
module _ (old : List (Option Cell)) (mid new : Slab Cell) (held : HeldRow) (n : ℕ) (takes : TakesCells old mid.slots held.ids n)
    (places : AreInPlace mid.slots held n) (inside : n < held.head.arity)
    (updates : Updates mid new (get_or held.ids n 0) None) where
  abbrev key : ℕ
  key = get_or held.ids n 0

  gone_or_other : (id : ℕ) → (at new.slots id ≡ None) ⊎ ((id ≢ key) × (at new.slots id ≡ at mid.slots id))
  gone_or_other id = ⊎_elim
      (λ (same : id ≡ key). inl (ap (at new.slots) same ∙ updates.changed))
      (λ differ. inr (differ, updates.others id differ))
      (cases_eq id key)

  pub fewer_taken : TakesCells old new.slots held.ids (n + 1)
  fewer_taken = record {
    gone = λ column l. ⊎_elim
        (λ (none : at new.slots (get_or held.ids column 0) ≡ None). none)
        (λ (other : (get_or held.ids column 0 ≢ key) × (at new.slots (get_or held.ids column 0) ≡ at mid.slots (get_or held.ids column 0))).
        ⊎_elim
        (λ (b : column < n). other.1 ∙ takes.gone column b)
        (λ (g : n ≤ column). let same : column ≡ n = omega (arith, l, g) in absurd (other.0 (ap (λ k. get_or held.ids k 0) same)))
        (cases_lt column n))
        (gone_or_other (get_or held.ids column 0));
    kept = λ id c e never.
        let last : n < n + 1 = omega arith in
        updates.others id (λ same. never n last (sym same))
        ∙ takes.kept id c e (λ column l. never column (omega (arith, l)));
    only = λ id c e. ⊎_elim
        (λ (none : at new.slots id ≡ None). let clash : None ≡ Some c = sym none ∙ e in absurd cc)
        (λ (other : (id ≢ key) × (at new.slots id ≡ at mid.slots id)). takes.only id c (sym other.1 ∙ e))
        (gone_or_other id);
  }

  pub fewer_places : AreInPlace new.slots held (n + 1)
  fewer_places column l m =
      let id = get_or held.ids column 0 in
      let cell = some_and (λ (c : Cell). c.column ≡ column) (at mid.slots id) (places column (omega (arith, l)) m) in
      let first = some_and (λ (c : Cell). c.column ≡ n) (at mid.slots key) (places n (omega arith) inside) in
      let differ : id ≢ key = λ same.
      let its = same_some (at mid.slots key) cell.0 first.0 (sym (ap (at mid.slots) same) ∙ cell.1) first.1 in
      let columns = sym cell.2 ∙ ap (λ (c : Cell). c.column) its ∙ first.2 in
      omega (arith, l, columns) in
      and_some (λ (c : Cell). c.column ≡ column) (at new.slots id) cell.0 (updates.others id differ ∙ cell.1) cell.2
