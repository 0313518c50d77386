-- What rows have in common while others are cut, and while a value stands in for a piece.
use Rattle.std.proofs.Common.{◌≡◌, ◌++◌, ℕ, ℤ, ◌≤ℤ◌, ◌<ℤ◌, Bool, true, false, int_le, Option, Some, None, List, length, map, refl, sym, ap, ◌∙◌, subst, inl, inr, arith, All, Contains, IsSomeAnd, slice_get}
use Rattle.std.specs.Option.{option_map, option_map_or}
use Rattle.std.proofs.lemmas.Int.{ints}
use Rattle.std.proofs.lemmas.List.{length-map}
use Rattle.std.proofs.lemmas.List.Elements.{All-contains, Contains-append_left, Contains-append_right}
use Rattle.std.proofs.lemmas.Option.{slice_get-map}
use Rattle.time_line.specs.Span.{Has, IsInside}
use Rattle.term_core.specs.declared.const_id.ConstId.{ConstId}
use Rattle.term_core.specs.declared.term.Seen.{Seen}
use Rattle.term_core.specs.declared.term.Seen.TheVariants.{Const, Piece}
use Rattle.rule_core.specs.Terms.{TermOf, constant, unknown, numbered, FactOf, StampedOf}
use Rattle.rule_core.specs.Values.{unknown_value}
use Rattle.fact_table.specs.Rows.{SeenRow, row_at}
use Rattle.body_match.specs.Index.{IsNoMore}
use Rattle.null_store.specs.Store.{Store, PieceOf, piece_at, term_in, fact_in}
use Rattle.null_store.specs.Changes.{instead, row_instead, ReplacesCells}
use Rattle.null_store.specs.Lists.{HasRowsOf}
use Rattle.null_store.specs.Splits.{row_over, part_before, part_after, fact_over, SplitsRow, SplitsRows, SharePiece}
use Rattle.null_store.proofs.ListLemmas.{and_some, some_and, contains_from_at}
use Rattle.null_store.proofs.JoinLemmas.{instead_else}
use Rattle.null_store.proofs.OccurrenceLemmas.{from_map}
use Rattle.egd_chase.specs.Search.{ChangeOnly, HaveSpans}
use Rattle.egd_chase.specs.Shared.{HasHeir, KeepsShared}
use Rattle.egd_chase.proofs.ReplaceLemmas.{others_same, not_held}
use Rattle.egd_chase.proofs.SideLemmas.{placed, beside, one_row, not_made}
use Rattle.body_match.proofs.ListLemmas.{is_among}
use Rattle.egd_chase.proofs.WaitLemmas.{change_these}

-- a row that stays as it is has in common what it had
stays : (numbers : List ℕ) (new : List (Option SeenRow)) (row : SeenRow) (t : ℤ) (number : ℕ) (other : SeenRow)
    → row_at new number ≡ Some other → Has other.span t → HasHeir numbers new row t number other
stays numbers new row t number other there has = record {
  heir = number;
  later = other;
  which = inl refl;
  there = there;
  instant = has;
  relation = refl;
  arity = refl;
  cells = λ column same. same;
}

-- where nothing changes
pub keeps_none : (numbers : List ℕ) (rows : List (Option SeenRow)) → KeepsShared numbers rows rows
keeps_none numbers rows number other row before t out at has there had = stays numbers rows row t other before there had

-- two changes, one after the other
module _ (first second numbers : List ℕ) (old mid new : List (Option SeenRow)) where
  -- the heir of an heir
  heir_twice : (row : SeenRow) (t : ℤ) (other : ℕ) (before : SeenRow) → ((n : ℕ) → Contains first n → Contains numbers n)
      → ((n : ℕ) → Contains second n → Contains numbers n) → (a : HasHeir first mid row t other before)
      → HasHeir second new row t a.heir a.later → HasHeir numbers new row t other before
  heir_twice row t other before one two a b = record {
    heir = b.heir;
    later = b.later;
    which = elim b.which [
      | inl same ↦ elim a.which [
        | inl still ↦ inl (same ∙ still)
        | inr c ↦ inr (one b.heir (subst (Contains first) (sym same) c))
      ]
      | inr c ↦ inr (two b.heir c)
    ];
    there = b.there;
    instant = b.instant;
    relation = b.relation ∙ a.relation;
    arity = b.arity ∙ a.arity;
    cells = λ column same. b.cells column (a.cells column same);
  }

  -- the row before the second change
  row_was : (n : ℕ) (row : SeenRow) (t : ℤ) → row_at new n ≡ Some row → Has row.span t → IsNoMore (row_at mid n) (row_at new n)
      → (before : SeenRow) × (row_at mid n ≡ Some before) × (row.cells ≡ before.cells) × Has before.span t
  row_was n row t at has kept =
      let was = subst (IsNoMore (row_at mid n)) at kept in
      let b = some_and (λ (before : SeenRow). IsNoMore (Some before) (Some row)) (row_at mid n) (held (row_at mid n) was) in
      (b.0, b.1, b.2.1, b.2.3 t has)
    where
      held : (o : Option SeenRow) → IsNoMore o (Some row) → IsSomeAnd o (λ before. IsNoMore (Some before) (Some row))
      held (Some before) h = h
      held None h = absurd h

  pub keeps_twice : ((n : ℕ) → Contains first n → Contains numbers n) → ((n : ℕ) → Contains second n → Contains numbers n)
      → KeepsShared first old mid → KeepsShared second mid new → ChangeOnly second mid new → KeepsShared numbers old new
  keeps_twice one two a b only number other row before t out at has there had =
      let out_second : ¬ (Contains second number) = λ c. out (two number c) in
      let was = row_was number row t at has (only number out_second) in
      let a_heir = a number other was.0 before t (λ c. out (one number c)) was.1 was.3 there had in
      let heir : HasHeir first mid row t other before = over was.0 was.2 a_heir in
      heir_twice row t other before one two heir
      (b number heir.heir row heir.later t out_second at has heir.there heir.instant)
    where
      over : (w : SeenRow) → row.cells ≡ w.cells → HasHeir first mid w t other before → HasHeir first mid row t other before
      over w e h = record {
        heir = h.heir;
        later = h.later;
        which = h.which;
        there = h.there;
        instant = h.instant;
        relation = h.relation;
        arity = h.arity;
        cells = λ column. subst (λ (l : List Seen). slice_get before.cells column ≡ slice_get l column
            → slice_get h.later.cells column ≡ slice_get l column) (sym e) (h.cells column);
      }

-- a cut of rows with all that share pieces with them
module _ (m : ℤ) (numbers made : List ℕ) (old new : Store) (split : SplitsRows numbers m made old new)
    (around : (n : ℕ) → Contains numbers n → (row : SeenRow) × (row_at old.rows n ≡ Some row) × IsInside row.span m)
    (closed : (a b : ℕ) → Contains numbers a → SharePiece old a b → Contains numbers b) where
  -- a row that is cut, with its copy
  split_row : (n : ℕ) (row : SeenRow) → row_at old.rows n ≡ Some row → Contains numbers n
      → (copy : ℕ) × Contains made copy × SplitsRow m old new n copy row
  split_row n row at c =
      let k = placed numbers n c in
      let y = beside numbers made k.0 n split.size k.1 in
      (y.0, contains_from_at made k.0 y.0 y.1, split.each k.0 n y.0 row k.1 y.1 at)

  -- a row that is cut has no instant from the cut on
  ends_there : (n : ℕ) (row : SeenRow) (t : ℤ) → row_at new.rows n ≡ Some row → Has row.span t → Contains numbers n → t <ℤ m
  ends_there n row t at has c =
      let r = around n c in
      let s = split_row n r.0 r.1 c in
      let same = one_row (row_at new.rows n) (row_over (part_before m) r.0) row s.2.here at in
      (subst (λ (w : SeenRow). Has w.span t) (sym same) has).1

  -- the constants of a cell stand in the same cell of the copy
  module _ (before later : SeenRow) (fact : fact_in new later ≡ fact_over (part_after m) (fact_in old before)) where
    same_terms : map (term_in new) later.cells ≡ map (term_in old) before.cells
    same_terms = ap (λ (f : StampedOf (FactOf ConstId)). f.row.terms) fact

    same_term : (column : ℕ) → option_map (term_in new) (slice_get later.cells column) ≡ option_map (term_in old) (slice_get before.cells column)
    same_term column = sym (slice_get-map (term_in new) later.cells column) ∙ ap (λ (l : List (TermOf ConstId)). slice_get l column) same_terms
        ∙ slice_get-map (term_in old) before.cells column

    same_arity : length later.cells ≡ length before.cells
    same_arity = sym (length-map later.cells (term_in new)) ∙ ap (λ (l : List (TermOf ConstId)). length l) same_terms
        ∙ length-map before.cells (term_in old)

    none_of : (o : Option Seen) → option_map (term_in new) o ≡ None → o ≡ None
    none_of None e = refl
    none_of (Some v) e = absurd cc

    is_constant : (v : Seen) (k : ConstId) → term_in new v ≡ constant k → v ≡ Const k
    is_constant (Const j) k e = cc
    is_constant (Piece p) k e = absurd (of_piece (piece_at new p) e)
      where
        of_piece : (o : Option PieceOf) → option_map_or (λ q. unknown (unknown_value q.unknown)) o (unknown (numbered p)) ≡ constant k → ⊥
        of_piece None e = cc
        of_piece (Some q) e = cc

    constant_of : (o : Option Seen) (k : ConstId) → option_map (term_in new) o ≡ Some (constant k) → o ≡ Some (Const k)
    constant_of o k e = let v = from_map (term_in new) o (constant k) e in v.1 ∙ ap Some (is_constant v.0 k v.2)

    -- a cell that shows no unknown is the same in the copy
    same_cell : (column : ℕ) (o : Option Seen) → slice_get before.cells column ≡ o → ((p : ℕ) → ¬ (o ≡ Some (Piece p)))
        → slice_get later.cells column ≡ o
    same_cell column None e known = none_of (slice_get later.cells column) (same_term column ∙ ap (option_map (term_in old)) e)
    same_cell column (Some (Const k)) e known =
        constant_of (slice_get later.cells column) k (same_term column ∙ ap (option_map (term_in old)) e)
    same_cell column (Some (Piece p)) e known = absurd (known p refl)

  -- the copy is the heir of a row that is cut
  copy_keeps : (number other : ℕ) (row before : SeenRow) (t : ℤ) → ¬ (Contains numbers number) → row_at old.rows number ≡ Some row
      → row_at old.rows other ≡ Some before → Has before.span t → Contains numbers other → m ≤ℤ t
      → HasHeir made new.rows row t other before
  copy_keeps number other row before t out at there had c from =
      let s = split_row other before there c in
      let later = some_and (λ later. fact_in new later ≡ fact_over (part_after m) (fact_in old before)) (row_at new.rows s.0) s.2.there in
      let apart : (column p : ℕ) → slice_get before.cells column ≡ slice_get row.cells column
      → ¬ (slice_get before.cells column ≡ Some (Piece p)) =
      λ column p same e. out (closed other number c (
        p,
        and_some (λ (r : SeenRow). Contains r.cells (Piece p)) (row_at old.rows other) before there
            (contains_from_at before.cells column (Piece p) e),
        and_some (λ (r : SeenRow). Contains r.cells (Piece p)) (row_at old.rows number) row at
            (contains_from_at row.cells column (Piece p) (sym same ∙ e)),
      )) in
      record {
        heir = s.0;
        later = later.0;
        which = inr s.1;
        there = later.1;
        instant = subst (λ (f : StampedOf (FactOf ConstId)). Has f.span t) (sym later.2) (from, had.1);
        relation = ap (λ (f : StampedOf (FactOf ConstId)). f.row.relation) later.2;
        arity = same_arity before later.0 later.2;
        cells = λ column same.
            same_cell before later.0 later.2 column (slice_get before.cells column) refl (λ p. apart column p same) ∙ same;
      }

  -- what rows have in common, where some are cut
  pub cut_keeps : KeepsShared made old.rows new.rows
  cut_keeps number other row before t out at has there had = elim (is_among numbers other) [
    | inl c ↦ by_instant c (int_le m t) refl
    | inr apart ↦ stays made new.rows row t other before
        (split.others other apart (not_made m numbers made old new split around other before there) ∙ there) had
  ]
    where
      before_cut : Contains numbers other → t <ℤ m → HasHeir made new.rows row t other before
      before_cut c l = record {
        heir = other;
        later = row_over (part_before m) before;
        which = inl refl;
        there = (split_row other before there c).2.here;
        instant = (had.0, l);
        relation = refl;
        arity = refl;
        cells = λ column same. same;
      }

      by_instant : Contains numbers other → (b : Bool) → int_le m t ≡ b → HasHeir made new.rows row t other before
      by_instant c false e = before_cut c (omega (arith, ints))
      by_instant c true e = elim (is_among numbers number) [
        | inl d ↦ before_cut c (ends_there number row t at has d)
        | inr apart ↦ copy_keeps number other row before t apart (sym (split.others number apart out) ∙ at) there had c (omega (arith, ints))
      ]

-- where a value stands in each cell that held a piece
module _ (old new : Store) (piece : ℕ) (by : Seen) (numbers : List ℕ) (has : HasRowsOf old.rows piece numbers)
    (cells : ReplacesCells old.rows new.rows piece by) where
  same_value : (o : Option Seen) → ¬ (o ≡ Some (Piece piece)) → option_map (instead piece by) o ≡ o
  same_value None other = refl
  same_value (Some v) other = ap Some (instead_else piece by v (λ e. other (ap Some e)))

  pub replaced_keeps : (more : List ℕ) → ((n : ℕ) → Contains numbers n → Contains more n) → KeepsShared more old.rows new.rows
  replaced_keeps more within number other row before t out at instant there had =
      let apart : ¬ (Contains numbers number) = λ c. out (within number c) in
      let was : row_at old.rows number ≡ Some row = sym (others_same old new piece by numbers has cells number apart) ∙ at in
      let none = not_held old piece numbers has number row was apart in
      record {
        heir = other;
        later = row_instead piece by before;
        which = inl refl;
        there = cells other ∙ ap (option_map (row_instead piece by)) there;
        instant = had;
        relation = refl;
        arity = length-map before.cells (instead piece by);
        cells = λ column same. slice_get-map (instead piece by) before.cells column
            ∙ same_value (slice_get before.cells column)
            (λ e. none (contains_from_at row.cells column (Piece piece) (sym same ∙ e)))
            ∙ same;
      }

-- after the cuts and the replacement
pub all_keep : (old cut new : Store) (made rows : List ℕ) → KeepsShared made old.rows cut.rows → KeepsShared rows cut.rows new.rows
    → HaveSpans cut.rows → ((number : ℕ) → ¬ (Contains rows number) → row_at new.rows number ≡ row_at cut.rows number)
    → All (Contains rows) made → KeepsShared rows old.rows new.rows
all_keep old cut new made rows first second spans same within = keeps_twice made rows rows old.rows cut.rows new.rows
    (λ n c. All-contains (Contains rows) made n within c) (λ n c. c) first second (change_these rows cut.rows new.rows spans same)

-- two changes that were noted one after the other
pub more_keep : (first second : List ℕ) (old mid new : List (Option SeenRow)) → KeepsShared first old mid → KeepsShared second mid new
    → ChangeOnly second mid new → KeepsShared (first ++ second) old new
more_keep first second old mid new = keeps_twice first second (first ++ second) old mid new
    (λ n c. Contains-append_left first second n c) (λ n c. Contains-append_right first second n c)
