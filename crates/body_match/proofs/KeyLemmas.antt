-- Keys, and that a row which may be chosen next is found under its key.
use Rattle.std.proofs.Common.{◌≡◌, ℕ, ℤ, ◌-◌, ◌<◌, ◌≤◌, ◌<ℤ◌, ◌≤ℤ◌, arith, Option, Some, None, List, [], ◌∷◌, ◌++◌, length, fold, refl, sym, ap, ◌∙◌, subst, All, Contains, get_or}
use Rattle.std.specs.Prelude.{slice_get, IsSome}
use Rattle.std.specs.Option.{option_and_then}
use Rattle.std.proofs.lemmas.Option.{get_or_from_slice_get}
use Rattle.std.proofs.lemmas.Bool.{false≢true}
use Rattle.std.proofs.lemmas.Int.{ints}
use Rattle.std.proofs.lemmas.List.{length-map}
use Rattle.std.proofs.lemmas.List.Elements.{Contains-get_or}
use Rattle.time_line.specs.Span.{Ends, Has, IsSpan}
use Rattle.term_core.specs.declared.term.Seen.{Seen}
use Rattle.rule_core.specs.declared.rules.Arg.{Arg}
use Rattle.rule_core.specs.declared.rules.Arg.TheVariants.{Var, Const}
use Rattle.rule_core.specs.declared.rules.Atom.{Atom}
use Rattle.rule_core.proofs.ListLemmas.{Contains-head, Contains-cons}
use Rattle.fact_table.specs.Rows.{SeenRow, row_at, cell_at}
use Rattle.body_match.specs.declared.found.Match.{Match}
use Rattle.body_match.specs.declared.levels.Level.{Level}
use Rattle.body_match.specs.declared.lookup.Probe.{Probe}
use Rattle.body_match.specs.Matches.{seen_value, IsImage}
use Rattle.body_match.specs.Lookup.{HasSought}
use Rattle.body_match.specs.Keys.{mixed_some, key_of, IsBound, AreBound, start_number, stop_number}
use Rattle.body_match.specs.Search.{Task, IsFindable, IsTask, ListsAll, placed_value, value_in, IsPartial, IsListedFrom, HasNext}
use Rattle.body_match.proofs.ListLemmas.{at_within, within_from_at, at_front, at_seam}
use Rattle.body_match.proofs.EndsLemmas.{meeting_ends}
use Rattle.body_match.proofs.SearchLemmas.{some_and, same_some, image_cell, placed_var, next_image, next_agrees, next_meets}

-- instants in order
no_later : (a b c : ℤ) → a ≤ℤ b → b <ℤ c → a <ℤ c
no_later a b c p q = omega (arith, ints)

no_earlier : (a b c : ℤ) → a <ℤ b → b ≤ℤ c → a <ℤ c
no_earlier a b c p q = omega (arith, ints)

keys_same : (f g : ℕ → Option Seen) (columns : List ℕ) (key : ℕ) → ((column : ℕ) → Contains columns column → f column ≡ g column)
    → fold (λ key column. mixed_some key (f column)) key columns ≡ fold (λ key column. mixed_some key (g column)) key columns
keys_same f g [] key same = refl
keys_same f g (column ∷ columns) key same =
    ap (λ cell. fold (λ key column. mixed_some key (f column)) (mixed_some key cell) columns) (same column (Contains-head column columns))
    ∙ keys_same f g columns (mixed_some key (g column)) (λ c h. same c (Contains-cons column c columns h))

-- the same cells have the same key
pub key_same : (f g : ℕ → Option Seen) (columns : List ℕ) → ((column : ℕ) → Contains columns column → f column ≡ g column)
    → key_of f columns ≡ key_of g columns
key_same f g columns same = keys_same f g columns 0 same

-- where each row is listed, each match can be found
pub all_findable : (task : Task) → ListsAll task → (found : Match) → IsFindable task found
all_findable task lists found before number some e = lists number

-- a row that has a number is one of the rows
pub number_within : (rows : List (Option SeenRow)) (number : ℕ) (row : SeenRow) → row_at rows number ≡ Some row → number < length rows
number_within rows number row e = by_read (slice_get rows number) refl e
  where
    by_read : (o : Option (Option SeenRow)) → slice_get rows number ≡ o → option_and_then (λ r. r) o ≡ Some row → number < length rows
    by_read None f h = absurd cc
    by_read (Some r) f h = within_from_at rows number r f

module _ (task : Task) (ok : IsTask task) (chosen : List ℕ) (span : Ends) (partial : IsPartial task chosen span) where
  -- what a bound argument stands for is told by the chosen rows
  pub bound_placed : (arg : Arg) → IsBound task.places (length chosen) arg → IsSome (placed_value task chosen arg)
  bound_placed (Const c) b = refl
  bound_placed (Var v) b =
      let n = at_within chosen b.0.atom b.2 in
      let first = (ok.places.each v b.0 b.1).there in
      let cell = image_cell task.rows (placed_value task chosen) first.0 n.0 b.0.column (Var v)
      (partial.images b.0.atom n.0 first.0 first.1 n.1) first.2 in
      subst (λ (o : Option Seen). IsSome o) (sym cell.2) refl

  -- and stays so when one more is chosen
  bound_stays : (number : ℕ) (arg : Arg) → IsBound task.places (length chosen) arg
      → placed_value task (chosen ++ number ∷ []) arg ≡ placed_value task chosen arg
  bound_stays number (Const c) b = refl
  bound_stays number (Var v) b =
      let n = at_within chosen b.0.atom b.2 in
      placed_var task ok (chosen ++ number ∷ []) v n.0 b.0 b.1 (at_front chosen (number ∷ []) b.0.atom n.0 n.1)
      ∙ sym (placed_var task ok chosen v n.0 b.0 b.1 n.1)

  module _ (atom : Atom) (next : slice_get task.body (length chosen) ≡ Some atom) (columns : List ℕ)
      (bound : AreBound task.places (length chosen) atom columns) where
    pub values_there : All (λ column. IsSome (value_in task chosen atom column)) columns
    values_there k d l =
        let b = bound (get_or columns k d) (Contains-get_or columns k d l) in
        subst (λ (o : Option Arg). IsSome (option_and_then (placed_value task chosen) o)) (sym b.1) (bound_placed b.0 b.2)

    -- the cells of a row that may be chosen next are what the chosen rows say
    same_cells : (found : Match) (number : ℕ) → IsListedFrom task (chosen ++ number ∷ []) found → (column : ℕ) → Contains columns column
        → cell_at task.rows number column ≡ value_in task chosen atom column
    same_cells found number h column c =
        let b = bound column c in
        next_agrees task ok chosen span partial number atom next found h column b.0 b.1 ∙ bound_stays number b.0 b.2
        ∙ sym (ap (option_and_then (placed_value task chosen)) b.1)

    -- so a look-up finds all rows that are listed and may be chosen next
    pub finds_next : (level : Level) (probe : Probe) (rows : List ℕ) → level.columns.items ≡ columns → 1 ≤ length chosen
        → slice_get task.levels (length chosen - 1) ≡ Some level → probe.key ≡ key_of (value_in task chosen atom) columns
        → probe.from ≡ start_number span.lo → probe.to ≡ stop_number span.hi → IsSpan span
        → HasSought level.listed probe rows → HasNext task chosen rows
    finds_next level probe rows read some here key from to is_span sought found number h can_find =
        let image = some_and (IsImage (seen_value found.binding) atom) (row_at task.rows number)
        (next_image task ok chosen span partial number atom next found h) in
        let arity = sym (length-map image.0.cells Some) ∙ ap length image.2.cells ∙ length-map atom.args (seen_value found.binding) in
        let at : slice_get found.rows (length chosen) ≡ Some number = ap (λ l. slice_get l (length chosen)) h.1.1
        ∙ at_front (chosen ++ number ∷ []) h.1.0 (length chosen) number (at_seam chosen number []) in
        let listed = can_find (length chosen) number some at (length chosen) atom level some next here image.0
        (record { there = image.1; relation = image.2.relation; arity = arity }) in
        let entry = listed.2 in
        let meets = next_meets task ok chosen span partial number atom next found h in
        let holds = some_and (λ (r : SeenRow). Has r.span meets.0) (row_at task.rows number) meets.2 in
        let in_row : Has image.0.span meets.0 = subst (λ (r : SeenRow). Has r.span meets.0)
        (same_some (row_at task.rows number) holds.0 image.0 holds.1 image.1) holds.2 in
        let start = meeting_ends image.0.span span entry.span is_span meets.0 in_row meets.1 in
        let stop = meeting_ends span image.0.span is_span entry.span meets.0 meets.1 in_row in
        subst (Contains rows) entry.row (sought listed.0 listed.1 (record {
          key = entry.key ∙ ap (key_of (cell_at task.rows number)) read
              ∙ key_same (cell_at task.rows number) (value_in task chosen atom) columns (same_cells found number h) ∙ sym key;
          from = no_later listed.0.from (start_number image.0.span.lo) probe.to entry.from
              (subst (λ (x : ℤ). start_number image.0.span.lo <ℤ x) (sym to) start);
          to = subst (λ (x : ℤ). x <ℤ listed.0.to) (sym from)
              (no_earlier (start_number span.lo) (stop_number image.0.span.hi) listed.0.to stop entry.to);
        }))

-- what an argument stands for, as the code reads it
pub value_read : (task : Task) (chosen : List ℕ) (atom : Atom) (args : List Arg) (column : ℕ) (cell : Seen) → args ≡ atom.args
    → IsSome (value_in task chosen atom column) → placed_value task chosen (get_or args column (Var 0)) ≡ Some cell
    → value_in task chosen atom column ≡ Some cell
value_read task chosen atom args column cell read some e = by_read (slice_get atom.args column) refl some
  where
    by_read : (o : Option Arg) → slice_get atom.args column ≡ o → IsSome (option_and_then (placed_value task chosen) o)
        → value_in task chosen atom column ≡ Some cell
    by_read None f h = absurd (false≢true h)
    by_read (Some arg) f h =
        let same : get_or args column (Var 0) ≡ arg =
        ap (λ (l : List Arg). get_or l column (Var 0)) read ∙ get_or_from_slice_get atom.args column arg (Var 0) f in
        ap (option_and_then (placed_value task chosen)) f ∙ ap (placed_value task chosen) (sym same) ∙ e
