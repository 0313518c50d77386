-- Matches in the rows of a store, and matches of its facts over a common time.
use Rattle.std.proofs.Common.{◌≡◌, ◌≢◌, ◌⊎◌, inl, inr, ◌↔◌, ℕ, ℤ, zero, suc, ◌<◌, Option, Some, None, List, [], ◌∷◌, ◌++◌, length, map, refl, sym, ap, ◌∙◌, subst, arith, All, Contains}
use Rattle.std.specs.Prelude.{slice_get, IsSomeAnd}
use Rattle.std.specs.List.{AllZip, filter_map}
use Rattle.std.specs.Option.{option_map, option_map_or}
use Rattle.std.proofs.lemmas.Bool.{cases_eq}
use Rattle.std.proofs.lemmas.List.{length-map, length_push}
use Rattle.std.proofs.lemmas.List.Elements.{All-nil, All-cons, All-head, All-tail, All-contains}
use Rattle.std.proofs.lemmas.Option.{get_or_from_slice_get}
use Rattle.time_line.specs.Span.{Ends, Has}
use Rattle.term_core.specs.declared.const_id.ConstId.{ConstId}
use Rattle.term_core.specs.declared.term.Seen.{Seen}
use Rattle.term_core.specs.declared.term.Seen.TheVariants as cells
use Rattle.rule_core.specs.declared.rules.Arg.{Arg}
use Rattle.rule_core.specs.declared.rules.Arg.TheVariants.{Var, Const}
use Rattle.rule_core.specs.declared.rules.Atom.{Atom}
use Rattle.rule_core.specs.declared.rules.Egd.{Egd}
use Rattle.rule_core.specs.declared.rules.Relation.{Relation}
use Rattle.rule_core.specs.Terms.{TermOf, constant, unknown, numbered, FactOf}
use Rattle.rule_core.specs.Match.{value, image}
use Rattle.rule_core.specs.Mapping.{RuleSet}
use Rattle.rule_core.specs.Values.{unknown_value}
use Rattle.rule_core.specs.Validity.{IsEgd}
use Rattle.rule_core.proofs.ListLemmas.{Contains-cons_cases, Contains-nil, All-members}
use Rattle.fact_table.specs.Rows.{SeenRow, row_at}
use Rattle.body_match.specs.declared.found.Match.{Match}
use Rattle.body_match.specs.Matches.{seen_value, IsImage, IsImageAt, HoldsAt, IsMatch}
use Rattle.body_match.proofs.ListLemmas.{at_within, within_from_at, contains_from_at, at_from_contains, at_map, at_from_map, at_push, same_at_each, maps_at, maps_from_each, zip_at, zip_length, zip_from_each}
use Rattle.body_match.proofs.PlaceLemmas.{atom_from_occurs, occurs_from_atom}
use Rattle.body_match.proofs.SearchLemmas.{some_and, and_some, same_some}
use Rattle.failure_trace.specs.Equating.{bound_to, AreClashing}
use Rattle.failure_trace.specs.JournalRun.{RowOf, MatchesOver, left_of, right_of}
use Rattle.null_store.specs.Store.{Store, IsStore, IsLiveOver, PieceOf, piece_at, term_in, fact_in, facts_in}
use Rattle.null_store.proofs.ListLemmas.{held_contains}
use Rattle.null_store.proofs.LawLemmas.{one_cell}
use Rattle.egd_chase.specs.Search.{IsUnequalMatch, NoneIsUnequal}
use Rattle.egd_chase.specs.Settling.{AreSettled}
use Rattle.egd_chase.specs.Sides.{match_terms, IsHeld, IsConstant, IsConstantIn, IsUnknownTerm, HoldsSide}

-- what a binding's term is, where the place is one of the list
pub bound_at : (terms : List (TermOf ConstId)) (v : ℕ) (term : TermOf ConstId) → slice_get terms v ≡ Some term → bound_to terms v ≡ term
bound_at terms v term e = get_or_from_slice_get terms v term (unknown (numbered 0)) e

-- a row that is an atom's image has a cell for each argument
image_size : (binding : List Seen) (atom : Atom) (row : SeenRow) → IsImage (seen_value binding) atom row
    → length row.cells ≡ length atom.args
image_size binding atom row h =
    sym (length-map row.cells Some) ∙ ap length h.cells ∙ length-map atom.args (seen_value binding)

-- and in the column of a variable the variable's value
cell_there : (binding : List Seen) (atom : Atom) (row : SeenRow) → IsImage (seen_value binding) atom row
    → (j v : ℕ) → slice_get atom.args j ≡ Some (Var v)
    → (cell : Seen) × (slice_get row.cells j ≡ Some cell) × (slice_get binding v ≡ Some cell)
cell_there binding atom row h j v e =
    let below : j < length row.cells = omega (arith, image_size binding atom row h, within_from_at atom.args j (Var v) e) in
    let at = at_within row.cells j below in
    (at.0, at.1, sym (maps_at Some (seen_value binding) row.cells atom.args h.cells j at.0 (Var v) at.1 e))

module _ (store : Store) where
  -- a value's term
  pub value_bound : (binding : List Seen) (v : ℕ) (cell : Seen) → slice_get binding v ≡ Some cell
      → bound_to (map (term_in store) binding) v ≡ term_in store cell
  value_bound binding v cell e =
      bound_at (map (term_in store) binding) v (term_in store cell) (at_map (term_in store) binding v cell e)

  -- the row of an atom has the atom's image as its fact
  pub image_fact : (binding : List Seen) (atom : Atom) (row : SeenRow) → IsImage (seen_value binding) atom row
      → (fact_in store row).row ≡ image (λ c. c) (bound_to (map (term_in store) binding)) atom
  image_fact binding atom row h = λ i. record { relation = h.relation i; terms = terms i }
    where
      term_of : Arg → TermOf ConstId
      term_of arg = value (λ c. c) (bound_to (map (term_in store) binding)) arg

      by_arg : (arg : Arg) (cell : Seen) → Some cell ≡ seen_value binding arg → term_in store cell ≡ term_of arg
      by_arg (Const c) cell e = let same : cell ≡ cells.Const c = cc in ap (term_in store) same
      by_arg (Var v) cell e = sym (value_bound binding v cell (sym e))

      terms : map (term_in store) row.cells ≡ map term_of atom.args
      terms =
          maps_from_each (term_in store) term_of row.cells atom.args (image_size binding atom row h)
          (λ j cell arg p q. by_arg arg cell (maps_at Some (seen_value binding) row.cells atom.args h.cells j cell arg p q))

-- facts side by side with the numbers of their rows
abbrev IsRowOf : Store → RowOf ConstId → ℕ → Type 0
IsRowOf store fact number = (row : SeenRow) × (row_at store.rows number ≡ Some row) × (fact_in store row ≡ fact)

-- the fact of a row has an instant exactly where its row has
holds_over : (store : Store) (t : ℤ) (fact : RowOf ConstId) (number : ℕ) → IsRowOf store fact number
    → Has fact.span t ↔ HoldsAt store.rows t number
holds_over store t fact number h = (
  λ has. and_some (λ (r : SeenRow). Has r.span t) (row_at store.rows number) h.0 h.1
      (subst (λ (e : RowOf ConstId). Has e.span t) (sym h.2) has),
  λ holds.
      let there = some_and (λ (r : SeenRow). Has r.span t) (row_at store.rows number) holds in
      let same = same_some (row_at store.rows number) there.0 h.0 there.1 h.1 in
      subst (λ (e : RowOf ConstId). Has e.span t) h.2 (subst (λ (r : SeenRow). Has r.span t) same there.2),
)

hold_over : (store : Store) (t : ℤ) (facts : List (RowOf ConstId)) (numbers : List ℕ) → AllZip (IsRowOf store) facts numbers
    → All (λ r. Has r.span t) facts ↔ All (HoldsAt store.rows t) numbers
hold_over store t [] [] h = (λ _. All-nil (HoldsAt store.rows t), λ _. All-nil (λ (r : RowOf ConstId). Has r.span t))
hold_over store t [] (n ∷ numbers) h = absurd h
hold_over store t (fact ∷ facts) [] h = absurd h
hold_over store t (fact ∷ facts) (n ∷ numbers) h =
    let first = holds_over store t fact n h.0 in
    let rest = hold_over store t facts numbers h.1 in (
      λ all. All-cons (HoldsAt store.rows t) n numbers (first.0 (All-head (λ (r : RowOf ConstId). Has r.span t) fact facts all))
          (rest.0 (All-tail (λ (r : RowOf ConstId). Has r.span t) fact facts all)),
      λ all. All-cons (λ (r : RowOf ConstId). Has r.span t) fact facts (first.1 (All-head (HoldsAt store.rows t) n numbers all))
          (rest.1 (All-tail (HoldsAt store.rows t) n numbers all)),
    )

-- the facts of a match's rows
record HasFacts (store : Store) (binding : List Seen) (atoms : List Atom) (numbers : List ℕ) : Type 0 where
  facts : List (RowOf ConstId)
  present : All (Contains (facts_in store)) facts
  images : map (λ r. r.row) facts ≡ map (image (λ c. c) (bound_to (map (term_in store) binding))) atoms
  rows : AllZip (IsRowOf store) facts numbers

has_facts : (store : Store) (binding : List Seen) (atoms : List Atom) (numbers : List ℕ)
    → AllZip (IsImageAt store.rows (seen_value binding)) atoms numbers → HasFacts store binding atoms numbers
has_facts store binding [] [] h = record { facts = []; present = All-nil (Contains (facts_in store)); images = refl; rows = tt }
has_facts store binding [] (n ∷ numbers) h = absurd h
has_facts store binding (atom ∷ atoms) [] h = absurd h
has_facts store binding (atom ∷ atoms) (n ∷ numbers) h =
    let there = some_and (IsImage (seen_value binding) atom) (row_at store.rows n) h.0 in
    let first = image_fact store binding atom there.0 there.2 in
    let rest = has_facts store binding atoms numbers h.1 in
    record {
      facts = fact_in store there.0 ∷ rest.facts;
      present = All-cons (Contains (facts_in store)) (fact_in store there.0) rest.facts
          (held_contains (fact_in store) store.rows n there.0 there.1) rest.present;
      images = λ i. first i ∷ rest.images i;
      rows = ((there.0, there.1, refl), rest.rows);
    }

-- a match of rows is one of their facts
pub match_is_over : (store : Store) (egd : Egd) (found : Match) → IsMatch egd.body (length egd.vars) store.rows found
    → MatchesOver (λ c. c) (facts_in store) egd (match_terms store found) found.span
match_is_over store egd found h =
    let has = has_facts store found.binding egd.body found.rows h.images in
    record {
      size = length-map found.binding (term_in store) ∙ h.values;
      rows = has.facts;
      present = has.present;
      images = has.images;
      instant = h.instant;
      common = λ t.
          let same = hold_over store t has.facts found.rows has.rows in
          (λ t_has. same.1 ((h.common t).0 t_has), λ all. (h.common t).1 (same.0 all));
    }

-- the cell stands in a row that has the instant
record Stands (store : Store) (t : ℤ) (cell : Seen) : Type 0 where
  number : ℕ
  row : SeenRow
  there : row_at store.rows number ≡ Some row
  has : Has row.span t
  within : Contains row.cells cell

-- two of one instant are the same where they are one term
same_cell : (store : Store) → IsStore store → (t : ℤ) (a b : Seen) → Stands store t a → Stands store t b
    → term_in store a ≡ term_in store b → a ≡ b
same_cell store ok t a b x y e =
    one_cell store ok x.row.span y.row.span (t, x.has, y.has) a b
    (All-contains (IsLiveOver store x.row.span) x.row.cells a (ok.live x.number x.row x.there) x.within)
    (All-contains (IsLiveOver store y.row.span) y.row.cells b (ok.live y.number y.row y.there) y.within) e

-- a match's row for an atom
record RowFor (rows : List (Option SeenRow)) (found : Match) (k : ℕ) (atom : Atom) : Type 0 where
  number : ℕ
  row : SeenRow
  at : slice_get found.rows k ≡ Some number
  there : row_at rows number ≡ Some row
  image : IsImage (seen_value found.binding) atom row
  covers : (t : ℤ) → Has found.span t → Has row.span t

row_for_atom : (body : List Atom) (vars : ℕ) (rows : List (Option SeenRow)) (found : Match) → IsMatch body vars rows found
    → (k : ℕ) (atom : Atom) → slice_get body k ≡ Some atom → RowFor rows found k atom
row_for_atom body vars rows found h k atom e =
    let z = zip_at (IsImageAt rows (seen_value found.binding)) body found.rows h.images k atom e in
    let here = some_and (IsImage (seen_value found.binding) atom) (row_at rows z.0) z.2 in
    record {
      number = z.0;
      row = here.0;
      at = z.1;
      there = here.1;
      image = here.2;
      covers = λ t has.
          let holds = some_and (λ (r : SeenRow). Has r.span t) (row_at rows z.0)
          (All-contains (HoldsAt rows t) found.rows z.0 ((h.common t).0 has) (contains_from_at found.rows k z.0 z.1)) in
          subst (λ (r : SeenRow). Has r.span t) (same_some (row_at rows z.0) holds.0 here.0 holds.1 here.1) holds.2;
    }

-- the value of a variable stands in a row of the match
module _ (store : Store) (relations : List Relation) (egd : Egd) (is : IsEgd relations egd) (found : Match)
    (h : IsMatch egd.body (length egd.vars) store.rows found) where
  value_stands : (t : ℤ) → Has found.span t → (v : ℕ) (cell : Seen) → slice_get found.binding v ≡ Some cell → Stands store t cell
  value_stands t has v cell e =
      let below : v < length egd.vars = omega (arith, within_from_at found.binding v cell e, h.values) in
      let a = atom_from_occurs egd.body v ((is.body_vars.same v).1 below) in
      let j = at_from_contains a.1.args (Var v) a.3 in
      let r = row_for_atom egd.body (length egd.vars) store.rows found h a.0 a.1 a.2 in
      let at = cell_there found.binding a.1 r.row r.image j.0 v j.1 in
      let same : at.0 ≡ cell = same_some (slice_get found.binding v) at.0 cell at.2 e in
      record {
        number = r.number;
        row = r.row;
        there = r.there;
        has = r.covers t has;
        within = subst (Contains r.row.cells) same (contains_from_at r.row.cells j.0 at.0 at.1);
      }

  -- different values are different terms
  pub values_differ : IsStore store → (v w : ℕ) (a b : Seen) → slice_get found.binding v ≡ Some a → slice_get found.binding w ≡ Some b
      → a ≢ b → ¬ (term_in store a ≡ term_in store b)
  values_differ ok v w a b p q differ e =
      let t = h.instant in
      differ (same_cell store ok t.0 a b (value_stands t.0 t.1 v a p) (value_stands t.0 t.1 w b q) e)

  -- each value is a constant or a live piece
  pub values_held : IsStore store → All (IsHeld store) found.binding
  values_held ok v d l =
      let t = h.instant in
      let at = at_within found.binding v l in
      let s = value_stands t.0 t.1 v at.0 at.1 in
      subst (IsHeld store) (sym (get_or_from_slice_get found.binding v at.0 d at.1))
      (held_cell at.0 s.row.span (All-contains (IsLiveOver store s.row.span) s.row.cells at.0 (ok.live s.number s.row s.there) s.within))
    where
      held_cell : (cell : Seen) (span : Ends) → IsLiveOver store span cell → IsHeld store cell
      held_cell (cells.Const c) span live = tt
      held_cell (cells.Piece p) span live =
          let piece = some_and (λ (q : PieceOf). q.span ≡ span) (piece_at store p) live in
          and_some (λ (q : PieceOf). Unit {0}) (piece_at store p) piece.0 piece.1 tt

-- the cell of a variable in the row of an atom
pub side_there : (store : Store) (body : List Atom) (vars : ℕ) (found : Match) → IsMatch body vars store.rows found
    → (at column v number : ℕ) (atom : Atom) → slice_get body at ≡ Some atom → slice_get atom.args column ≡ Some (Var v)
    → slice_get found.rows at ≡ Some number
    → HoldsSide store (bound_to (match_terms store found) v) found.span (record { row = number; column = column })
side_there store body vars found h at column v number atom e is there =
    let r = row_for_atom body vars store.rows found h at atom e in
    let same : r.number ≡ number = same_some (slice_get found.rows at) r.number number r.at there in
    let cell = cell_there found.binding atom r.row r.image column v is in
    record {
      row = r.row;
      there = ap (row_at store.rows) (sym same) ∙ r.there;
      term_is = at_map (term_in store) r.row.cells column cell.0 cell.1
          ∙ ap (λ x. Some x) (sym (value_bound store found.binding v cell.0 cell.2));
      covers = r.covers;
    }

-- the rows of facts that are there
rows_of_facts : (store : Store) (facts : List (RowOf ConstId)) → All (Contains (facts_in store)) facts
    → (numbers : List ℕ) × AllZip (IsRowOf store) facts numbers
rows_of_facts store [] h = ([], tt)
rows_of_facts store (fact ∷ facts) h =
    let first = row_of_fact store.rows (All-head (Contains (facts_in store)) fact facts h) in
    let rest = rows_of_facts store facts (All-tail (Contains (facts_in store)) fact facts h) in
    (first.0 ∷ rest.0, (first.1, rest.1))
  where
    row_of_fact : (rows : List (Option SeenRow)) → Contains (filter_map (option_map (fact_in store)) rows) fact
        → (number : ℕ) × ((row : SeenRow) × (row_at rows number ≡ Some row) × (fact_in store row ≡ fact))
    row_of_fact [] c = absurd (Contains-nil fact c)
    row_of_fact (None ∷ rows) c = let k = row_of_fact rows c in (suc k.0, k.1)
    row_of_fact (Some row ∷ rows) c = elim (Contains-cons_cases (fact_in store row) fact (filter_map (option_map (fact_in store)) rows) c) [
      | inl e ↦ (0, (row, refl, e))
      | inr d ↦ let k = row_of_fact rows d in (suc k.0, k.1)
    ]

-- a list in which each place below the size has what is wanted there
listed_each : {X : Type 0} (P : ℕ → X → Type 0) (n : ℕ) → ((v : ℕ) → v < n → (x : X) × P v x)
    → (list : List X) × (length list ≡ n) × ((v : ℕ) (x : X) → slice_get list v ≡ Some x → P v x)
listed_each P zero each = ([], refl, λ v x e. absurd cc)
listed_each P (suc n) each =
    let before = listed_each P n (λ v l. each v (omega (arith, l))) in
    let last = each n (omega arith) in (
      before.0 ++ last.0 ∷ [],
      omega (arith, before.1, length_push before.0 last.0),
      λ v x e. elim (at_push before.0 last.0 v x e) [
        | inl h ↦ before.2 v x h
        | inr h ↦ subst (λ w. P w x) (sym (h.0 ∙ before.1)) (subst (P n) h.1 last.1)
      ],
    )

-- a constant's term is no other cell's
shows_constant : (store : Store) (cell : Seen) (c : ConstId) → term_in store cell ≡ constant c → cell ≡ cells.Const c
shows_constant store (cells.Const d) c e = let same : d ≡ c = cc in ap (λ x. cells.Const x) same
shows_constant store (cells.Piece p) c e = by (piece_at store p) e
  where
    by : (o : Option PieceOf) → option_map_or (λ piece. unknown (unknown_value piece.unknown)) o (unknown (numbered p)) ≡ constant c
        → cells.Piece p ≡ cells.Const c
    by None f = absurd cc
    by (Some piece) f = absurd cc

-- and a match of facts is one of rows
module _ (store : Store) (ok : IsStore store) (relations : List Relation) (egd : Egd) (is : IsEgd relations egd)
    (terms : List (TermOf ConstId)) (c : Ends) (over : MatchesOver (λ k. k) (facts_in store) egd terms c) where
  abbrev term_of : Arg → TermOf ConstId
  term_of arg = value (λ k. k) (bound_to terms) arg

  chosen : (numbers : List ℕ) × AllZip (IsRowOf store) over.rows numbers
  chosen = rows_of_facts store over.rows over.present

  abbrev t : ℤ
  t = over.instant.0

  all_hold : All (HoldsAt store.rows t) chosen.0
  all_hold = (hold_over store t over.rows chosen.0 chosen.1).0 ((over.common t).0 over.instant.1)

  facts_size : length over.rows ≡ length egd.body
  facts_size =
      sym (length-map over.rows (λ (r : RowOf ConstId). r.row)) ∙ ap length over.images
      ∙ length-map egd.body (image (λ k. k) (bound_to terms))

  -- the row for an atom
  row_for : (k : ℕ) (atom : Atom) → slice_get egd.body k ≡ Some atom
      → (n : ℕ) × (slice_get chosen.0 k ≡ Some n)
      × ((row : SeenRow) × (row_at store.rows n ≡ Some row) × ((fact_in store row).row ≡ image (λ k. k) (bound_to terms) atom))
  row_for k atom e =
      let fact = at_within over.rows k (omega (arith, facts_size, within_from_at egd.body k atom e)) in
      let z = zip_at (IsRowOf store) over.rows chosen.0 chosen.1 k fact.0 fact.1 in
      let shows = maps_at (λ (r : RowOf ConstId). r.row) (image (λ k. k) (bound_to terms)) over.rows egd.body over.images k fact.0 atom fact.1 e in
      (z.0, z.1, (z.2.0, z.2.1, ap (λ (r : RowOf ConstId). r.row) z.2.2 ∙ shows))

  -- its cells have the terms of the arguments
  arity : (atom : Atom) (row : SeenRow) → (fact_in store row).row ≡ image (λ k. k) (bound_to terms) atom
      → length row.cells ≡ length atom.args
  arity atom row e =
      sym (length-map row.cells (term_in store)) ∙ ap (λ (f : FactOf ConstId). length f.terms) e ∙ length-map atom.args term_of

  shown : (atom : Atom) (row : SeenRow) → (fact_in store row).row ≡ image (λ k. k) (bound_to terms) atom
      → (j : ℕ) (cell : Seen) (arg : Arg) → slice_get row.cells j ≡ Some cell → slice_get atom.args j ≡ Some arg
      → term_in store cell ≡ term_of arg
  shown atom row e j cell arg p q =
      maps_at (term_in store) term_of row.cells atom.args (ap (λ (f : FactOf ConstId). f.terms) e) j cell arg p q

  stands : (n : ℕ) (row : SeenRow) (cell : Seen) → Contains chosen.0 n → row_at store.rows n ≡ Some row → Contains row.cells cell
      → Stands store t cell
  stands n row cell d e within =
      let holds = some_and (λ (r : SeenRow). Has r.span t) (row_at store.rows n)
      (All-contains (HoldsAt store.rows t) chosen.0 n all_hold d) in
      record {
        number = n;
        row = row;
        there = e;
        has = subst (λ (r : SeenRow). Has r.span t) (same_some (row_at store.rows n) holds.0 row holds.1 e) holds.2;
        within = within;
      }

  -- a cell for each variable
  abbrev IsFor : ℕ → Seen → Type 0
  IsFor v cell = (term_in store cell ≡ bound_to terms v) × Stands store t cell

  cell_for : (v : ℕ) → v < length egd.vars → (cell : Seen) × IsFor v cell
  cell_for v below =
      let a = atom_from_occurs egd.body v ((is.body_vars.same v).1 below) in
      let j = at_from_contains a.1.args (Var v) a.3 in
      let r = row_for a.0 a.1 a.2 in
      let size = arity a.1 r.2.0 r.2.2 in
      let at = at_within r.2.0.cells j.0 (omega (arith, size, within_from_at a.1.args j.0 (Var v) j.1)) in (
        at.0,
        (
          shown a.1 r.2.0 r.2.2 j.0 at.0 (Var v) at.1 j.1,
          stands r.0 r.2.0 at.0 (contains_from_at chosen.0 a.0 r.0 r.1) r.2.1 (contains_from_at r.2.0.cells j.0 at.0 at.1),
        ),
      )

  values : (list : List Seen) × (length list ≡ length egd.vars) × ((v : ℕ) (cell : Seen) → slice_get list v ≡ Some cell → IsFor v cell)
  values = listed_each IsFor (length egd.vars) cell_for

  image_found : (k n : ℕ) (atom : Atom) → slice_get egd.body k ≡ Some atom → slice_get chosen.0 k ≡ Some n
      → IsImageAt store.rows (seen_value values.0) atom n
  image_found k n atom e at =
      let r = row_for k atom e in
      let same = same_some (slice_get chosen.0 k) r.0 n r.1 at in
      let row = r.2.0 in
      let there : row_at store.rows n ≡ Some row = ap (row_at store.rows) (sym same) ∙ r.2.1 in
      and_some (IsImage (seen_value values.0) atom) (row_at store.rows n) row there (record {
        relation = ap (λ (f : FactOf ConstId). f.relation) r.2.2;
        cells = maps_from_each Some (seen_value values.0) row.cells atom.args (arity atom row r.2.2)
            (λ j cell arg p q. by_arg row there j cell arg p q (shown atom row r.2.2 j cell arg p q));
      })
    where
      by_arg : (row : SeenRow) → row_at store.rows n ≡ Some row → (j : ℕ) (cell : Seen) (arg : Arg) → slice_get row.cells j ≡ Some cell
          → slice_get atom.args j ≡ Some arg → term_in store cell ≡ term_of arg → Some cell ≡ seen_value values.0 arg
      by_arg row there j cell (Const k) p q s = ap (λ x. Some x) (shows_constant store cell k s)
      by_arg row there j cell (Var v) p q s =
          let below = (is.body_vars.same v).0 (occurs_from_atom egd.body v k atom e (contains_from_at atom.args j (Var v) q)) in
          let other = at_within values.0 v (omega (arith, below, values.1)) in
          let for_it = values.2 v other.0 other.1 in
          ap (λ x. Some x) (same_cell store ok t cell other.0
          (stands n row cell (contains_from_at chosen.0 k n at) there (contains_from_at row.cells j cell p)) for_it.1 (s ∙ sym for_it.0))
          ∙ sym other.1

  pub over_is_match : (found : Match) × IsMatch egd.body (length egd.vars) store.rows found × (match_terms store found ≡ terms)
  over_is_match = (
    record { rows = chosen.0; binding = values.0; span = c },
    record {
      images = zip_from_each (IsImageAt store.rows (seen_value values.0)) egd.body chosen.0
          (sym facts_size ∙ zip_length (IsRowOf store) over.rows chosen.0 chosen.1) (λ k atom n e at. image_found k n atom e at);
      values = values.1;
      common = λ u.
          let same = hold_over store u over.rows chosen.0 chosen.1 in
          (λ has. same.0 ((over.common u).0 has), λ all. (over.common u).1 (same.1 all));
      instant = over.instant;
    },
    same_at_each (map (term_in store) values.0) terms (length-map values.0 (term_in store) ∙ values.1 ∙ sym over.size)
        (λ v x y p q.
        let cell = at_from_map (term_in store) values.0 v x p in
        sym cell.2 ∙ (values.2 v cell.0 cell.1).0 ∙ bound_at terms v y q),
  )

-- two values are the same or differ
same_or_not : (a b : Seen) → (a ≡ b) ⊎ (a ≢ b)
same_or_not (cells.Const c) (cells.Const d) = elim (cases_eq c.0 d.0) [
  | inl e ↦ inl (λ i. cells.Const (record { 0 = e i }))
  | inr n ↦ inr (λ e. n cc)
]
same_or_not (cells.Const c) (cells.Piece q) = inr (λ e. cc)
same_or_not (cells.Piece p) (cells.Const d) = inr (λ e. cc)
same_or_not (cells.Piece p) (cells.Piece q) = elim (cases_eq p q) [
  | inl e ↦ inl (ap (λ x. cells.Piece x) e)
  | inr n ↦ inr (λ e. n cc)
]

-- where no match has unequal sides, the rows are settled
pub settled_without_unequal : (store : Store) → IsStore store → (relations : List Relation) (rules : RuleSet)
    → All (IsEgd relations) rules.egds → NoneIsUnequal store.rows rules.egds → AreSettled rules (facts_in store)
settled_without_unequal store ok relations rules are none =
    All-members (IsEgd relations) Settled rules.egds (λ egd there is terms c over. sides_are egd there is terms c over) are
  where
    Settled : Egd → Type 0
    Settled egd = (terms : List (TermOf ConstId)) (c : Ends) → MatchesOver (λ k. k) (facts_in store) egd terms c
        → left_of egd terms ≡ right_of egd terms

    sides_are : (egd : Egd) → Contains rules.egds egd → IsEgd relations egd → Settled egd
    sides_are egd there is terms c over =
        let k = at_from_contains rules.egds egd there in
        let m = over_is_match store ok relations egd is terms c over in
        let found = m.0 in
        let left = at_within found.binding egd.left (omega (arith, is.left, m.1.values)) in
        let right = at_within found.binding egd.right (omega (arith, is.right, m.1.values)) in
        let l : bound_to terms egd.left ≡ term_in store left.0 =
        ap (λ (ts : List (TermOf ConstId)). bound_to ts egd.left) (sym m.2) ∙ value_bound store found.binding egd.left left.0 left.1 in
        let r : bound_to terms egd.right ≡ term_in store right.0 =
        ap (λ (ts : List (TermOf ConstId)). bound_to ts egd.right) (sym m.2) ∙ value_bound store found.binding egd.right right.0 right.1 in
        elim (same_or_not left.0 right.0) [
          | inl e ↦ l ∙ ap (term_in store) e ∙ sym r
          | inr n ↦ absurd (none k.0 egd found k.1 (record {
            match = m.1;
            unequal = λ same. n (same_some (slice_get found.binding egd.right) left.0 right.0 (sym same ∙ left.1) right.1);
          }))
        ]

-- a value by what is known of its variable
constant_there : (found : Match) (v : ℕ) (cell : Seen) → slice_get found.binding v ≡ Some cell → IsConstantIn found v → IsConstant cell
constant_there found v cell e h = subst (λ o. IsSomeAnd o IsConstant) e h

constant_here : (found : Match) (v : ℕ) (c : ConstId) → slice_get found.binding v ≡ Some (cells.Const c) → IsConstantIn found v
constant_here found v c e = and_some IsConstant (slice_get found.binding v) (cells.Const c) e tt

-- a piece's term is an unknown
piece_is_unknown : (store : Store) (p : ℕ) → IsUnknownTerm (term_in store (cells.Piece p))
piece_is_unknown store p = by (piece_at store p)
  where
    by : (o : Option PieceOf) → IsUnknownTerm (option_map_or (λ piece. unknown (unknown_value piece.unknown)) o (unknown (numbered p)))
    by None = tt
    by (Some piece) = tt

-- the sides of a match that has unequal ones
module _ (store : Store) (relations : List Relation) (egd : Egd) (is : IsEgd relations egd) (found : Match)
    (h : IsUnequalMatch store.rows egd found) where
  left_value : (cell : Seen) × (slice_get found.binding egd.left ≡ Some cell)
  left_value = at_within found.binding egd.left (omega (arith, is.left, h.match.values))

  right_value : (cell : Seen) × (slice_get found.binding egd.right ≡ Some cell)
  right_value = at_within found.binding egd.right (omega (arith, is.right, h.match.values))

  left_is : left_of egd (match_terms store found) ≡ term_in store left_value.0
  left_is = value_bound store found.binding egd.left left_value.0 left_value.1

  right_is : right_of egd (match_terms store found) ≡ term_in store right_value.0
  right_is = value_bound store found.binding egd.right right_value.0 right_value.1

  values_are_unequal : left_value.0 ≢ right_value.0
  values_are_unequal e = h.unequal (left_value.1 ∙ ap (λ x. Some x) e ∙ sym right_value.1)

  pub unequal_sides_differ : IsStore store → ¬ (left_of egd (match_terms store found) ≡ right_of egd (match_terms store found))
  unequal_sides_differ ok e =
      values_differ store relations egd is found h.match ok egd.left egd.right left_value.0 right_value.0 left_value.1 right_value.1
      values_are_unequal (sym left_is ∙ e ∙ right_is)

  -- two constants
  pub constants_clash : IsConstantIn found egd.left × IsConstantIn found egd.right
      → AreClashing (left_of egd (match_terms store found)) (right_of egd (match_terms store found))
  constants_clash both =
      subst (λ l. AreClashing l (right_of egd (match_terms store found))) (sym left_is)
      (subst (AreClashing (term_in store left_value.0)) (sym right_is)
      (by left_value.0 right_value.0 (constant_there found egd.left left_value.0 left_value.1 both.0)
      (constant_there found egd.right right_value.0 right_value.1 both.1) values_are_unequal))
    where
      by : (a b : Seen) → IsConstant a → IsConstant b → a ≢ b → AreClashing (term_in store a) (term_in store b)
      by (cells.Const c) (cells.Const d) p q n = λ e. n (ap (λ x. cells.Const x) e)
      by (cells.Const c) (cells.Piece y) p q n = absurd q
      by (cells.Piece x) b p q n = absurd p

  -- or one is an unknown
  pub one_is_unknown : ¬ (IsConstantIn found egd.left × IsConstantIn found egd.right)
      → IsUnknownTerm (left_of egd (match_terms store found)) ⊎ IsUnknownTerm (right_of egd (match_terms store found))
  one_is_unknown not =
      subst (λ l. IsUnknownTerm l ⊎ IsUnknownTerm (right_of egd (match_terms store found))) (sym left_is)
      (subst (λ r. IsUnknownTerm (term_in store left_value.0) ⊎ IsUnknownTerm r) (sym right_is)
      (by left_value.0 right_value.0 left_value.1 right_value.1))
    where
      by : (a b : Seen) → slice_get found.binding egd.left ≡ Some a → slice_get found.binding egd.right ≡ Some b
          → IsUnknownTerm (term_in store a) ⊎ IsUnknownTerm (term_in store b)
      by (cells.Const c) (cells.Const d) p q =
          absurd (not (constant_here found egd.left c p, constant_here found egd.right d q))
      by (cells.Const c) (cells.Piece y) p q = inr (piece_is_unknown store y)
      by (cells.Piece x) b p q = inl (piece_is_unknown store x)
