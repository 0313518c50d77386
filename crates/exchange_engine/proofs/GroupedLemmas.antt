-- The rows of a store as terms, and the tables that they make.
use Rattle.std.proofs.Common.{◌≡◌, ◌⊎◌, ◌↔◌, ℕ, ℤ, zero, suc, ◌+◌, ◌<◌, ◌≤◌, Option, Some, None, List, [], ◌∷◌, ◌++◌, length, get_or, set, map, take, refl, sym, ap, ◌∙◌, subst}
use Rattle.std.proofs.Common.{inl, inr, ⊎_elim, arith, Contains}
use Rattle.std.specs.Prelude.{IsSomeAnd, slice_get}
use Rattle.std.specs.List.{AllZip, filter_map}
use Rattle.std.specs.Option.{IfSome, option_map, option_and_then}
use Rattle.std.proofs.lemmas.List.{take_more, take_all, map-append, append-nil}
use Rattle.std.proofs.lemmas.List.Elements.{All-contains, filter_map-append, Contains-append_left, Contains-append_right, Contains-append_cases}
use Rattle.std.proofs.lemmas.Option.{slice_get_within, slice_get-get_or, get_or_from_slice_get}
use Rattle.time_line.specs.Span.{Has}
use Rattle.term_core.specs.declared.const_id.ConstId.{ConstId}
use Rattle.term_core.specs.declared.term.Term.{Term}
use Rattle.rule_core.specs.Terms.{FactOf}
use Rattle.rule_core.specs.Values.{term_value}
use Rattle.rule_core.specs.Coalesced.{Covers}
use Rattle.rule_core.proofs.ListLemmas.{Contains-head, Contains-cons, Contains-nil, Contains-cons_cases}
use Rattle.rule_core.proofs.SnapshotLemmas.{snapshot_covers, covered_in_snapshot}
use Rattle.fact_table.specs.declared.fact.RowHead.{RowHead}
use Rattle.fact_table.specs.Rows.{SeenRow, row_at, head_of, head_at, cell_at}
use Rattle.body_match.proofs.ListLemmas.{zip_at, zip_length}
use Rattle.body_match.proofs.SearchLemmas.{some_and, and_some, same_some, row_from_head}
use Rattle.null_store.specs.Store.{Store, term_in, fact_in, facts_in}
use Rattle.exchange_engine.specs.Solved.{TermTable, AreCoalesced, HoldSnapshotsOf}
use Rattle.exchange_engine.specs.Grouped.{table_facts, AreBelow, IsRowOf, HaveFacts, AddsRow, IsCoalescedFrom}
use Rattle.exchange_engine.proofs.TableFactLemmas.{Entry, TargetFact, fact_for, in_facts, from_facts, more_facts}

-- one row

module _ (store : Store) (number : ℕ) where
  -- the terms are those of the row's first cells
  abbrev pub AreFirstTerms : ℕ → List Term → SeenRow → Type 0
  AreFirstTerms column terms seen = map term_value terms ≡ map (term_in store) (take column seen.cells)

  pub terms_more : (column : ℕ) (terms : List Term) (term : Term) → IsSomeAnd (row_at store.rows number) (AreFirstTerms column terms)
      → IsSomeAnd (cell_at store.rows number column) (λ cell. term_value term ≡ term_in store cell)
      → IsSomeAnd (row_at store.rows number) (AreFirstTerms (column + 1) (terms ++ term ∷ []))
  terms_more column terms term h k = by (row_at store.rows number) h k
    where
      by : (o : Option SeenRow) → IsSomeAnd o (AreFirstTerms column terms)
          → IsSomeAnd (option_and_then (λ (row : SeenRow). slice_get row.cells column) o) (λ cell. term_value term ≡ term_in store cell)
          → IsSomeAnd o (AreFirstTerms (column + 1) (terms ++ term ∷ []))
      by None h k = h
      by (Some seen) h k =
          let s = some_and (λ cell. term_value term ≡ term_in store cell) (slice_get seen.cells column) k in
          let inside = slice_get_within seen.cells column s.0 s.1 in
          let more : take (column + 1) seen.cells ≡ take column seen.cells ++ s.0 ∷ [] =
          take_more seen.cells column s.0 inside
          ∙ ap (λ cell. take column seen.cells ++ cell ∷ []) (get_or_from_slice_get seen.cells column s.0 s.0 s.1) in
          map-append term_value terms (term ∷ [])
          ∙ (λ i. h i ++ s.2 i ∷ [])
          ∙ sym (map-append (term_in store) (take column seen.cells) (s.0 ∷ []))
          ∙ ap (map (term_in store)) (sym more)

  pub terms_none : (head : RowHead) → head_at store.rows number ≡ Some head → IsSomeAnd (row_at store.rows number) (AreFirstTerms 0 [])
  terms_none head e =
      let r = row_from_head store.rows number head e in
      and_some (AreFirstTerms 0 []) (row_at store.rows number) r.0 r.1 refl

  pub has_cell : (head : RowHead) (column : ℕ) → head_at store.rows number ≡ Some head → column < head.arity
      → IsSomeAnd (row_at store.rows number) (λ seen. column < length seen.cells)
  has_cell head column e inside =
      let r = row_from_head store.rows number head e in
      and_some (λ (seen : SeenRow). column < length seen.cells) (row_at store.rows number) r.0 r.1
      (subst (λ n. column < n) (sym (ap (λ (h : RowHead). h.arity) r.2)) inside)

  pub row_whole : (head : RowHead) (column : ℕ) (terms : List Term) → head_at store.rows number ≡ Some head → head.arity ≤ column
      → IsSomeAnd (row_at store.rows number) (AreFirstTerms column terms)
      → IsSomeAnd (row_at store.rows number) (λ seen. IsRowOf store seen (record { row = terms; span = head.span }))
  row_whole head column terms e past h =
      let r = row_from_head store.rows number head e in
      let s = some_and (AreFirstTerms column terms) (row_at store.rows number) h in
      let same : s.0 ≡ r.0 = same_some (row_at store.rows number) s.0 r.0 s.1 r.1 in
      let are : AreFirstTerms column terms r.0 = subst (AreFirstTerms column terms) same s.2 in
      let size : length r.0.cells ≡ head.arity = ap (λ (x : RowHead). x.arity) r.2 in
      let entry : Entry = record { row = terms; span = head.span } in
      and_some (λ (seen : SeenRow). IsRowOf store seen entry) (row_at store.rows number) r.0 r.1 (record {
        terms = are ∙ ap (map (term_in store)) (take_all column r.0.cells (omega (arith, size, past)));
        span = sym (ap (λ (x : RowHead). x.span) r.2);
      })

-- a row more

-- an entry is the fact of its row
entry_fact : (store : Store) (seen : SeenRow) (entry : Entry) → IsRowOf store seen entry → fact_for seen.relation entry ≡ fact_in store seen
entry_fact store seen entry is = λ i. record { row = record { relation = seen.relation; terms = is.terms i }; span = is.span i }

pub adds_entry : (store : Store) (number : ℕ) (head : RowHead) (entry : Entry) (old new : List TermTable) (table : TermTable)
    → head_at store.rows number ≡ Some head → IsSomeAnd (row_at store.rows number) (λ seen. IsRowOf store seen entry)
    → slice_get old head.relation ≡ Some table → new ≡ set old head.relation (table ++ entry ∷ []) → AddsRow store number old new
adds_entry store number head entry old new table e h at is fact =
    let r = row_from_head store.rows number head e in
    let s = some_and (λ seen. IsRowOf store seen entry) (row_at store.rows number) h in
    let same : s.0 ≡ r.0 = same_some (row_at store.rows number) s.0 r.0 s.1 r.1 in
    let relation : s.0.relation ≡ head.relation = ap (λ (x : SeenRow). x.relation) same ∙ ap (λ (x : RowHead). x.relation) r.2 in
    let made : fact_for head.relation entry ≡ fact_in store s.0 =
    ap (λ n. fact_for n entry) (sym relation) ∙ entry_fact store s.0 entry s.2 in
    let there : option_map (fact_in store) (row_at store.rows number) ≡ Some (fact_for head.relation entry) =
    ap (option_map (fact_in store)) s.1 ∙ ap Some (sym made) in
    let more = more_facts old head.relation table at entry fact in (
      λ c. ⊎_elim inl (λ (x : fact_for head.relation entry ≡ fact). inr (there ∙ ap Some x))
          (more.0 (subst (λ (l : List TermTable). Contains (table_facts l) fact) is c)),
      λ d. subst (λ (l : List TermTable). Contains (table_facts l) fact) (sym is)
          (more.1 (⊎_elim inl (λ (x : option_map (fact_in store) (row_at store.rows number) ≡ Some fact).
          inr (same_some (option_map (fact_in store) (row_at store.rows number)) (fact_for head.relation entry) fact there x)) d)),
    )

pub adds_none : (store : Store) (number : ℕ) (tables : List TermTable) → head_at store.rows number ≡ None
    → AddsRow store number tables tables
adds_none store number tables none fact = by (row_at store.rows number) none
  where
    by : (o : Option SeenRow) → option_map head_of o ≡ None
        → Contains (table_facts tables) fact ↔ (Contains (table_facts tables) fact ⊎ (option_map (fact_in store) o ≡ Some fact))
    by None e = (inl, λ d. ⊎_elim (λ (c : Contains (table_facts tables) fact). c) (λ (x : None ≡ Some fact). absurd cc) d)
    by (Some seen) e = absurd cc

-- the rows so far

-- the facts of the first rows
abbrev pub facts_before : Store → ℕ → List TargetFact
facts_before store n = filter_map (option_map (fact_in store)) (take n store.rows)

pub facts_more : (store : Store) (number : ℕ) (old new : List TermTable) → number < length store.rows
    → HaveFacts (facts_before store number) old → AddsRow store number old new → HaveFacts (facts_before store (number + 1)) new
facts_more store number old new inside so_far adds fact = by (get_or store.rows number None) refl
  where
    to_fact : Option SeenRow → Option TargetFact
    to_fact o = option_map (fact_in store) o

    at : (o : Option SeenRow) → get_or store.rows number None ≡ o → row_at store.rows number ≡ o
    at o is = ap (option_and_then (λ (row : Option SeenRow). row)) (slice_get-get_or store.rows number None inside ∙ ap Some is) ∙ flat o
      where
        flat : (o : Option SeenRow) → option_and_then (λ (row : Option SeenRow). row) (Some o) ≡ o
        flat o = refl

    more : (o : Option SeenRow) → get_or store.rows number None ≡ o
        → facts_before store (number + 1) ≡ facts_before store number ++ filter_map (option_map (fact_in store)) (o ∷ [])
    more o is =
        ap (filter_map (option_map (fact_in store)))
        (take_more store.rows number None inside ∙ ap (λ x. take number store.rows ++ x ∷ []) is)
        ∙ filter_map-append (option_map (fact_in store)) (take number store.rows) (o ∷ [])

    by : (o : Option SeenRow) → get_or store.rows number None ≡ o
        → Contains (table_facts new) fact ↔ Contains (facts_before store (number + 1)) fact
    by None is =
        let same : facts_before store (number + 1) ≡ facts_before store number = more None is ∙ append-nil (facts_before store number) in (
          λ c. ⊎_elim
              (λ (d : Contains (table_facts old) fact). subst (λ (l : List TargetFact). Contains l fact) (sym same) ((so_far fact).0 d))
              (λ (x : option_map (fact_in store) (row_at store.rows number) ≡ Some fact).
              let no : None ≡ Some fact = sym (ap (option_map (fact_in store)) (at None is)) ∙ x in absurd cc)
              ((adds fact).0 c),
          λ c. (adds fact).1 (inl ((so_far fact).1 (subst (λ (l : List TargetFact). Contains l fact) same c))),
        )
    by (Some seen) is =
        let there : option_map (fact_in store) (row_at store.rows number) ≡ Some (fact_in store seen) =
        ap (option_map (fact_in store)) (at (Some seen) is) in
        let longer = facts_before store number ++ fact_in store seen ∷ [] in
        let same : facts_before store (number + 1) ≡ longer = more (Some seen) is in (
          λ c. subst (λ (l : List TargetFact). Contains l fact) (sym same) (⊎_elim
              (λ (d : Contains (table_facts old) fact).
              Contains-append_left (facts_before store number) (fact_in store seen ∷ []) fact ((so_far fact).0 d))
              (λ (x : option_map (fact_in store) (row_at store.rows number) ≡ Some fact).
              let is_this = same_some (option_map (fact_in store) (row_at store.rows number)) (fact_in store seen) fact there x in
              Contains-append_right (facts_before store number) (fact_in store seen ∷ []) fact
              (subst (Contains (fact_in store seen ∷ [])) is_this (Contains-head (fact_in store seen) [])))
              ((adds fact).0 c)),
          λ c. (adds fact).1 (⊎_elim
              (λ (d : Contains (facts_before store number) fact). inl ((so_far fact).1 d))
              (λ (d : Contains (fact_in store seen ∷ []) fact). ⊎_elim
              (λ (x : fact_in store seen ≡ fact). inr (there ∙ ap Some x))
              (λ (x : Contains [] fact). absurd (Contains-nil fact x))
              (Contains-cons_cases (fact_in store seen) fact [] d))
              (Contains-append_cases (facts_before store number) (fact_in store seen ∷ []) fact
              (subst (λ (l : List TargetFact). Contains l fact) same c))),
        )

-- the relation of a row is one of so many
pub row_below : (relations : ℕ) (store : Store) → AreBelow relations store → (number : ℕ)
    → IfSome (row_at store.rows number) (λ seen. seen.relation < relations)
row_below relations store below number = by (row_at store.rows number) refl
  where
    there : (rows : List (Option SeenRow)) (n : ℕ) (seen : SeenRow) → row_at rows n ≡ Some seen
        → Contains (filter_map (option_map (fact_in store)) rows) (fact_in store seen)
    there [] n seen e = absurd cc
    there (None ∷ rows) zero seen e = absurd cc
    there (Some r ∷ rows) zero seen e =
        let same : r ≡ seen = cc in
        subst (λ (s : SeenRow). Contains (filter_map (option_map (fact_in store)) (Some r ∷ rows)) (fact_in store s)) same
        (Contains-head (fact_in store r) (filter_map (option_map (fact_in store)) rows))
    there (None ∷ rows) (suc n) seen e = there rows n seen e
    there (Some r ∷ rows) (suc n) seen e =
        Contains-cons (fact_in store r) (fact_in store seen) (filter_map (option_map (fact_in store)) rows) (there rows n seen e)

    by : (o : Option SeenRow) → row_at store.rows number ≡ o → IfSome o (λ seen. seen.relation < relations)
    by None e = tt
    by (Some seen) e =
        All-contains (λ (fact : TargetFact). fact.row.relation < relations) (facts_in store) (fact_in store seen) below
        (there store.rows number seen e)

-- and so that of its head
pub head_below : (store : Store) (number : ℕ) (head : RowHead) (n : ℕ) → head_at store.rows number ≡ Some head
    → IfSome (row_at store.rows number) (λ seen. seen.relation < n) → head.relation < n
head_below store number head n e below = by (row_at store.rows number) e below
  where
    by : (o : Option SeenRow) → option_map head_of o ≡ Some head → IfSome o (λ seen. seen.relation < n) → head.relation < n
    by None e h = absurd cc
    by (Some seen) e h =
        let same : head_of seen ≡ head = cc in
        subst (λ (x : RowHead). x.relation < n) same h

-- coalesced tables

module _ (lists tables : List TermTable) where
  -- a row that one list of tables covers in a relation, another covers there too
  abbrev CoversMore : List TermTable → List TermTable → Type 0
  CoversMore a b = (k : ℕ) (x : TermTable) → slice_get a k ≡ Some x
      → (y : TermTable) × (slice_get b k ≡ Some y) × ((row : List Term) (t : ℤ) → Covers x row t → Covers y row t)

  covered_too : (a b : List TermTable) → CoversMore a b → (fact : FactOf ConstId) (t : ℤ) → Covers (table_facts a) fact t
      → Covers (table_facts b) fact t
  covered_too a b more fact t c =
      let h = from_facts a c.1 (c.0, c.2, c.3) in
      let has : Has h.2.span t = subst (λ (x : TargetFact). Has x.span t) (sym h.5) c.4.1 in
      let y = more h.0 h.1 h.3 in
      let d = y.2 h.2.row t (h.4.0, h.2, h.4.1, h.4.2, (refl, has)) in
      let there = in_facts b h.0 y.0 d.1 y.1 (d.0, d.2, d.3) in
      let row : (fact_for h.0 d.1).row ≡ fact =
      (λ i. record { relation = h.0; terms = map term_value (d.4.0 i) }) ∙ ap (λ (x : TargetFact). x.row) h.5 ∙ c.4.0 in
      (there.0, fact_for h.0 d.1, there.1, there.2, (row, d.4.1))

  module _ (from : AllZip IsCoalescedFrom lists tables) where
    pub same_size : length tables ≡ length lists
    same_size = sym (zip_length IsCoalescedFrom lists tables from)

    to_tables : CoversMore lists tables
    to_tables k x at =
        let z = zip_at IsCoalescedFrom lists tables from k x at in
        (z.0, z.1, λ row t. (z.2.covers row t).1)

    list_at : (k : ℕ) (y : TermTable) → slice_get tables k ≡ Some y → (x : TermTable) × (slice_get lists k ≡ Some x) × IsCoalescedFrom x y
    list_at k y at =
        let inside : k < length lists = omega (arith, same_size, slice_get_within tables k y at) in
        let x = get_or lists k y in
        let is = slice_get-get_or lists k y inside in
        let z = zip_at IsCoalescedFrom lists tables from k x is in
        (x, is, subst (IsCoalescedFrom x) (same_some (slice_get tables k) z.0 y z.1 at) z.2)

    to_lists : CoversMore tables lists
    to_lists k y at = let x = list_at k y at in (x.0, x.1, λ row t. (x.2.covers row t).0)

    pub all_coalesced : AreCoalesced tables
    all_coalesced k d inside =
        let at = slice_get-get_or tables k d inside in
        (list_at k (get_or tables k d) at).2.coalesced

    pub same_snapshots : (facts : List TargetFact) → HaveFacts facts lists → HoldSnapshotsOf facts tables
    same_snapshots facts have t fact = (
      λ c.
          let d = covered_too tables lists to_lists fact t (snapshot_covers (table_facts tables) fact t c) in
          let there = (have d.1).0 (d.0, d.2, d.3) in
          covered_in_snapshot facts fact t (there.0, d.1, there.1, there.2, d.4),
      λ c.
          let d = snapshot_covers facts fact t c in
          let there = (have d.1).1 (d.0, d.2, d.3) in
          covered_in_snapshot (table_facts tables) fact t
          (covered_too lists tables to_tables fact t (there.0, d.1, there.1, there.2, d.4)),
    )
