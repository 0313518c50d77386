-- The target at one instant: its rows stand in order and each once, and how they are written.
use Rattle.std.proofs.Common.{◌≡◌, ℕ, ◌+◌, ◌<◌, ◌≤◌, ℤ, Bool, true, false, cond, List, [], ◌∷◌, ◌++◌, take, map, filter, length, get_or, refl, sym, ap, ◌∙◌, subst, arith, All, AllPairs, length-append}
use Rattle.std.specs.declared.cmp.Ordering.{Ordering}
use Rattle.std.specs.declared.cmp.Ordering.TheVariants.{Less, Equal, Greater}
use Rattle.std.specs.Ordering.{ordering_then}
use Rattle.std.proofs.lemmas.List.{length-map, map-append, take_all, take_more}
use Rattle.std.proofs.lemmas.List.Elements.{filter-append, All-map, All-weaker, All-filter}
use Rattle.std.proofs.lemmas.List.Sums.{sum_by_push}
use Rattle.time_line.specs.Span.{Has, span_cmp}
use Rattle.term_core.specs.declared.term.Unknown.{Unknown as HeldUnknown}
use Rattle.term_core.specs.declared.term.Term.{Term}
use Rattle.rule_core.specs.declared.rules.Relation.{Relation}
use Rattle.rule_core.specs.Terms.{TermOf, FactOf, StampedOf}
use Rattle.rule_core.specs.Tables.{facts_from}
use Rattle.rule_core.specs.Order.{stored_cmp}
use Rattle.rule_core.specs.Snapshot.{has, snapshot_at}
use Rattle.rule_core.specs.Solution.{IsUniversal}
use Rattle.rule_core.specs.Coalesced.{stamped_cmp, AreSeparate, IsCoalesced}
use Rattle.rule_core.proofs.ListLemmas.{AllPairs-nil, AllPairs-cons, AllPairs-head, AllPairs-tail, Contains-from_map, Contains-from_filter}
use Rattle.rule_core.proofs.SnapshotLemmas.{Decides-has}
use Rattle.temporal_csv.specs.Stored.{bare_row, record_of, IsAsWideAs, AreNumbered, IsNumberedFromOne}
use Rattle.exchange_engine.specs.Loading.{LoadedOf}
use Rattle.exchange_engine.specs.Solved.{TermTable, AreTargetTables}
use Rattle.exchange_engine.specs.declared.outcome.Solved.{Solved}
use Rattle.exchange_cli.specs.Inputs.{Inputs, name_of, source_of}
use Rattle.exchange_cli.specs.Exchanged.{IsLoadedFrom, IsSolvedFrom}
use Rattle.exchange_cli.specs.Target.{TargetTable, IsTarget}
use Rattle.exchange_cli.specs.Rendering.{stored_term, stored_table}
use Rattle.exchange_cli.specs.Snapshot.{BareTable, bare_facts, AreInOrder, tables_at, IsSnapshotOf, IsBareFile, AreBareFiles, row_count}
use Rattle.exchange_cli.specs.declared.file.FileOut.{FileOut}
use Rattle.exchange_cli.proofs.FactTextLemmas.{restamped, map-snapshot_at}
use Rattle.exchange_cli.proofs.RenderingLemmas.{AreWide, stored_entry, numbered_from_one, same_size, relation_at}

-- snapshots of lists that are put together

snapshot-append : {X : Type 0} (xs ys : List (StampedOf X)) (t : ℤ) → snapshot_at (xs ++ ys) t ≡ snapshot_at xs t ++ snapshot_at ys t
snapshot-append {X} xs ys t =
    let row : StampedOf X → X = λ e. e.row in
    let p : StampedOf X → Bool = λ e. has e.span t in
    ap (map row) (filter-append p xs ys) ∙ map-append row (filter p xs) (filter p ys)

-- the facts of tables at an instant are those of their rows there
facts_shown : (relation : ℕ) (t : ℤ) (tables : List TargetTable)
    → snapshot_at (facts_from relation tables) t ≡ bare_facts relation (tables_at t tables)
facts_shown relation t [] = refl
facts_shown relation t (table ∷ tables) =
    let fact : List (TermOf (List ℕ)) → FactOf (List ℕ) = λ row. record { relation = relation; terms = row } in
    let first = sym (map-snapshot_at fact table t) in
    snapshot-append (map (restamped fact) table) (facts_from (relation + 1) tables) t
    ∙ (λ i. first i ++ facts_shown (relation + 1) t tables i)

-- order

first_less : (r s : Ordering) → ordering_then r s ≡ Less → (r ≡ Equal → ⊥) → r ≡ Less
first_less Less s e apart = refl
first_less Equal s e apart = absurd (apart refl)
first_less Greater s e apart = absurd cc

-- rows that the order calls equal are equal
abbrev pub RowsAreApart : Type 0
RowsAreApart = (a b : List (TermOf (List ℕ))) → stored_cmp a b ≡ Equal → a ≡ b

-- an entry of a table as it is stored
abbrev Entry : Type 0
Entry = StampedOf (List (TermOf (List ℕ)))

module _ (apart : RowsAreApart) (t : ℤ) where
  -- of two entries of a table that hold at the instant, the earlier one has the lesser row
  lesser_row : (a b : Entry) → stamped_cmp stored_cmp a b ≡ Less → AreSeparate a b → Has a.span t → Has b.span t
      → stored_cmp a.row b.row ≡ Less
  lesser_row a b less separate here there =
      first_less (stored_cmp a.row b.row) (span_cmp a.span b.span) less
      (λ e. (separate (apart a.row b.row e)).0 (t, here, there))

  -- the rows of a coalesced table at the instant are in order, and each once
  rows_in_order : (entries : TargetTable) → AllPairs (λ a b. stamped_cmp stored_cmp a b ≡ Less) entries → AllPairs AreSeparate entries
      → AreInOrder (snapshot_at entries t)
  rows_in_order [] less separate = AllPairs-nil (λ a b. stored_cmp a b ≡ Less)
  rows_in_order (e ∷ es) less separate =
      by_test (has e.span t) refl
      (rows_in_order es (AllPairs-tail (λ a b. stamped_cmp stored_cmp a b ≡ Less) e es less) (AllPairs-tail AreSeparate e es separate))
    where
      by_test : (b : Bool) → has e.span t ≡ b → AreInOrder (snapshot_at es t)
          → AreInOrder (map (λ (s : Entry). s.row) (cond b (e ∷ filter (λ (s : Entry). has s.span t) es)
          (filter (λ (s : Entry). has s.span t) es)))
      by_test true h rest =
          AllPairs-cons (λ a b. stored_cmp a b ≡ Less) e.row (snapshot_at es t)
          (λ later c.
          let entry = Contains-from_map (λ (s : Entry). s.row) (filter (λ (s : Entry). has s.span t) es) later c in
          let kept = Contains-from_filter (λ (s : Entry). has s.span t) es entry.0 entry.1 in
          subst (λ r. stored_cmp e.row r ≡ Less) entry.2
          (lesser_row e entry.0
          (AllPairs-head (λ a b. stamped_cmp stored_cmp a b ≡ Less) e es less entry.0 kept.0)
          (AllPairs-head AreSeparate e es separate entry.0 kept.0)
          ((Decides-has e.span t).0 h) ((Decides-has entry.0.span t).0 kept.1)))
          rest
      by_test false h rest = rest

  -- and so those of each table of a target
  tables_in_order : (tables : List TargetTable) → All (IsCoalesced stored_cmp) tables → All AreInOrder (tables_at t tables)
  tables_in_order tables coalesced =
      All-map AreInOrder (λ (table : TargetTable). snapshot_at table t) tables
      (All-weaker (IsCoalesced stored_cmp) (λ (table : TargetTable). AreInOrder (snapshot_at table t))
      (λ table is. rows_in_order table is.ordered is.separate) tables coalesced)

-- what an exchange stores is shown at the instant
pub is_snapshot : RowsAreApart → (inputs : Inputs) (loaded : LoadedOf) (solved : Solved) (t : ℤ)
    → IsLoadedFrom inputs loaded → IsSolvedFrom loaded solved
    → IsTarget inputs (map (stored_table loaded.pool solved.nulls) solved.tables)
    → IsSnapshotOf inputs t (tables_at t (map (stored_table loaded.pool solved.nulls) solved.tables))
is_snapshot apart inputs loaded solved t from given target =
    let stored = map (stored_table loaded.pool solved.nulls) solved.tables in
    record {
      ordered = tables_in_order apart t stored target.coalesced;
      universal =
          subst (IsUniversal (name_of inputs) inputs.mapping.rules (snapshot_at (source_of inputs) t)) (facts_shown 0 t stored)
          (target.universal t);
      target = stored;
      is = target;
      exchanged = record { loaded = loaded; from = from; solved = solved; given = given; stored = refl };
      shown = refl;
    }

-- how the rows are written

module _ (pool : List (List ℕ)) (nulls : List HeldUnknown) (t : ℤ) where
  -- the rows of a table at the instant
  abbrev pub rows_of : TermTable → BareTable
  rows_of table = snapshot_at (stored_table pool nulls table) t

  -- what holds of each row of a table as it is stored holds of those at the instant
  of_rows : (P : List (TermOf (List ℕ)) → Type 0) (table : TermTable)
      → All (λ (e : StampedOf (List Term)). P (map (stored_term pool nulls) e.row)) table → All P (rows_of table)
  of_rows P table each =
      All-map P (λ (s : Entry). s.row) (filter (λ (s : Entry). has s.span t) (stored_table pool nulls table))
      (All-filter (λ (s : Entry). has s.span t) (λ (s : Entry). P s.row) (stored_table pool nulls table)
      (All-map (λ (s : Entry). P s.row) (stored_entry pool nulls) table each))

  pub bare_widths : (relation : Relation) (table : TermTable) → AreWide relation table
      → All (IsAsWideAs relation.columns) (map bare_row (rows_of table))
  bare_widths relation table wide =
      All-map (IsAsWideAs relation.columns) bare_row (rows_of table)
      (of_rows (λ row. IsAsWideAs relation.columns (bare_row row)) table
      (All-weaker (λ (e : StampedOf (List Term)). length e.row ≡ length relation.columns)
      (λ e. IsAsWideAs relation.columns (bare_row (map (stored_term pool nulls) e.row))) one table wide))
    where
      one : (e : StampedOf (List Term)) → length e.row ≡ length relation.columns
          → length (record_of (bare_row (map (stored_term pool nulls) e.row))) ≡ length relation.columns
      one e same = simp (length-append, length-map) (omega (arith, same))

  pub bare_numbers : (table : TermTable) → All AreNumbered (map bare_row (rows_of table))
  bare_numbers table =
      All-map AreNumbered bare_row (rows_of table)
      (of_rows (λ row. AreNumbered (bare_row row)) table
      (λ k d l. All-map IsNumberedFromOne (stored_term pool nulls) (get_or table k d).row
      (λ j e m. numbered_from_one pool nulls (get_or (get_or table k d).row j e))))

-- files

bare_push : (prefix : List ℕ) (relations : List Relation) (files : List FileOut) (tables : List BareTable)
    (r : Relation) (f : FileOut) (rows : BareTable)
    → AreBareFiles prefix relations files tables → IsBareFile prefix r f rows
    → AreBareFiles prefix (relations ++ r ∷ []) (files ++ f ∷ []) (tables ++ rows ∷ [])
bare_push prefix [] [] [] r f rows are file = (file, (refl, refl))
bare_push prefix [] [] (u ∷ us) r f rows are file = absurd (let bad = are.1 in cc)
bare_push prefix [] (g ∷ gs) tables r f rows are file = absurd (let bad = are.0 in cc)
bare_push prefix (q ∷ qs) [] tables r f rows are file = absurd are
bare_push prefix (q ∷ qs) (g ∷ gs) [] r f rows are file = absurd are
bare_push prefix (q ∷ qs) (g ∷ gs) (u ∷ us) r f rows are file = (are.0, bare_push prefix qs gs us r f rows are.1 file)

module _ (relations : List Relation) (tables : List TermTable) (are : AreTargetTables relations tables) (stored : TermTable → TargetTable)
    (t : ℤ) where
  -- the rows of the tables at the instant
  abbrev pub shown_of : List TermTable → List BareTable
  shown_of list = tables_at t (map stored list)

  shown_more : (k : ℕ) (table : TermTable) → k < length tables → table ≡ get_or tables k table
      → shown_of (take (k + 1) tables) ≡ shown_of (take k tables) ++ snapshot_at (stored table) t ∷ []
  shown_more k table within is =
      ap shown_of (take_more tables k table within ∙ ap (λ (u : TermTable). take k tables ++ u ∷ []) (sym is))
      ∙ ap (tables_at t) (map-append stored (take k tables) (table ∷ []))
      ∙ map-append (λ (u : TargetTable). snapshot_at u t) (map stored (take k tables)) (stored table ∷ [])

  -- one more file
  pub bare_more : (prefix : List ℕ) (files : List FileOut) (k : ℕ) (r : Relation) (table : TermTable) (f : FileOut) → k < length tables
      → r ≡ get_or relations k r → table ≡ get_or tables k table
      → AreBareFiles prefix (take k relations) files (shown_of (take k tables)) → IsBareFile prefix r f (snapshot_at (stored table) t)
      → AreBareFiles prefix (take (k + 1) relations) (files ++ f ∷ []) (shown_of (take (k + 1) tables))
  bare_more prefix files k r table f within relation_is table_is before one =
      let relations_more : take (k + 1) relations ≡ take k relations ++ r ∷ [] =
      take_more relations k r (relation_at relations tables are k within)
      ∙ ap (λ (q : Relation). take k relations ++ q ∷ []) (sym relation_is) in
      let pushed = bare_push prefix (take k relations) files (shown_of (take k tables)) r f (snapshot_at (stored table) t) before one in
      subst (λ (rs : List Relation). AreBareFiles prefix rs (files ++ f ∷ []) (shown_of (take (k + 1) tables))) (sym relations_more)
      (subst (λ (ts : List BareTable). AreBareFiles prefix (take k relations ++ r ∷ []) (files ++ f ∷ []) ts)
      (sym (shown_more k table within table_is)) pushed)

  -- and its rows
  pub count_more : (k : ℕ) (table : TermTable) → k < length tables → table ≡ get_or tables k table
      → row_count (shown_of (take (k + 1) tables)) ≡ row_count (shown_of (take k tables)) + length (snapshot_at (stored table) t)
  count_more k table within is =
      ap row_count (shown_more k table within is) ∙ sum_by_push length (shown_of (take k tables)) (snapshot_at (stored table) t)

  -- behind the last table there is no more relation
  pub bare_all : (prefix : List ℕ) (files : List FileOut) (k : ℕ) → length tables ≤ k
      → AreBareFiles prefix (take k relations) files (shown_of (take k tables)) → AreBareFiles prefix relations files (shown_of tables)
  bare_all prefix files k past before =
      subst (λ (rs : List Relation). AreBareFiles prefix rs files (shown_of tables))
      (take_all k relations (omega (arith, past, same_size relations tables are)))
      (subst (λ (ts : List TermTable). AreBareFiles prefix (take k relations) files (shown_of ts)) (take_all k tables past) before)
