-- How the tables of a target are written.
use Rattle.std.proofs.Common.{◌≡◌, refl, ℕ, ◌+◌, ◌<◌, ◌≤◌, true, false, List, [], ◌∷◌, ◌++◌, map, take, subst, ◌∙◌, length, get_or, sym, ap, arith, All, AllPairs, count_by, Some, slice_get, length-append}
use Rattle.std.specs.declared.cmp.Ordering.{Ordering}
use Rattle.std.specs.declared.cmp.Ordering.TheVariants.{Less, Equal, Greater}
use Rattle.std.specs.Option.{option_map}
use Rattle.std.specs.Ordering.{is_eq, is_lt, nat_cmp}
use Rattle.std.specs.Prelude.{IsSomeAnd, Option}
use Rattle.std.proofs.lemmas.Bool.Decides.{nat_tests}
use Rattle.std.proofs.lemmas.Option.{get_or_from_slice_get, slice_get-map, slice_get_within}
use Rattle.term_core.specs.Order.{unknown_cmp}
use Rattle.std.specs.Cmp.{IsTotalOrder}
use Rattle.certain_answers.proofs.RankLemmas.{count_is_point, places_cmp}
use Rattle.std.proofs.lemmas.Slice.Zip.{AllZip-long}
use Rattle.std.proofs.lemmas.List.{length-map, map-append, take_all, take_more}
use Rattle.std.proofs.lemmas.List.Elements.{All-map, All-weaker}
use Rattle.term_core.specs.declared.term.Unknown.{Unknown as HeldUnknown}
use Rattle.term_core.specs.declared.term.Term.{Term}
use Rattle.term_core.specs.declared.term.Term.TheVariants.{Const, Null}
use Rattle.rule_core.specs.declared.rules.Relation.{Relation}
use Rattle.rule_core.specs.Terms.{TermOf, StampedOf}
use Rattle.temporal_csv.specs.Stored.{StoredRow, stamped_row, header_of, record_of, IsAsWideAs, AreNumbered, IsNumberedFromOne}
use Rattle.exchange_engine.specs.Solved.{TermTable, AreTargetTables}
use Rattle.exchange_cli.specs.Rendering.{stored_term, stored_table}
use Rattle.exchange_cli.specs.Target.{TargetTable, IsTableFile, AreTableFiles}
use Rattle.exchange_cli.specs.declared.file.FileOut.{FileOut}
use Rattle.exchange_cli.proofs.ListLemmas.{all_zip_at}
use Rattle.exchange_cli.proofs.StoringLemmas.{files_push}

-- the rows of a table are as wide as its relation
abbrev pub AreWide : Relation → TermTable → Type 0
AreWide relation table = All (λ e. length e.row ≡ length relation.columns) table

-- what comes neither before nor after is equal
pub is_eq-Equal : (r : Ordering) → is_eq r ≡ true → r ≡ Equal
is_eq-Equal Less e = absurd cc
is_eq-Equal Equal e = refl
is_eq-Equal Greater e = absurd cc

-- a lesser place comes before a greater one, and no other does
lesser_place : (i k : ℕ) → i < k → is_lt (nat_cmp i k) ≡ true
lesser_place i k h = grind (arith, nat_tests)

later_place : (i k : ℕ) → k ≤ i → is_lt (nat_cmp i k) ≡ false
later_place i k h = grind (arith, nat_tests)

-- as many ascending unknowns come before one of them as its place tells
pub place_is_count : IsTotalOrder unknown_cmp → (nulls : List HeldUnknown) → AllPairs (λ u w. unknown_cmp u w ≡ Less) nulls
    → (k : ℕ) (u : HeldUnknown) → slice_get nulls k ≡ Some u → count_by (λ w. is_lt (unknown_cmp w u)) nulls ≡ k
place_is_count total nulls ascending k u found =
    let within : k < length nulls = slice_get_within nulls k u found in
    let here : get_or nulls k u ≡ u = get_or_from_slice_get nulls k u u found in
    let at : (i : ℕ) (d : HeldUnknown) → i < length nulls → is_lt (unknown_cmp (get_or nulls i d) u) ≡ is_lt (nat_cmp i k) =
    λ i d in_list. ap (λ v. is_lt (unknown_cmp (get_or nulls i d) v)) (sym (get_or_from_slice_get nulls k u d found))
    ∙ ap is_lt (places_cmp unknown_cmp total nulls ascending i k d in_list within) in
    count_is_point (λ w. is_lt (unknown_cmp w u)) nulls k (omega (arith, within)) (
      λ i d low high. at i d (omega (arith, high, within)) ∙ lesser_place i k high,
      λ i d low high. at i d high ∙ later_place i k low,
    )

module _ (relations : List Relation) (tables : List TermTable) (are : AreTargetTables relations tables) where
  pub same_size : length relations ≡ length tables
  same_size = sym (AllZip-long AreWide relations tables are)

  -- a table has a relation
  pub relation_at : (k : ℕ) → k < length tables → k < length relations
  relation_at k within = omega (arith, same_size)

  pub wide_at : (k : ℕ) (r : Relation) (t : TermTable) → k < length tables → r ≡ get_or relations k r → t ≡ get_or tables k t → AreWide r t
  wide_at k r t within relation_is table_is =
      let here : AreWide (get_or relations k r) (get_or tables k t) = all_zip_at AreWide relations tables are k r t
      (relation_at k within) in
      subst (λ (q : Relation). AreWide q t) (sym relation_is)
      (subst (λ (u : TermTable). AreWide (get_or relations k r) u) (sym table_is) here)

  module _ (prefix : List ℕ) (stored : TermTable → TargetTable) (files : List FileOut) (k : ℕ) where
    -- one more file
    pub files_more : (r : Relation) (t : TermTable) (f : FileOut) → k < length tables → r ≡ get_or relations k r → t ≡ get_or tables k t
        → AreTableFiles prefix (take k relations) files (map stored (take k tables)) → IsTableFile prefix r f (stored t)
        → AreTableFiles prefix (take (k + 1) relations) (files ++ f ∷ []) (map stored (take (k + 1) tables))
    files_more r t f within relation_is table_is before one =
        let relations_more : take (k + 1) relations ≡ take k relations ++ r ∷ [] =
        take_more relations k r (relation_at k within) ∙ ap (λ q. take k relations ++ q ∷ []) (sym relation_is) in
        let tables_more : map stored (take (k + 1) tables) ≡ map stored (take k tables) ++ stored t ∷ [] =
        ap (map stored) (take_more tables k t within ∙ ap (λ u. take k tables ++ u ∷ []) (sym table_is))
        ∙ map-append stored (take k tables) (t ∷ []) in
        subst (λ (rs : List Relation). AreTableFiles prefix rs (files ++ f ∷ []) (map stored (take (k + 1) tables))) (sym relations_more)
        (subst (λ (ts : List TargetTable). AreTableFiles prefix (take k relations ++ r ∷ []) (files ++ f ∷ []) ts) (sym tables_more)
        (files_push prefix (take k relations) files (map stored (take k tables)) r f (stored t) before one))

    -- behind the last table there is no more relation
    pub files_all : length tables ≤ k → AreTableFiles prefix (take k relations) files (map stored (take k tables))
        → AreTableFiles prefix relations files (map stored tables)
    files_all past before =
        subst (λ (rs : List Relation). AreTableFiles prefix rs files (map stored tables)) (take_all k relations (omega (arith, same_size)))
        (subst (λ (ts : List TermTable). AreTableFiles prefix (take k relations) files (map stored ts)) (take_all k tables past) before)

module _ (pool : List (List ℕ)) (nulls : List HeldUnknown) where
  -- a row as it is stored
  abbrev pub stored_entry : StampedOf (List Term) → StampedOf (List (TermOf (List ℕ)))
  stored_entry e = record { row = map (stored_term pool nulls) e.row; span = e.span }

  module _ (table : TermTable) (k : ℕ) where
    -- the row at a place is the entry's there
    stored_at : (e : StampedOf (List Term)) → slice_get table k ≡ Some e
        → slice_get (map stamped_row (stored_table pool nulls table)) k ≡ Some (stamped_row (stored_entry e))
    stored_at e found =
        slice_get-map stamped_row (stored_table pool nulls table) k
        ∙ ap (option_map stamped_row) (slice_get-map stored_entry table k ∙ ap (option_map stored_entry) found)

    -- what is said of the row at a place is so of the entry's there
    pub said_of_row : (e : StampedOf (List Term)) (P : StoredRow → Type 0) → slice_get table k ≡ Some e
        → IsSomeAnd (slice_get (map stamped_row (stored_table pool nulls table)) k) P → P (stamped_row (stored_entry e))
    said_of_row e P found says = subst (λ (o : Option StoredRow). IsSomeAnd o P) (stored_at e found) says

    -- and what is so of the entry's row is said of the one at its place
    pub say_of_row : (e : StampedOf (List Term)) (P : StoredRow → Type 0) → slice_get table k ≡ Some e
        → P (stamped_row (stored_entry e)) → IsSomeAnd (slice_get (map stamped_row (stored_table pool nulls table)) k) P
    say_of_row e P found is = subst (λ (o : Option StoredRow). IsSomeAnd o P) (sym (stored_at e found)) is

  -- rows that are as wide as their relation make records that are as wide as the header
  pub widths_are : (relation : Relation) (table : TermTable) → AreWide relation table
      → All (IsAsWideAs (header_of relation.columns)) (map stamped_row (stored_table pool nulls table))
  widths_are relation table wide =
      All-map (IsAsWideAs (header_of relation.columns)) stamped_row (stored_table pool nulls table)
      (All-map (λ r. IsAsWideAs (header_of relation.columns) (stamped_row r)) stored_entry table
      (All-weaker (λ (e : StampedOf (List Term)). length e.row ≡ length relation.columns)
      (λ e. IsAsWideAs (header_of relation.columns) (stamped_row (stored_entry e))) one table wide))
    where
      one : (e : StampedOf (List Term)) → length e.row ≡ length relation.columns
          → length (record_of (stamped_row (stored_entry e))) ≡ length (header_of relation.columns)
      one e same = simp (length-append, length-map) (ap (λ n. n + 2) same)

  -- a number is a place, counted from 1
  pub numbered_from_one : (term : Term) → IsNumberedFromOne (stored_term pool nulls term)
  numbered_from_one (Const c) = tt
  numbered_from_one (Null u) = omega arith

  pub numbers_are : (table : TermTable) → All AreNumbered (map stamped_row (stored_table pool nulls table))
  numbers_are table =
      All-map AreNumbered stamped_row (stored_table pool nulls table) (All-map (λ r. AreNumbered (stamped_row r)) stored_entry table
      (λ k d l. All-map IsNumberedFromOne (stored_term pool nulls) (get_or table k d).row
      (λ j e m. numbered_from_one (get_or (get_or table k d).row j e))))
