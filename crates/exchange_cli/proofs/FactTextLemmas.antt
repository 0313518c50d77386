-- Facts of tables and of sources, whose terms become others: snapshots of what they become.
use Rattle.std.proofs.Common.{◌≡◌, ◌↔◌, ℕ, ◌+◌, ◌<◌, ℤ, Bool, true, false, cond, List, [], ◌∷◌, ◌++◌, map, length, filter, refl, sym, ap, ◌∙◌, subst, inl, inr, All, Any, Contains}
use Rattle.std.proofs.lemmas.List.{map-append}
use Rattle.std.proofs.lemmas.List.Elements.{Contains-append_cases, All-head, All-tail}
use Rattle.term_core.specs.declared.const_id.ConstId.{ConstId}
use Rattle.rule_core.specs.Terms.{TermOf, constant, FactOf, StampedOf}
use Rattle.rule_core.specs.Tables.{facts_from, facts_of, as_terms}
use Rattle.rule_core.specs.Snapshot.{has, snapshot_at}
use Rattle.rule_core.specs.Coalesced.{Covers}
use Rattle.rule_core.specs.Renaming.{renamed_term, renamed_fact, renamed_facts, HoldTheSame}
use Rattle.rule_core.proofs.ListLemmas.{Contains-nil, Contains-head, Contains-cons, Contains-from_map}
use Rattle.fact_table.specs.declared.fact.Fact.{Fact}
use Rattle.fact_table.specs.Snapshots.{snapshot_of, stamped_facts, with_terms}
use Rattle.exchange_engine.specs.Loading.{RawTable, text_in, as_text, AreFactsOf}

-- snapshots

-- what a row becomes, over its span
abbrev pub restamped : {X Y : Type 0} → (X → Y) → StampedOf X → StampedOf Y
restamped f e = record { row = f e.row; span = e.span }

-- what becomes of a snapshot is the snapshot of what becomes of the list
pub map-snapshot_at : {X Y : Type 0} (f : X → Y) (list : List (StampedOf X)) (t : ℤ)
    → map f (snapshot_at list t) ≡ snapshot_at (map (restamped f) list) t
map-snapshot_at f [] t = refl
map-snapshot_at {X} {Y} f (e ∷ list) t =
    by_test (has e.span t) (filter (λ s. has s.span t) list) (filter (λ s. has s.span t) (map (restamped f) list))
    (map-snapshot_at f list t)
  where
    by_test : (b : Bool) (now : List (StampedOf X)) (later : List (StampedOf Y)) → map f (map (λ s. s.row) now) ≡ map (λ s. s.row) later
        → map f (map (λ s. s.row) (cond b (e ∷ now) now)) ≡ map (λ s. s.row) (cond b (restamped f e ∷ later) later)
    by_test true now later same = ap (λ rest. f e.row ∷ rest) same
    by_test false now later same = same

-- a list that has each entry of another covers what this one covers
Covers-within : {X : Type 0} (a b : List (StampedOf X)) → ((e : StampedOf X) → Contains a e → Contains b e)
    → (row : X) (t : ℤ) → Covers a row t → Covers b row t
Covers-within a b each row t c =
    let there = each c.1 (c.0, c.2, c.3) in
    (there.0, c.1, there.1, there.2, c.4)

-- a fact is in a snapshot exactly where the list covers it
abbrev pub HoldWhatIsCovered : Type 0
HoldWhatIsCovered = (stamped : List (StampedOf (FactOf (List ℕ)))) (fact : FactOf (List ℕ)) (t : ℤ)
    → Contains (snapshot_at stamped t) fact ↔ Covers stamped fact t

-- lists with the same entries hold the same at each instant
pub snapshots_same : HoldWhatIsCovered → (a b : List (StampedOf (FactOf (List ℕ))))
    → ((e : StampedOf (FactOf (List ℕ))) → Contains a e ↔ Contains b e)
    → (t : ℤ) → HoldTheSame (snapshot_at a t) (snapshot_at b t)
snapshots_same covers a b same t fact = (
  λ c. (covers b fact t).1 (Covers-within a b (λ e. (same e).0) fact t ((covers a fact t).0 c)),
  λ c. (covers a fact t).1 (Covers-within b a (λ e. (same e).1) fact t ((covers b fact t).0 c)),
)

-- the facts of a source

module _ (to : ConstId → List ℕ) (pool : List (List ℕ)) (texts : (c : ConstId) → c.0 < length pool → to c ≡ text_in pool c) where
  -- a row whose constants are named is its texts
  renamed_row : (row : List ConstId) → All (λ c. c.0 < length pool) row
      → map (renamed_term to) (map constant row) ≡ map (renamed_term (text_in pool)) (map constant row)
  renamed_row [] within = refl
  renamed_row (c ∷ row) within =
      let first = texts c (All-head (λ d. d.0 < length pool) c row within) in
      let rest = renamed_row row (All-tail (λ d. d.0 < length pool) c row within) in
      λ i. constant (first i) ∷ rest i

  -- facts whose constants are named are those facts as texts
  as_texts : (table : List Fact) → All (λ fact. All (λ c. c.0 < length pool) fact.row) table
      → map (restamped (renamed_fact to)) (map with_terms table) ≡ map (as_text pool) table
  as_texts [] within = refl
  as_texts (fact ∷ table) within =
      let first = renamed_row fact.row (All-head (λ g. All (λ c. c.0 < length pool) g.row) fact table within) in
      let rest = as_texts table (All-tail (λ g. All (λ c. c.0 < length pool) g.row) fact table within) in
      λ i. record { row = record { relation = fact.relation; terms = first i }; span = fact.span } ∷ rest i

  -- the named facts of a loaded source hold at each instant what its tables hold
  pub source_holds_the_same : HoldWhatIsCovered → (tables : List RawTable) (table : List Fact)
      → stamped_facts table ≡ map with_terms table → AreFactsOf tables pool table
      → All (λ fact. All (λ c. c.0 < length pool) fact.row) table
      → (t : ℤ) → HoldTheSame (renamed_facts to (snapshot_of table t)) (snapshot_at (facts_of (map as_terms tables)) t)
  source_holds_the_same covers tables table listed facts within t =
      let read : renamed_facts to (snapshot_of table t) ≡ snapshot_at (map (as_text pool) table) t =
      ap (λ l. renamed_facts to (snapshot_at l t)) listed
      ∙ map-snapshot_at (renamed_fact to) (map with_terms table) t
      ∙ ap (λ l. snapshot_at l t) (as_texts table within) in
      subst (λ l. HoldTheSame l (snapshot_at (facts_of (map as_terms tables)) t)) (sym read)
      (snapshots_same covers (map (as_text pool) table) (facts_of (map as_terms tables)) facts t)

-- the facts of tables

-- the tables whose terms become others
abbrev pub retold : {X Y : Type 0} → (X → Y) → List (StampedOf (List X)) → List (StampedOf (List Y))
retold g table = map (λ e. record { row = map g e.row; span = e.span }) table

-- it is a term of a row of a table
abbrev pub IsIn : {X : Type 0} → List (List (StampedOf (List X))) → X → Type 0
IsIn tables x = Any (λ table. Any (λ e. Contains e.row x) table) tables

-- a fact whose terms become others
abbrev pub fact_of : {C D : Type 0} → (TermOf C → TermOf D) → FactOf C → FactOf D
fact_of h fact = record { relation = fact.relation; terms = map h fact.terms }

module _ {X C D : Type 0} (g : X → TermOf C) (h : TermOf C → TermOf D) (k : X → TermOf D) where
  -- a row
  row_retold : (row : List X) → ((x : X) → Contains row x → h (g x) ≡ k x) → map h (map g row) ≡ map k row
  row_retold [] same = refl
  row_retold (x ∷ row) same =
      let first = same x (Contains-head x row) in
      let rest = row_retold row (λ y c. same y (Contains-cons x y row c)) in
      λ i. first i ∷ rest i

  -- the facts of a relation
  abbrev listed : {E : Type 0} → ℕ → List (StampedOf (List (TermOf E))) → List (StampedOf (FactOf E))
  listed relation table = map (λ e. record { row = record { relation = relation; terms = e.row }; span = e.span }) table

  listed_retold : (relation : ℕ) (table : List (StampedOf (List X)))
      → ((e : StampedOf (List X)) → Contains table e → (x : X) → Contains e.row x → h (g x) ≡ k x)
      → map (restamped (fact_of h)) (listed relation (retold g table)) ≡ listed relation (retold k table)
  listed_retold relation [] same = refl
  listed_retold relation (e ∷ table) same =
      let first = row_retold e.row (same e (Contains-head e table)) in
      let rest = listed_retold relation table (λ d c. same d (Contains-cons e d table c)) in
      λ i. record { row = record { relation = relation; terms = first i }; span = e.span } ∷ rest i

  -- the facts of all relations from a number on
  facts_retold : (relation : ℕ) (tables : List (List (StampedOf (List X))))
      → ((table : List (StampedOf (List X))) → Contains tables table → (e : StampedOf (List X)) → Contains table e
      → (x : X) → Contains e.row x → h (g x) ≡ k x)
      → map (restamped (fact_of h)) (facts_from relation (map (retold g) tables)) ≡ facts_from relation (map (retold k) tables)
  facts_retold relation [] same = refl
  facts_retold relation (table ∷ tables) same =
      let first = listed_retold relation table (same table (Contains-head table tables)) in
      let rest = facts_retold (relation + 1) tables (λ d c. same d (Contains-cons table d tables c)) in
      map-append (restamped (fact_of h)) (listed relation (retold g table)) (facts_from (relation + 1) (map (retold g) tables))
      ∙ (λ i. first i ++ rest i)

  -- the facts of tables at an instant, whose terms become others
  pub snapshot_retold : (tables : List (List (StampedOf (List X)))) → ((x : X) → IsIn tables x → h (g x) ≡ k x)
      → (t : ℤ) → map (fact_of h) (snapshot_at (facts_of (map (retold g) tables)) t) ≡ snapshot_at (facts_of (map (retold k) tables)) t
  snapshot_retold tables same t =
      map-snapshot_at (fact_of h) (facts_of (map (retold g) tables)) t
      ∙ ap (λ l. snapshot_at l t)
      (facts_retold 0 tables (λ table c e d x there. same x (c.0, table, c.1, c.2, (d.0, e, d.1, d.2, there))))

module _ {X : Type 0} (g : X → TermOf (List ℕ)) where
  -- a term of a fact of tables is what a term of a row becomes
  pub term_from : (relation : ℕ) (tables : List (List (StampedOf (List X)))) (stamped : StampedOf (FactOf (List ℕ)))
      → Contains (facts_from relation (map (retold g) tables)) stamped → (y : TermOf (List ℕ)) → Contains stamped.row.terms y
      → (table : List (StampedOf (List X))) × Contains tables table
      × (e : StampedOf (List X)) × Contains table e × (x : X) × Contains e.row x × (g x ≡ y)
  term_from relation [] stamped c y there = absurd (Contains-nil stamped c)
  term_from relation (table ∷ tables) stamped c y there =
      let fact : StampedOf (List (TermOf (List ℕ))) → StampedOf (FactOf (List ℕ)) =
      λ e. record { row = record { relation = relation; terms = e.row }; span = e.span } in
      elim (Contains-append_cases (map fact (retold g table)) (facts_from (relation + 1) (map (retold g) tables)) stamped c) [
        | inl here ↦
            let row = Contains-from_map fact (retold g table) stamped here in
            let e = Contains-from_map (λ (e : StampedOf (List X)). record { row = map g e.row; span = e.span }) table row.0 row.1 in
            let terms : map g e.0.row ≡ stamped.row.terms =
            ap (λ (s : StampedOf (List (TermOf (List ℕ)))). s.row) e.2 ∙ ap (λ (s : StampedOf (FactOf (List ℕ))). s.row.terms) row.2 in
            let x = Contains-from_map g e.0.row y (subst (λ l. Contains l y) (sym terms) there) in
            (table, Contains-head table tables, e.0, e.1, x.0, x.1, x.2)
        | inr later ↦
            let found = term_from (relation + 1) tables stamped later y there in
            (found.0, Contains-cons table found.0 tables found.1, found.2, found.3, found.4, found.5, found.6)
      ]

  -- and so one of a snapshot
  pub term_of_fact : HoldWhatIsCovered → (tables : List (List (StampedOf (List X)))) (t : ℤ) (fact : FactOf (List ℕ))
      → Contains (snapshot_at (facts_of (map (retold g) tables)) t) fact → (y : TermOf (List ℕ)) → Contains fact.terms y
      → (x : X) × IsIn tables x × (g x ≡ y)
  term_of_fact covers tables t fact c y there =
      let found = (covers (facts_of (map (retold g) tables)) fact t).0 c in
      let terms = subst (λ (f : FactOf (List ℕ)). Contains f.terms y) (sym found.4.0) there in
      let from = term_from 0 tables found.1 (found.0, found.2, found.3) y terms in
      (from.4, (from.1.0, from.0, from.1.1, from.1.2, (from.3.0, from.2, from.3.1, from.3.2, from.5)), from.6)
