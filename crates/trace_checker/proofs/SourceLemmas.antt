-- A source as texts, and as numbers of a pool.
use Rattle.std.proofs.Common.{◌≡◌, ◌≢◌, ◌⊎◌, ◌≤◌, ◌↔◌, ℕ, ℤ, ◌<◌, List, [], ◌∷◌, length, map, get_or, drop, refl, sym, ap, ◌∙◌, subst, inl, inr, arith, All, Contains}
use Rattle.std.proofs.lemmas.Bool.{cases_lt}
use Rattle.std.proofs.lemmas.List.{get_or-map, length-map}
use Rattle.std.proofs.lemmas.List.Elements.{All-head, All-tail, All-contains, All-get_or}
use Rattle.time_line.specs.Span.{Has}
use Rattle.term_core.specs.declared.const_id.ConstId.{ConstId}
use Rattle.term_core.specs.Pool.{IsPool, IsBefore}
use Rattle.term_core.proofs.PoolLemmas.{before_itself}
use Rattle.rule_core.specs.Terms.{numbered, TermOf, constant, unknown, FactOf, StampedOf}
use Rattle.rule_core.specs.Snapshot.{snapshot_at}
use Rattle.rule_core.specs.Renaming.{renamed_term, renamed_fact, renamed_stamped}
use Rattle.rule_core.specs.Coalesced.{Covers}
use Rattle.rule_core.proofs.ListLemmas.{Contains-map, Contains-from_map}
use Rattle.rule_core.proofs.SnapshotLemmas.{snapshot_covers, covered_in_snapshot}
use Rattle.fact_table.specs.declared.fact.Fact.{Fact}
use Rattle.fact_table.specs.Facts.{HasAt}
use Rattle.fact_table.specs.Snapshots.{with_terms}
use Rattle.fact_table.proofs.SnapshotLemmas.{same_facts}
use Rattle.trace_checker.specs.declared.name.Name.{Name}
use Rattle.failure_trace.specs.Projected.{pool_text}
use Rattle.trace_checker.specs.Checked.{source_of}
use Rattle.trace_checker.specs.Names.{term_named}
use Rattle.trace_checker.specs.States.{NameThem}
use Rattle.trace_checker.proofs.NameLemmas.{map_twice}

abbrev Texts : Type 0
Texts = TermOf (List ℕ)

abbrev text_or : List ℕ → Texts → List ℕ
text_or s (constant c) = c
text_or s (unknown u) = s

module _ (pool : List (List ℕ)) where
  abbrev pub named : ConstId → Texts
  named id = constant (pool_text pool id)

  renamed_constants : (row : List ConstId) → map (renamed_term (pool_text pool)) (map constant row) ≡ map named row
  renamed_constants [] = refl
  renamed_constants (c ∷ row) = λ i. named c ∷ renamed_constants row i

  -- a fact over its span, with the texts of its constants
  abbrev pub as_text : Fact → StampedOf (FactOf (List ℕ))
  as_text fact = record { row = renamed_fact (pool_text pool) (with_terms fact).row; span = fact.span }

  -- the source is made of these
  pub source_is : (table : List Fact) → source_of pool table ≡ map as_text table
  source_is table = ap (renamed_stamped (pool_text pool)) (same_facts table)
      ∙ map_twice (λ (e : StampedOf (FactOf ConstId)). record { row = renamed_fact (pool_text pool) e.row; span = e.span }) with_terms table

  abbrev In : ConstId → Type 0
  In id = id.0 < length pool

  module _ (is : IsPool pool) where
    same_id : (c d : ConstId) → In c → In d → named c ≡ named d → c ≡ d
    same_id c d inc ind e = by (cases_lt c.0 d.0) (cases_lt d.0 c.0)
      where
        texts : pool_text pool c ≡ pool_text pool d
        texts = ap (text_or []) e

        by : (c.0 < d.0) ⊎ (d.0 ≤ c.0) → (d.0 < c.0) ⊎ (c.0 ≤ d.0) → c ≡ d
        by (inl lt) h = absurd (before_itself (pool_text pool d) (subst (λ t. IsBefore t (pool_text pool d)) texts (is.order c.0 d.0 [] lt ind)))
        by (inr ge) (inl lt) = absurd (before_itself (pool_text pool c) (subst (λ t. IsBefore t (pool_text pool c)) (sym texts) (is.order d.0 c.0 [] lt inc)))
        by (inr ge) (inr le) = let same : c.0 ≡ d.0 = omega (arith, ge, le) in λ i. record { 0 = same i }

    same_ids : (cs ds : List ConstId) → All In cs → All In ds → map named cs ≡ map named ds → cs ≡ ds
    same_ids [] [] a b e = refl
    same_ids [] (d ∷ ds) a b e = absurd cc
    same_ids (c ∷ cs) [] a b e = absurd cc
    same_ids (c ∷ cs) (d ∷ ds) a b e =
        let first = same_id c d (All-head In c cs a) (All-head In d ds b) (ap (λ l. get_or l 0 (named c)) e) in
        let rest = same_ids cs ds (All-tail In c cs a) (All-tail In d ds b) (ap (drop 1) e) in
        λ i. first i ∷ rest i

  abbrev fact_of : ℕ → List Texts → FactOf (List ℕ)
  fact_of relation terms = record { relation = relation; terms = terms }

  module _ (table : List Fact) (t : ℤ) (facts : All (λ fact. All In fact.row) table) where
    -- a fact that the source holds is one of the table's
    from_source : (fact : FactOf (List ℕ)) → Contains (snapshot_at (source_of pool table) t) fact
        → (f : Fact) × Contains table f × (fact_of f.relation (map named f.row) ≡ fact) × Has f.span t
    from_source fact c =
        let covers = subst (λ source. Covers source fact t) (source_is table) (snapshot_covers (source_of pool table) fact t c) in
        let made = Contains-from_map as_text table covers.1 (covers.0, covers.2, covers.3) in (
          made.0,
          made.1,
          (λ i. fact_of made.0.relation (sym (renamed_constants made.0.row) i)) ∙ ap (λ (s : StampedOf (FactOf (List ℕ))). s.row) made.2 ∙ covers.4.0,
          subst (λ (s : StampedOf (FactOf (List ℕ))). Has s.span t) (sym made.2) covers.4.1,
        )

    -- and the other way
    in_source : (f : Fact) → Contains table f → Has f.span t → Contains (snapshot_at (source_of pool table) t) (fact_of f.relation (map named f.row))
    in_source f c has =
        let d = Contains-map as_text table f c in
        let there : Covers (map as_text table) (fact_of f.relation (map named f.row)) t =
        (d.0, as_text f, d.1, d.2, (λ i. fact_of f.relation (renamed_constants f.row i), has)) in
        covered_in_snapshot (source_of pool table) (fact_of f.relation (map named f.row)) t
        (subst (λ source. Covers source (fact_of f.relation (map named f.row)) t) (sym (source_is table)) there)

    -- what the table has at an instant is what the source holds then
    pub source_has : IsPool pool → (relation : ℕ) (ids : List ConstId) (names : List Name) → NameThem pool ids names
        → HasAt table relation ids t ↔ Contains (snapshot_at (source_of pool table) t) (fact_of relation (map term_named names))
    source_has is relation ids names name = (
      λ h. subst (Contains (snapshot_at (source_of pool table) t))
          (λ i. fact_of (h.4.0 i) ((ap (map named) h.4.1 ∙ name.same) i))
          (in_source h.1 (h.0, h.2, h.3) h.4.2),
      λ c.
          let d = from_source (fact_of relation (map term_named names)) c in
          let row = same_ids is d.0.row ids (All-contains (λ (f : Fact). All In f.row) table d.0 facts d.1) name.within
          (ap (λ (f : FactOf (List ℕ)). f.terms) d.2 ∙ sym name.same) in
          (d.1.0, d.0, d.1.1, d.1.2, (ap (λ (f : FactOf (List ℕ)). f.relation) d.2, row, d.3)),
    )

    -- and has constants of the pool alone
    pub source_named : (relation : ℕ) (names : List Name) → Contains (snapshot_at (source_of pool table) t) (fact_of relation (map term_named names))
        → (ids : List ConstId) × NameThem pool ids names
    source_named relation names c =
        let d = from_source (fact_of relation (map term_named names)) c in (
          d.0.row,
          record {
            within = All-contains (λ (f : Fact). All In f.row) table d.0 facts d.1;
            same = ap (λ (f : FactOf (List ℕ)). f.terms) d.2;
          },
        )

  -- where one term isn't a constant of the pool
  pub not_named : (ids : List ConstId) (names : List Name) (i : ℕ) (name : Name) → i < length names
      → ((id : ConstId) → id.0 < length pool → named id ≢ term_named (get_or names i name)) → ¬ (NameThem pool ids names)
  not_named ids names i name lt none them =
      let zero : ConstId = record { 0 = 0 } in
      let other : Texts = unknown (numbered 0) in
      let long : length ids ≡ length names = sym (length-map ids named) ∙ ap length them.same ∙ length-map names term_named in
      let within : i < length ids = omega (arith, lt, long) in
      none (get_or ids i zero) (All-get_or In ids i zero within them.within)
      (sym (get_or-map named ids i zero other within) ∙ ap (λ l. get_or l i other) them.same ∙ get_or-map term_named names i name other lt)
