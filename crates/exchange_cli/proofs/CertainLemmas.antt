-- Why the answers of a solved exchange are, as they are stored, exactly what is certain of what was read.
use Rattle.std.proofs.Common.{◌≡◌, ◌↔◌, ℕ, ◌<◌, ℤ, Some, List, [], ◌∷◌, map, length, refl, sym, ap, ◌∙◌, subst, All, Contains}
use Rattle.std.specs.Prelude.{slice_get}
use Rattle.std.specs.List.{AllZip}
use Rattle.std.specs.Ordering.{nat_cmp}
use Rattle.std.specs.Cmp.{IsTotalOrder}
use Rattle.std.specs.Cmp.Lexicographic.{slice_cmp}
use Rattle.std.proofs.lemmas.List.Elements.{All-nil, All-cons, All-contains, All-head, All-tail}
use Rattle.std.proofs.lemmas.List.{length-map}
use Rattle.time_line.specs.Span.{Has, HasInstant}
use Rattle.term_core.specs.declared.const_id.ConstId.{ConstId}
use Rattle.term_core.specs.declared.term.Unknown.{Unknown as HeldUnknown}
use Rattle.term_core.specs.declared.term.Term.{Term}
use Rattle.term_core.specs.declared.term.Term.TheVariants.{Const}
use Rattle.term_core.specs.Order.{unknown_cmp, term_cmp}
use Rattle.term_core.specs.Pool.{IsPool}
use Rattle.rule_core.specs.declared.rules.Query.{Query}
use Rattle.rule_core.specs.Mapping.{RuleSet}
use Rattle.rule_core.specs.Terms.{TermOf, constant, FactOf, StampedOf}
use Rattle.rule_core.specs.Order.{stored_cmp}
use Rattle.rule_core.specs.Snapshot.{snapshot_at}
use Rattle.rule_core.specs.Answers.{IsCertain, IsCertainAt}
use Rattle.rule_core.specs.Coalesced.{Covers, IsCoalesced}
use Rattle.rule_core.specs.Rebase.{renumbered, renumbered_query, IsRebased}
use Rattle.rule_core.specs.Renaming.{Renaming, renamed_facts, HoldTheSame, IsRuleConstant, IsQueryConstant}
use Rattle.rule_core.proofs.ListLemmas.{Contains-map, Contains-from_map}
use Rattle.mapping_core.specs.Mapping.{HasItsConstants}
use Rattle.fact_table.specs.declared.fact.Fact.{Fact}
use Rattle.fact_table.specs.Snapshots.{snapshot_of, stamped_facts, with_terms}
use Rattle.body_match.proofs.ListLemmas.{zip_at, zip_length, zip_from_each, contains_from_at, at_map}
use Rattle.body_match.proofs.SearchLemmas.{same_some}
use Rattle.exchange_engine.specs.Loading.{LoadedOf, HasEachConstant, AreFactsOf}
use Rattle.exchange_engine.specs.Solved.{TermTable, AreTargetTables, AreWithinPool, AreUnknownsOf, IsTermWithin}
use Rattle.exchange_engine.specs.Answered.{IsAnsweredBy, AreAnswered}
use Rattle.exchange_cli.specs.Inputs.{Inputs, name_of, source_of}
use Rattle.exchange_cli.specs.Answers.{IsCertainRow, HasCertain, answer_relation}
use Rattle.exchange_cli.specs.Rendering.{stored_term, stored_table}
use Rattle.exchange_cli.proofs.StoredOrderLemmas.{IsStorable, rows_cmp}
use Rattle.exchange_cli.proofs.FactTextLemmas.{HoldWhatIsCovered, source_holds_the_same}
use Rattle.exchange_cli.proofs.NameLemmas.{of_mapping, of_query, BeginsWith, name_is_text, renumbered_name}

-- an entry of a table
abbrev Entry : Type 0
Entry = StampedOf (List Term)

module _ (inputs : Inputs) (loaded : LoadedOf) (nulls : List HeldUnknown)
    (constants : HasItsConstants inputs.mapping.rules inputs.mapping.pool)
    (pool : IsPool loaded.pool) (each : HasEachConstant loaded)
    (rebased : IsRebased inputs.mapping.pool loaded.pool inputs.mapping.rules loaded.rules)
    (facts : AreFactsOf inputs.tables loaded.pool loaded.table)
    (tables : List TermTable) (unknowns : AreUnknownsOf tables nulls) (ordered : IsTotalOrder unknown_cmp)
    (alike : (texts : List (List ℕ)) → IsPool texts → (i j : ℕ) (a b : List ℕ)
    → slice_get texts i ≡ Some a → slice_get texts j ≡ Some b → nat_cmp i j ≡ slice_cmp nat_cmp a b)
    (covers : HoldWhatIsCovered)
    (renames : (r : Renaming ConstId (List ℕ)) (name : ConstId → ConstId) (rules : RuleSet) (query : Query)
    → (source : List (FactOf ConstId)) (ids : List ConstId) → IsCertain name rules query source ids
    ↔ IsCertain (λ c. r.to (name c)) rules query (renamed_facts r.to source) (map r.to ids))
    (begins : (texts : List (List ℕ)) → IsPool texts → (r : Renaming ConstId (List ℕ))
    × ((c : ConstId) → c.0 < length texts → slice_get texts c.0 ≡ Some (r.to c)))
    (sets : (name : ConstId → List ℕ) (rules : RuleSet) (query : Query) (source other : List (FactOf (List ℕ)))
    → (texts : List (List ℕ)) → HoldTheSame source other → IsCertain name rules query source texts → IsCertain name rules query other texts)
    (renumbers : (name other : ConstId → List ℕ) (number : ConstId → ConstId) (rules : RuleSet) (query : Query)
    → ((c : ConstId) → IsRuleConstant rules c → other (number c) ≡ name c)
    → ((c : ConstId) → IsQueryConstant query c → other (number c) ≡ name c)
    → (source : List (FactOf (List ℕ))) (texts : List (List ℕ))
    → IsCertain other (renumbered number rules) (renumbered_query number query) source texts ↔ IsCertain name rules query source texts)
    (stays : (told : List Term → List (TermOf (List ℕ))) (list : List (StampedOf (List Term)))
    → ((a b : StampedOf (List Term)) → Contains list a → Contains list b
    → stored_cmp (told a.row) (told b.row) ≡ slice_cmp term_cmp a.row b.row)
    → IsCoalesced (slice_cmp term_cmp) list
    → IsCoalesced stored_cmp (map (λ e. record { row = told e.row; span = e.span }) list))
    (listed : (table : List Fact) → stamped_facts table ≡ map with_terms table) where
  abbrev number : ConstId → ConstId
  number = rebased.0

  module _ (f : Renaming ConstId (List ℕ)) (starts : BeginsWith loaded.pool f.to) (query : Query)
      (there : Contains inputs.mapping.rules.queries query) where
    -- constants of the mapping have their texts for names
    rule_names : (c : ConstId) → IsRuleConstant inputs.mapping.rules c → f.to (number c) ≡ name_of inputs c
    rule_names c is = renumbered_name loaded.pool f.to starts inputs.mapping.pool number rebased.1 c
        (constants.there c (of_mapping inputs.mapping.rules c is))

    query_names : (c : ConstId) → IsQueryConstant query c → f.to (number c) ≡ name_of inputs c
    query_names c is = renumbered_name loaded.pool f.to starts inputs.mapping.pool number rebased.1 c
        (constants.there c (of_query inputs.mapping.rules query there c is))

    -- numbers are certain where their names are
    certain_named : (t : ℤ) (ids : List ConstId)
        → IsCertainAt (λ c. c) loaded.rules (renumbered_query number query) (stamped_facts loaded.table) t ids
        ↔ IsCertainAt (name_of inputs) inputs.mapping.rules query (source_of inputs) t (map f.to ids)
    certain_named t ids =
        let now = snapshot_of loaded.table t in
        let source = renamed_facts f.to now in
        let read = snapshot_at (source_of inputs) t in
        let asked = renumbered_query number query in
        let same : HoldTheSame source read =
        source_holds_the_same f.to loaded.pool (name_is_text loaded.pool f.to starts) covers inputs.tables loaded.table
        (listed loaded.table) facts each.facts t in
        let one = renames f (λ c. c) loaded.rules asked now ids in
        let two = renumbers (name_of inputs) f.to number inputs.mapping.rules query rule_names query_names source (map f.to ids) in (
          λ c. sets (name_of inputs) inputs.mapping.rules query source read (map f.to ids) same
              (two.0 (subst (λ rules. IsCertain f.to rules asked source (map f.to ids)) rebased.2 (one.0 c))),
          λ c. one.1 (subst (λ rules. IsCertain f.to rules asked source (map f.to ids)) (sym rebased.2)
              (two.1 (sets (name_of inputs) inputs.mapping.rules query read source (map f.to ids)
              (λ fact. ((same fact).1, (same fact).0)) c))),
        )

    -- a row of numbers of the pool is stored as their names
    row_named : (ids : List ConstId) → All (IsTermWithin (length loaded.pool)) (map Const ids)
        → map (stored_term loaded.pool nulls) (map Const ids) ≡ map constant (map f.to ids)
    row_named [] within = refl
    row_named (c ∷ ids) within =
        let first = name_is_text loaded.pool f.to starts c (All-head (IsTermWithin (length loaded.pool)) (Const c) (map Const ids) within) in
        let rest = row_named ids (All-tail (IsTermWithin (length loaded.pool)) (Const c) (map Const ids) within) in
        λ i. constant (sym first i) ∷ rest i

    names_back : (texts : List (List ℕ)) → map f.to (map f.from texts) ≡ texts
    names_back [] = refl
    names_back (text ∷ texts) = λ i. f.forth text i ∷ names_back texts i

    module _ (list : TermTable) (answered : IsAnsweredBy loaded (renumbered_query number query) list) where
      abbrev stored_entry : Entry → StampedOf (List (TermOf (List ℕ)))
      stored_entry e = record { row = map (stored_term loaded.pool nulls) e.row; span = e.span }

      within_at : (e : Entry) → Contains list e → All (IsTermWithin (length loaded.pool)) e.row
      within_at e c = All-contains (λ (x : Entry). All (IsTermWithin (length loaded.pool)) x.row) list e answered.within c

      -- an entry is a list of constants
      constants_at : (e : Entry) → Contains list e → (ids : List ConstId) × (e.row ≡ map Const ids)
      constants_at e c =
          let instant = All-contains (λ (x : Entry). HasInstant x.span) list e answered.coalesced.spans c in
          let a = (answered.certain e.row instant.0).0 (c.0, e, c.1, c.2, (refl, instant.1)) in
          (a.0, a.1)

      storable : (e : Entry) → Contains list e → All (IsStorable loaded.pool nulls) e.row
      storable e c =
          let ids = constants_at e c in
          subst (All (IsStorable loaded.pool nulls)) (sym ids.1)
          (by ids.0 (subst (All (IsTermWithin (length loaded.pool))) ids.1 (within_at e c)))
        where
          by : (ids : List ConstId) → All (IsTermWithin (length loaded.pool)) (map Const ids)
              → All (IsStorable loaded.pool nulls) (map Const ids)
          by [] within = All-nil (IsStorable loaded.pool nulls)
          by (c ∷ ids) within =
              All-cons (IsStorable loaded.pool nulls) (Const c) (map Const ids)
              (All-head (IsTermWithin (length loaded.pool)) (Const c) (map Const ids) within)
              (by ids (All-tail (IsTermWithin (length loaded.pool)) (Const c) (map Const ids) within))

      pub has_certain : HasCertain inputs query (stored_table loaded.pool nulls list)
      has_certain = record {
        coalesced = stays (map (stored_term loaded.pool nulls)) list
            (λ a b c e. rows_cmp ordered nulls unknowns.ascending loaded.pool (alike loaded.pool pool) a.row b.row
            (storable a c) (storable b e))
            answered.coalesced;
        certain = λ row t. (to row t, from row t);
      }
        where
          to : (row : List (TermOf (List ℕ))) (t : ℤ) → Covers (stored_table loaded.pool nulls list) row t → IsCertainRow inputs query t row
          to row t c =
              let k = Contains-from_map stored_entry list c.1 (c.0, c.2, c.3) in
              let e : Entry = k.0 in
              let has = subst (λ (s : StampedOf (List (TermOf (List ℕ)))). Has s.span t) (sym k.2) c.4.1 in
              let a = (answered.certain e.row t).0 (k.1.0, e, k.1.1, k.1.2, (refl, has)) in
              let within = subst (All (IsTermWithin (length loaded.pool))) a.1 (within_at e k.1) in (
                map f.to a.0,
                sym c.4.0
                    ∙ ap (λ (s : StampedOf (List (TermOf (List ℕ)))). s.row) (sym k.2)
                    ∙ ap (map (stored_term loaded.pool nulls)) a.1
                    ∙ row_named a.0 within,
                (certain_named t a.0).0 a.2,
              )

          from : (row : List (TermOf (List ℕ))) (t : ℤ) → IsCertainRow inputs query t row → Covers (stored_table loaded.pool nulls list) row t
          from row t h =
              let ids = map f.from h.0 in
              let named : map f.to ids ≡ h.0 = names_back h.0 in
              let held = (certain_named t ids).1
              (subst (IsCertainAt (name_of inputs) inputs.mapping.rules query (source_of inputs) t) (sym named) h.2) in
              let c = (answered.certain (map Const ids) t).1 (ids, refl, held) in
              let e : Entry = c.1 in
              let inside : Contains list e = (c.0, c.2, c.3) in
              let k = Contains-map stored_entry list e inside in
              let within = subst (All (IsTermWithin (length loaded.pool))) c.4.0 (within_at e inside) in (
                k.0,
                stored_entry e,
                k.1,
                k.2,
                (
                  ap (map (stored_term loaded.pool nulls)) c.4.0 ∙ row_named ids within ∙ ap (map constant) named ∙ sym h.1,
                  c.4.1,
                ),
              )

  -- so it is of all queries
  pub have_certain : (answers : List TermTable) → AreAnswered loaded answers
      → AllZip (HasCertain inputs) inputs.mapping.rules.queries (map (stored_table loaded.pool nulls) answers)
  have_certain answers answered =
      let queries = inputs.mapping.rules.queries in
      let stored = stored_table loaded.pool nulls in
      let on : AllZip (IsAnsweredBy loaded) (map (renumbered_query number) queries) answers =
      subst (λ (rules : RuleSet). AllZip (IsAnsweredBy loaded) rules.queries answers) rebased.2 answered in
      let named = begins loaded.pool pool in
      zip_from_each (HasCertain inputs) queries (map stored answers)
      (sym (length-map queries (renumbered_query number))
      ∙ zip_length (IsAnsweredBy loaded) (map (renumbered_query number) queries) answers on
      ∙ sym (length-map answers stored))
      (λ k query table p r.
      let z = zip_at (IsAnsweredBy loaded) (map (renumbered_query number) queries) answers on k (renumbered_query number query)
      (at_map (renumbered_query number) queries k query p) in
      subst (HasCertain inputs query) (same_some (slice_get (map stored answers) k) (stored z.0) table (at_map stored answers k z.0 z.1) r)
      (has_certain named.0 named.1 query (contains_from_at queries k query p) z.0 z.2))

-- the answers are as wide as their heads, and their constants are of the pool

pub answers_wide : (loaded : LoadedOf) (answers : List TermTable) → AreAnswered loaded answers
    → AreTargetTables (map answer_relation loaded.rules.queries) answers
answers_wide loaded answers on = by loaded.rules.queries answers on
  where
    by : (queries : List Query) (answers : List TermTable) → AllZip (IsAnsweredBy loaded) queries answers
        → AreTargetTables (map answer_relation queries) answers
    by [] [] h = tt
    by [] (list ∷ lists) h = absurd h
    by (query ∷ queries) [] h = absurd h
    by (query ∷ queries) (list ∷ lists) h = (h.0.wide, by queries lists h.1)

pub answers_within : (loaded : LoadedOf) (answers : List TermTable) → AreAnswered loaded answers → AreWithinPool loaded answers
answers_within loaded answers on = by loaded.rules.queries answers on
  where
    by : (queries : List Query) (answers : List TermTable) → AllZip (IsAnsweredBy loaded) queries answers → AreWithinPool loaded answers
    by queries [] h = All-nil (λ table. All (λ e. All (IsTermWithin (length loaded.pool)) e.row) table)
    by [] (list ∷ lists) h = absurd h
    by (query ∷ queries) (list ∷ lists) h =
        All-cons (λ table. All (λ e. All (IsTermWithin (length loaded.pool)) e.row) table) list lists h.0.within (by queries lists h.1)

-- other numbers for constants leave the names and heads of queries
pub same_relations : (number : ConstId → ConstId) (queries : List Query)
    → map answer_relation (map (renumbered_query number) queries) ≡ map answer_relation queries
same_relations number [] = refl
same_relations number (query ∷ queries) = λ i. answer_relation query ∷ same_relations number queries i
