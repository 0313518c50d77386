-- Facts, added one after another.
use Rattle.std.proofs.Common.{◌≡◌, ℕ, ◌+◌, ◌<◌, List, [], ◌∷◌, ◌++◌, Some, length, map, take, refl, sym, ap, ◌∙◌, subst, arith, inl, inr, All, Contains, append_assoc, add-zero}
use Rattle.std.specs.Prelude.{slice_get, Option, IsPermutation}
use Rattle.std.specs.Option.{option_map}
use Rattle.std.proofs.lemmas.List.{append-nil, map-append, length-take-le}
use Rattle.std.proofs.lemmas.List.Elements.{All-append, All-cons, All-nil, Contains-append_left, Contains-append_right, Contains-append_cases}
use Rattle.std.proofs.lemmas.List.Sorted.{Contains-permutation, IsPermutation-sym}
use Rattle.std.proofs.lemmas.Option.{slice_get_within}
use Rattle.time_line.specs.Span.{Ends}
use Rattle.term_core.specs.declared.const_id.ConstId.{ConstId}
use Rattle.rule_core.specs.Terms.{TermOf, constant, FactOf, StampedOf}
use Rattle.rule_core.specs.Renaming.{renamed_term}
use Rattle.rule_core.specs.Tables.{facts_from, facts_of, as_terms}
use Rattle.rule_core.proofs.ListLemmas.{Contains-map, Contains-from_map}
use Rattle.fact_table.specs.declared.fact.Fact.{Fact}
use Rattle.exchange_engine.specs.declared.loading.facts.Head.{Head}
use Rattle.exchange_engine.specs.Loading.{RawTable, text_in, as_text}
use Rattle.exchange_engine.specs.Gathered.{Adds, raw_fact, raw_facts}
use Rattle.exchange_engine.proofs.GatheredLemmas.{front_more}

module _ (pool : List (List ℕ)) where
  -- nothing is added
  pub Adds-none : (facts : List Fact) → Adds pool facts facts []
  Adds-none facts = record {
    more = [];
    behind = sym (append-nil facts);
    reads = λ fact. (λ c. c, λ c. c);
    within = All-nil (λ (fact : Fact). All (λ c. c.0 < length pool) fact.row);
  }

  -- facts are added, and then others
  pub Adds-more : (old mid new : List Fact) (first second : List (StampedOf (FactOf (List ℕ)))) → Adds pool old mid first
      → Adds pool mid new second → Adds pool old new (first ++ second)
  Adds-more old mid new first second a b = record {
    more = a.more ++ b.more;
    behind = b.behind ∙ ap (λ l. l ++ b.more) a.behind ∙ append_assoc old a.more b.more;
    reads = λ fact. (
      λ c. elim (Contains-append_cases (map (as_text pool) a.more) (map (as_text pool) b.more) fact
          (subst (λ l. Contains l fact) (map-append (as_text pool) a.more b.more) c)) [
            | inl x ↦ Contains-append_left first second fact ((a.reads fact).0 x)
            | inr x ↦ Contains-append_right first second fact ((b.reads fact).0 x)
          ],
      λ c. subst (λ l. Contains l fact) (sym (map-append (as_text pool) a.more b.more)) (elim (Contains-append_cases first second fact c) [
        | inl x ↦ Contains-append_left (map (as_text pool) a.more) (map (as_text pool) b.more) fact ((a.reads fact).1 x)
        | inr x ↦ Contains-append_right (map (as_text pool) a.more) (map (as_text pool) b.more) fact ((b.reads fact).1 x)
      ]),
    );
    within = All-append (λ (fact : Fact). All (λ c. c.0 < length pool) fact.row) a.more b.more a.within b.within;
  }

-- behind the old facts stand more, of numbers of the pool, which are the rows of these heads as texts
pub record AddsInTurn (pool : List (List ℕ)) (relation : ℕ) (table : RawTable) (heads : List Head) (old new : List Fact) : Type 0 where
  pub more : List Fact
  pub behind : new ≡ old ++ more
  pub reads : map (λ fact. Some (as_text pool fact)) more ≡ map (λ head. option_map (raw_fact relation) (slice_get table head.at)) heads
  pub within : All (λ fact. All (λ c. c.0 < length pool) fact.row) more

module _ (pool : List (List ℕ)) (relation : ℕ) (table : RawTable) where
  abbrev row_at : Head → Option (StampedOf (List (List ℕ)))
  row_at head = slice_get table head.at

  abbrev shown : Fact → Option (StampedOf (FactOf (List ℕ)))
  shown fact = Some (as_text pool fact)

  abbrev wanted : Head → Option (StampedOf (FactOf (List ℕ)))
  wanted head = option_map (raw_fact relation) (row_at head)

  pub in_turn-none : (facts : List Fact) → AddsInTurn pool relation table [] facts facts
  in_turn-none facts = record {
    more = [];
    behind = sym (append-nil facts);
    reads = refl;
    within = All-nil (λ (fact : Fact). All (λ c. c.0 < length pool) fact.row);
  }

  -- one fact more
  pub in_turn-more : (heads : List Head) (i : ℕ) (head : Head) (old mid new : List Fact) (fact : Fact) → slice_get heads i ≡ Some head
      → AddsInTurn pool relation table (take i heads) old mid → new ≡ mid ++ fact ∷ [] → shown fact ≡ wanted head
      → All (λ c. c.0 < length pool) fact.row → AddsInTurn pool relation table (take (i + 1) heads) old new
  in_turn-more heads i head old mid new fact here before last same within = record {
    more = before.more ++ fact ∷ [];
    behind = last ∙ ap (λ l. l ++ fact ∷ []) before.behind ∙ append_assoc old before.more (fact ∷ []);
    reads = map-append shown before.more (fact ∷ []) ∙ (λ k. before.reads k ++ same k ∷ [])
        ∙ sym (map-append wanted (take i heads) (head ∷ [])) ∙ ap (map wanted) (sym (front_more heads i head here));
    within = All-append (λ (f : Fact). All (λ c. c.0 < length pool) f.row) before.more (fact ∷ []) before.within
        (All-cons (λ (f : Fact). All (λ c. c.0 < length pool) f.row) fact [] within
        (All-nil (λ (f : Fact). All (λ c. c.0 < length pool) f.row)));
  }

  module _ (heads : List Head) (all : IsPermutation (map (λ raw. Some raw) table) (map row_at heads)) where
    -- the row of each head is there
    pub row_of : (head : Head) → Contains heads head → (raw : StampedOf (List (List ℕ))) × Contains table raw × (row_at head ≡ Some raw)
    row_of head there =
        let r = Contains-from_map (λ raw. Some raw) table (row_at head)
        (Contains-permutation (map row_at heads) (map (λ raw. Some raw) table) (row_at head)
        (IsPermutation-sym (map (λ raw. Some raw) table) (map row_at heads) all) (Contains-map row_at heads head there)) in
        (r.0, r.1, sym r.2)

    pub in_turn-all : (old new : List Fact) → AddsInTurn pool relation table heads old new → Adds pool old new (raw_facts relation table)
    in_turn-all old new added = record {
      more = added.more;
      behind = added.behind;
      reads = λ fact. (
        λ c.
            let m = Contains-from_map (as_text pool) added.more fact c in
            let head = Contains-from_map wanted heads (shown m.0)
            (subst (λ l. Contains l (shown m.0)) added.reads (Contains-map shown added.more m.0 m.1)) in
            let raw = row_of head.0 head.1 in
            let both : Some (raw_fact relation raw.0) ≡ Some (as_text pool m.0) = ap (option_map (raw_fact relation)) (sym raw.2) ∙ head.2 in
            let same : raw_fact relation raw.0 ≡ as_text pool m.0 = cc in
            subst (Contains (raw_facts relation table)) (same ∙ m.2) (Contains-map (raw_fact relation) table raw.0 raw.1),
        λ c.
            let raw = Contains-from_map (raw_fact relation) table fact c in
            let head = Contains-from_map row_at heads (Some raw.0)
            (Contains-permutation (map (λ r. Some r) table) (map row_at heads) (Some raw.0) all (Contains-map (λ r. Some r) table raw.0 raw.1)) in
            let m = Contains-from_map shown added.more (wanted head.0)
            (subst (λ l. Contains l (wanted head.0)) (sym added.reads) (Contains-map wanted heads head.0 head.1)) in
            let both : Some (as_text pool m.0) ≡ Some (raw_fact relation raw.0) = m.2 ∙ ap (option_map (raw_fact relation)) head.2 in
            let same : as_text pool m.0 ≡ raw_fact relation raw.0 = cc in
            subst (Contains (map (as_text pool) added.more)) (same ∙ raw.2) (Contains-map (as_text pool) added.more m.0 m.1),
      );
      within = added.within;
    }

-- the head of one row more
pub heads_more : (table : RawTable) (i : ℕ) (heads new : List Head) (head : Head) (raw : StampedOf (List (List ℕ)))
    → slice_get table i ≡ Some raw → head.at ≡ i → new ≡ heads ++ head ∷ []
    → map (λ h. slice_get table h.at) heads ≡ map (λ r. Some r) (take i table)
    → map (λ h. slice_get table h.at) new ≡ map (λ r. Some r) (take (i + 1) table)
heads_more table i heads new head raw here at pushed e =
    ap (map (λ (h : Head). slice_get table h.at)) pushed ∙ map-append (λ (h : Head). slice_get table h.at) heads (head ∷ [])
    ∙ (λ k. e k ++ (ap (slice_get table) at ∙ here) k ∷ [])
    ∙ sym (map-append (λ r. Some r) (take i table) (raw ∷ [])) ∙ ap (map (λ r. Some r)) (sym (front_more table i raw here))

-- the rows of a table by way of its terms
by_terms : (relation : ℕ) (table : RawTable)
    → map (λ (e : StampedOf (List (TermOf (List ℕ)))). record { row = record { relation = relation; terms = e.row }; span = e.span }) (as_terms table)
    ≡ raw_facts relation table
by_terms relation [] = refl
by_terms relation (raw ∷ table) = ap (λ rest. raw_fact relation raw ∷ rest) (by_terms relation table)

-- one more table has the next relation
facts_from-push : (n : ℕ) (tables : List RawTable) (table : RawTable)
    → facts_from n (map as_terms (tables ++ table ∷ [])) ≡ facts_from n (map as_terms tables) ++ raw_facts (n + length tables) table
facts_from-push n [] table =
    append-nil _ ∙ by_terms n table ∙ ap (λ k. raw_facts k table) (sym (add-zero n))
facts_from-push n (first ∷ tables) table =
    let next : (n + 1) + length tables ≡ n + length (first ∷ tables) = omega arith in
    ap (λ rest. map (λ (e : StampedOf (List (TermOf (List ℕ)))). record { row = record { relation = n; terms = e.row }; span = e.span }) (as_terms first) ++ rest)
    (facts_from-push (n + 1) tables table ∙ ap (λ k. facts_from (n + 1) (map as_terms tables) ++ raw_facts k table) next)
    ∙ sym (append_assoc _ (facts_from (n + 1) (map as_terms tables)) (raw_facts (n + length (first ∷ tables)) table))

-- the front of tables with one more table
pub facts_of-more : (tables : List RawTable) (i : ℕ) (table : RawTable) → slice_get tables i ≡ Some table
    → facts_of (map as_terms (take (i + 1) tables)) ≡ facts_of (map as_terms (take i tables)) ++ raw_facts i table
facts_of-more tables i table e =
    let below = slice_get_within tables i table e in
    let size : 0 + length (take i tables) ≡ i = omega (arith, length-take-le i tables (omega arith)) in
    ap (λ front. facts_of (map as_terms front)) (front_more tables i table e)
    ∙ facts_from-push 0 (take i tables) table ∙ ap (λ k. facts_of (map as_terms (take i tables)) ++ raw_facts k table) size

-- a fact whose numbers have the texts of a row
renamed_constants : (pool : List (List ℕ)) (ids : List ConstId)
    → map (renamed_term (text_in pool)) (map constant ids) ≡ map constant (map (text_in pool) ids)
renamed_constants pool [] = refl
renamed_constants pool (id ∷ ids) = ap (λ rest. constant (text_in pool id) ∷ rest) (renamed_constants pool ids)

pub as_text-row : (pool : List (List ℕ)) (relation : ℕ) (ids : List ConstId) (span : Ends) (raw : StampedOf (List (List ℕ)))
    → map (text_in pool) ids ≡ raw.row → span ≡ raw.span
    → as_text pool (record { relation = relation; row = ids; span = span }) ≡ raw_fact relation raw
as_text-row pool relation ids span raw texts same =
    let terms = renamed_constants pool ids ∙ ap (map constant) texts in
    λ i. record { row = record { relation = relation; terms = terms i }; span = same i }
