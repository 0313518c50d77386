-- Coalesced tables as rows of a store: the same facts, told otherwise, and so the same answers.
use Rattle.std.proofs.Common.{◌≡◌, ℕ, ℤ, suc, ◌+◌, ◌<◌, ◌++◌, List, [], ◌∷◌, length, take, map, get_or, arith, add-zero, zero-add, append_assoc, refl, sym, ap, ◌∙◌, subst, Some, All, Contains, AllPairs}
use Rattle.std.proofs.lemmas.List.{append-nil, take_more, length-take-le}
use Rattle.std.specs.List.{AllZip}
use Rattle.std.specs.declared.cmp.Ordering.TheVariants.{Less}
use Rattle.std.specs.Cmp.{IsTotalOrder}
use Rattle.std.specs.Cmp.Lexicographic.{slice_cmp}
use Rattle.std.proofs.lemmas.List.Elements.{All-head, All-tail}
use Rattle.term_core.specs.declared.const_id.ConstId.{ConstId}
use Rattle.term_core.specs.declared.term.Term.{Term}
use Rattle.term_core.specs.declared.term.Term.TheVariants.{Const, Null}
use Rattle.term_core.specs.declared.term.Unknown.{Unknown as HeldUnknown}
use Rattle.term_core.specs.Order.{unknown_cmp, term_cmp}
use Rattle.rule_core.specs.declared.rules.Query.{Query}
use Rattle.rule_core.specs.Terms.{Unknown, numbered, named, TermOf, constant, unknown, FactOf, StampedOf}
use Rattle.rule_core.specs.Values.{unknown_value, term_value, table_value}
use Rattle.rule_core.specs.Tables.{facts_from}
use Rattle.rule_core.specs.Snapshot.{snapshot_at}
use Rattle.rule_core.specs.Homomorphism.{term_image, fact_image}
use Rattle.rule_core.specs.Coalesced.{IsCoalesced}
use Rattle.rule_core.proofs.ListLemmas.{Contains-map}
use Rattle.rule_core.proofs.SnapshotLemmas.{snapshot_covers, covered_in_snapshot}
use Rattle.rule_core.proofs.AnswerLemmas.{answer-after}
use Rattle.fact_table.specs.Snapshots.{seen_term, facts_of}
use Rattle.certain_answers.specs.Answering.{IsKnown, AreKnown, CoversAnswers, IsAnsweredOn}
use Rattle.certain_answers.specs.Shown.{TermTable, place_in, cell_for, rows_for, rows_from, held_row, held_rows, as_store}
use Rattle.certain_answers.specs.declared.table_rows.TableRow.{TableRow}
use Rattle.certain_answers.specs.declared.table_rows.TableRows.{TableRows}
use Rattle.certain_answers.proofs.RankLemmas.{count_is_place}

-- one pair more
pub zip_push : {X Y : Type 0} (R : X → Y → Type 0) (xs : List X) (ys : List Y) (x : X) (y : Y) → AllZip R xs ys → R x y
    → AllZip R (xs ++ x ∷ []) (ys ++ y ∷ [])
zip_push R [] [] x y h r = (r, tt)
zip_push R [] (z ∷ ys) x y h r = absurd h
zip_push R (w ∷ xs) [] x y h r = absurd h
zip_push R (w ∷ xs) (z ∷ ys) x y h r = (h.0, zip_push R xs ys x y h.1 r)

-- the rows of a store are those that the program holds
pub store_is : (held : TableRows) → as_store held ≡ map Some (held_rows held.rows)
store_is held = by held.rows
  where
    by : (rows : List TableRow) → map (λ row. Some (held_row row)) rows ≡ map Some (held_rows rows)
    by [] = refl
    by (row ∷ rows) = λ i. Some (held_row row) ∷ by rows i

-- an entry of a table, and a fact over its span
abbrev Entry : Type 0
Entry = StampedOf (List Term)

abbrev TargetFact : Type 0
TargetFact = StampedOf (FactOf ConstId)

-- what a number past the last stands for
abbrev no_unknown : HeldUnknown
no_unknown = record { rule = 0; frontier = []; var = 0 }

-- an unknown as the program holds it
abbrev held : Unknown ConstId → HeldUnknown
held (numbered n) = no_unknown
held (named rule frontier var) = record { rule = rule; frontier = frontier; var = var }

module _ (nulls : List HeldUnknown) where
  -- the rows of one table more
  rows_push : (n : ℕ) (tables : List TermTable) (table : TermTable)
      → rows_from nulls n (tables ++ table ∷ []) ≡ rows_from nulls n tables ++ rows_for nulls (n + length tables) table
  rows_push n [] table = append-nil (rows_for nulls n table) ∙ ap (λ k. rows_for nulls k table) (sym (add-zero n))
  rows_push n (first ∷ tables) table =
      let same : (n + 1) + length tables ≡ n + suc (length tables) = omega arith in
      ap (λ l. rows_for nulls n first ++ l) (rows_push (n + 1) tables table ∙ ap (λ k. rows_from nulls (n + 1) tables ++ rows_for nulls k table) same)
      ∙ sym (append_assoc (rows_for nulls n first) (rows_from nulls (n + 1) tables) (rows_for nulls (n + suc (length tables)) table))

  pub rows_more : (tables : List TermTable) (i : ℕ) (table : TermTable) → i < length tables → table ≡ get_or tables i table
      → rows_from nulls 0 (take (i + 1) tables) ≡ rows_from nulls 0 (take i tables) ++ rows_for nulls i table
  rows_more tables i table within is =
      ap (rows_from nulls 0) (take_more tables i table within ∙ ap (λ x. take i tables ++ x ∷ []) (sym is))
      ∙ rows_push 0 (take i tables) table
      ∙ ap (λ k. rows_from nulls 0 (take i tables) ++ rows_for nulls k table) (zero-add (length (take i tables)) ∙ length-take-le i tables (omega (arith, within)))

  -- each unknown by its place, and the unknown at a place
  abbrev placed : Unknown ConstId → TermOf ConstId
  placed u = unknown (numbered (place_in nulls (held u)))

  abbrev named_at : Unknown ConstId → TermOf ConstId
  named_at (numbered n) = unknown (unknown_value (get_or nulls n no_unknown))
  named_at (named rule frontier var) = unknown (named rule frontier var)

  -- a fact with its unknowns by their places
  abbrev placed_fact : TargetFact → TargetFact
  placed_fact e = record { row = fact_image placed e.row; span = e.span }

  terms_placed : (terms : List Term) → map seen_term (map (cell_for nulls) terms) ≡ map (term_image placed) (map term_value terms)
  terms_placed [] = refl
  terms_placed (Const c ∷ terms) = λ i. constant c ∷ terms_placed terms i
  terms_placed (Null u ∷ terms) = λ i. unknown (numbered (place_in nulls u)) ∷ terms_placed terms i

  front_placed : (n : ℕ) (tables : List TermTable)
      → facts_of (map Some (rows_from nulls (n + 1) tables)) ≡ map placed_fact (facts_from (n + 1) (map table_value tables))
      → (table : TermTable)
      → facts_of (map Some (rows_from nulls n (table ∷ tables))) ≡ map placed_fact (facts_from n (map table_value (table ∷ tables)))
  front_placed n tables rest [] = rest
  front_placed n tables rest (x ∷ table) =
      let later = front_placed n tables rest table in
      λ i. record { row = record { relation = n; terms = terms_placed x.row i }; span = x.span } ∷ later i

  -- the rows are the facts of the tables with their unknowns by their places
  facts_placed : (n : ℕ) (tables : List TermTable)
      → facts_of (map Some (rows_from nulls n tables)) ≡ map placed_fact (facts_from n (map table_value tables))
  facts_placed n [] = refl
  facts_placed n (table ∷ tables) = front_placed n tables (facts_placed (n + 1) tables) table

  -- an unknown stands at its place
  module _ (ordered : IsTotalOrder unknown_cmp) (ascending : AllPairs (λ u w. unknown_cmp u w ≡ Less) nulls) where
    -- a fact with its unknowns by their names
    abbrev named_fact : TargetFact → TargetFact
    named_fact e = record { row = fact_image named_at e.row; span = e.span }

    terms_back : (terms : List Term) → All (IsKnown nulls) terms
        → map (term_image named_at) (map (term_image placed) (map term_value terms)) ≡ map term_value terms
    terms_back [] known = refl
    terms_back (Const c ∷ terms) known =
        let later = terms_back terms (All-tail (IsKnown nulls) (Const c) terms known) in
        λ i. constant c ∷ later i
    terms_back (Null u ∷ terms) known =
        let later = terms_back terms (All-tail (IsKnown nulls) (Null u) terms known) in
        let is = (count_is_place unknown_cmp ordered nulls ascending u (All-head (IsKnown nulls) (Null u) terms known)).1 no_unknown in
        λ i. unknown (unknown_value (is i)) ∷ later i

    abbrev IsKnownRow : Entry → Type 0
    IsKnownRow e = All (IsKnown nulls) e.row

    front_back : (n : ℕ) (tables : List TermTable)
        → map named_fact (map placed_fact (facts_from (n + 1) (map table_value tables))) ≡ facts_from (n + 1) (map table_value tables)
        → (table : TermTable) → All IsKnownRow table
        → map named_fact (map placed_fact (facts_from n (map table_value (table ∷ tables)))) ≡ facts_from n (map table_value (table ∷ tables))
    front_back n tables rest [] known = rest
    front_back n tables rest (x ∷ table) known =
        let here = terms_back x.row (All-head IsKnownRow x table known) in
        let later = front_back n tables rest table (All-tail IsKnownRow x table known) in
        λ i. record { row = record { relation = n; terms = here i }; span = x.span } ∷ later i

    facts_back : (n : ℕ) (tables : List TermTable) → All (λ table. All IsKnownRow table) tables
        → map named_fact (map placed_fact (facts_from n (map table_value tables))) ≡ facts_from n (map table_value tables)
    facts_back n [] known = refl
    facts_back n (table ∷ tables) known =
        front_back n tables (facts_back (n + 1) tables (All-tail (λ l. All IsKnownRow l) table tables known)) table
        (All-head (λ l. All IsKnownRow l) table tables known)

    module _ (tables : List TermTable) (known : AreKnown nulls tables) (t : ℤ) where
      abbrev facts : List TargetFact
      facts = facts_from 0 (map table_value tables)

      abbrev rows : List TargetFact
      rows = facts_of (map Some (rows_from nulls 0 tables))

      -- a fact that the tables hold is there by its places
      goes : (fact : FactOf ConstId) → Contains (snapshot_at facts t) fact → Contains (snapshot_at rows t) (fact_image placed fact)
      goes fact c =
          let h = snapshot_covers facts fact t c in
          let moved = subst (λ l. Contains l (placed_fact h.1)) (sym (facts_placed 0 tables))
          (Contains-map placed_fact facts h.1 (h.0, h.2, h.3)) in
          covered_in_snapshot rows (fact_image placed fact) t
          (moved.0, placed_fact h.1, moved.1, moved.2, (ap (fact_image placed) h.4.0, h.4.1))

      -- and the other way
      comes : (fact : FactOf ConstId) → Contains (snapshot_at rows t) fact → Contains (snapshot_at facts t) (fact_image named_at fact)
      comes fact c =
          let h = snapshot_covers rows fact t c in
          let moved = Contains-map named_fact (map placed_fact facts) h.1
          (subst (λ l. Contains l h.1) (facts_placed 0 tables) (h.0, h.2, h.3)) in
          let back = subst (λ l. Contains l (named_fact h.1)) (facts_back 0 tables known) moved in
          covered_in_snapshot facts (fact_image named_at fact) t
          (back.0, named_fact h.1, back.1, back.2, (ap (fact_image named_at) h.4.0, h.4.1))

    -- so lists of constants are answers on the one where they are on the other
    pub answered_on : (tables : List TermTable) → AreKnown nulls tables → (query : Query) (list : TermTable)
        → IsCoalesced (slice_cmp term_cmp) list → CoversAnswers query (map Some (rows_from nulls 0 tables)) list
        → IsAnsweredOn tables query list
    answered_on tables known query list coalesced covers = record {
      coalesced = coalesced;
      answers = λ row t.
          let one = snapshot_at (facts_from 0 (map table_value tables)) t in
          let two = snapshot_at (facts_of (map Some (rows_from nulls 0 tables))) t in (
            λ c.
                let a = (covers row t).0 c in
                (a.0, a.1, answer-after named_at (λ d. d) query two one a.0 (comes tables known t) a.2),
            λ h. (covers row t).1 (h.0, h.1, answer-after placed (λ d. d) query one two h.0 (goes tables known t) h.2),
          );
    }
