-- Pieces on the way into files: those of a relation stand together, and each is as wide as its relation.
use Rattle.std.proofs.Common.{◌≡◌, ℕ, zero, suc, ◌+◌, ◌<◌, ◌≤◌, Bool, true, false, cond, List, [], ◌∷◌, ◌++◌, take, drop, map, length, get_or, refl, sym, ap, ◌∙◌, subst, inl, inr, ⊎_elim, arith, length-append, All, Contains}
use Rattle.std.specs.Prelude.{◌==◌, Some, slice_get, nat_lt}
use Rattle.std.specs.List.{filter}
use Rattle.std.specs.List.Sorted.{IsPartitionedBy, IsPartitionPoint}
use Rattle.std.specs.declared.cmp.Ordering.{Ordering}
use Rattle.std.specs.declared.cmp.Ordering.TheVariants.{Less, Equal, Greater}
use Rattle.std.specs.Ordering.{nat_cmp, ordering_then}
use Rattle.std.specs.Cmp.Lexicographic.{slice_cmp}
use Rattle.std.proofs.lemmas.Bool.{cases_lt, lt-ltb, ltb-true, ltb-false, eq-eqb, eqb-true}
use Rattle.std.proofs.lemmas.Bool.Decides.{nat_tests}
use Rattle.std.proofs.lemmas.List.{length-map, length-take-le, length-drop, get_or-drop, take_more}
use Rattle.std.proofs.lemmas.List.Elements.{All-map, All-weaker, All-contains, All-contains_itself, Contains-append_cases}
use Rattle.time_line.specs.Span.{span_cmp}
use Rattle.term_core.specs.Order.{id_cmp}
use Rattle.rule_core.specs.declared.rules.Relation.{Relation}
use Rattle.rule_core.specs.Mapping.{RuleSet}
use Rattle.rule_core.specs.Terms.{constant, TermOf, FactOf, StampedOf}
use Rattle.rule_core.specs.Tables.{facts_from, as_terms}
use Rattle.rule_core.specs.Renaming.{renamed_term}
use Rattle.rule_core.proofs.ListLemmas.{Contains-nil, Contains-map, Contains-from_map, Contains-from_filter}
use Rattle.temporal_csv.specs.Stored.{stamped_row, header_of, record_of, IsAsWideAs, AreNumbered, IsNumberedFromOne}
use Rattle.fact_table.specs.declared.fact.Fact.{Fact}
use Rattle.fact_table.specs.Facts.{fact_cmp, IsTable}
use Rattle.body_match.proofs.ListLemmas.{contains_from_at}
use Rattle.body_match.proofs.SearchLemmas.{some_and}
use Rattle.normaliser.specs.Normalised.{IsNormalised, IsPieceOf, IsEndInGroup}
use Rattle.normaliser.proofs.CutLemmas.{parted, order_drop}
use Rattle.exchange_engine.specs.Loading.{RawTable, AreTablesOf, AreFactsOf, as_text, text_in}
use Rattle.exchange_cli.specs.Pieces.{piece_row, piece_term, piece_table, piece_tables, of_relation}
use Rattle.exchange_cli.specs.Cutting.{IsInPool, AreInPool, IsAsWideAsItsRelation, AreAsWide}
use Rattle.exchange_cli.specs.Target.{TargetTable, IsTableFile, AreTableFiles}
use Rattle.exchange_cli.specs.declared.file.FileOut.{FileOut}
use Rattle.exchange_cli.proofs.StoringLemmas.{files_push}

-- a filter by places

-- where those that pass stand first, they are what the filter keeps
pub passing_first : {X : Type 0} (p : X → Bool) (xs : List X) (n : ℕ) → n ≤ length xs
    → IsPartitionPoint (λ x. p x ≡ true) (λ x. p x ≡ false) xs n → take n xs ≡ filter p xs
passing_first p [] zero within point = refl
passing_first p [] (suc n) within point = absurd (omega (arith, within))
passing_first p (x ∷ xs) zero within point =
    let here : p x ≡ false = point.1 zero x (omega arith) (omega arith) in
    let rest : take zero xs ≡ filter p xs =
    passing_first p xs zero (omega arith)
    (λ k d low high. absurd (omega (arith, high)), λ k d low high. point.1 (suc k) d (omega arith) (omega (arith, high))) in
    rest ∙ sym (λ i. cond (here i) (x ∷ filter p xs) (filter p xs))
passing_first p (x ∷ xs) (suc n) within point =
    let here : p x ≡ true = point.0 zero x (omega arith) (omega arith) in
    let rest : take n xs ≡ filter p xs =
    passing_first p xs n (omega (arith, within)) (
      λ k d low high. point.0 (suc k) d (omega arith) (omega (arith, high)),
      λ k d low high. point.1 (suc k) d (omega (arith, low)) (omega (arith, high)),
    ) in
    ap (λ l. x ∷ l) rest ∙ sym (λ i. cond (here i) (x ∷ filter p xs) (filter p xs))

-- where none of the first ones passes, the filter keeps what it keeps of the rest
pub behind_failing : {X : Type 0} (p : X → Bool) (xs : List X) (n : ℕ) → ((k : ℕ) (d : X) → k < n → p (get_or xs k d) ≡ false)
    → filter p (drop n xs) ≡ filter p xs
behind_failing p [] zero fails = refl
behind_failing p [] (suc n) fails = refl
behind_failing p (x ∷ xs) zero fails = refl
behind_failing p (x ∷ xs) (suc n) fails =
    behind_failing p xs n (λ k d less. fails (suc k) d (omega (arith, less)))
    ∙ sym (λ i. cond (fails zero x (omega arith) i) (x ∷ filter p xs) (filter p xs))

-- the pieces of a relation

not_greater : (r s : Ordering) → ordering_then r s ≡ Less → r ≡ Greater → ⊥
not_greater Less s e g = cc
not_greater Equal s e g = cc
not_greater Greater s e g = cc

nat_cmp-greater : (i j : ℕ) → j < i → nat_cmp i j ≡ Greater
nat_cmp-greater i j h = grind (arith, nat_tests)

-- of two facts in order, the second has no lesser relation
relation_up_to : (a b : Fact) → fact_cmp a b ≡ Less → a.relation ≤ b.relation
relation_up_to a b e = ⊎_elim
    (λ (less : b.relation < a.relation). absurd (not_greater (nat_cmp a.relation b.relation)
    (ordering_then (slice_cmp id_cmp a.row b.row) (span_cmp a.span b.span)) e (nat_cmp-greater a.relation b.relation less)))
    (λ (upto : a.relation ≤ b.relation). upto)
    (cases_lt b.relation a.relation)

module _ (relation : ℕ) where
  -- whether a piece stands before those of the relation, and whether it is one of them
  abbrev pub is_before : Fact → Bool
  is_before piece = nat_lt piece.relation relation

  abbrev pub is_of : Fact → Bool
  is_of piece = piece.relation == relation

  not_of : (n : ℕ) → n < relation → (n == relation) ≡ false
  not_of n less = grind (arith, nat_tests)

  module _ (pieces : List Fact) (table : IsTable pieces) where
    pub parted_before : IsPartitionedBy is_before pieces
    parted_before = parted (λ a b. fact_cmp a b ≡ Less) is_before
        (λ a b less e.
        let up = relation_up_to a b less in
        let below = ltb-true b.relation relation e in
        lt-ltb a.relation relation (omega (arith, up, below)))
        pieces table

    module _ (from : ℕ) (first : IsPartitionPoint (λ f. is_before f ≡ true) (λ f. is_before f ≡ false) pieces from) where
      -- from there on no piece is of a lesser relation
      no_lesser : (k : ℕ) (d : Fact) → k < length (drop from pieces) → relation ≤ (get_or (drop from pieces) k d).relation
      no_lesser k d within =
          let place : from + k < length pieces = omega (arith, within, length-drop from pieces) in
          rw (get_or-drop from pieces k d)
          (ltb-false (get_or pieces (from + k) d).relation relation (first.1 (from + k) d (omega arith) place))

      pub parted_of : IsPartitionedBy is_of (drop from pieces)
      parted_of = parted (λ (a b : Fact). (fact_cmp a b ≡ Less) × (relation ≤ a.relation)) is_of
          (λ a b both e.
          let up = relation_up_to a b both.0 in
          let same = eqb-true b.relation relation e in
          eq-eqb a.relation relation (omega (arith, up, same, both.1)))
          (drop from pieces)
          (λ i j d less within. (
            order_drop (λ a b. fact_cmp a b ≡ Less) pieces from table i j d less within,
            no_lesser i d (omega (arith, less, within)),
          ))

      pub those_between : (count : ℕ) → count ≤ length (drop from pieces)
          → IsPartitionPoint (λ f. is_of f ≡ true) (λ f. is_of f ≡ false) (drop from pieces) count
          → take count (drop from pieces) ≡ of_relation relation pieces
      those_between count within last =
          passing_first is_of (drop from pieces) count within last
          ∙ behind_failing is_of pieces from
          (λ k d less. not_of (get_or pieces k d).relation
          (ltb-true (get_or pieces k d).relation relation (first.0 k d (omega arith) less)))

-- the tables of pieces

module _ (pool : List (List ℕ)) (pieces : List Fact) where
  -- one more table
  tables_push : (first : ℕ) (relations : List Relation) (r : Relation)
      → piece_tables pool pieces first (relations ++ r ∷ [])
      ≡ piece_tables pool pieces first relations ++ piece_table pool (of_relation (first + length relations) pieces) ∷ []
  tables_push first [] r =
      let same : first ≡ first + zero = omega arith in
      λ i. piece_table pool (of_relation (same i) pieces) ∷ []
  tables_push first (q ∷ relations) r =
      let same : (first + 1) + length relations ≡ first + suc (length relations) = omega arith in
      ap (λ l. piece_table pool (of_relation first pieces) ∷ l)
      (tables_push (first + 1) relations r
      ∙ (λ i. piece_tables pool pieces (first + 1) relations ++ piece_table pool (of_relation (same i) pieces) ∷ []))

  -- and one more file
  pub piece_files_more : (prefix : List ℕ) (relations : List Relation) (files : List FileOut) (k : ℕ) (r : Relation) (f : FileOut)
      → k < length relations → r ≡ get_or relations k r
      → AreTableFiles prefix (take k relations) files (piece_tables pool pieces 0 (take k relations))
      → IsTableFile prefix r f (piece_table pool (of_relation k pieces))
      → AreTableFiles prefix (take (k + 1) relations) (files ++ f ∷ []) (piece_tables pool pieces 0 (take (k + 1) relations))
  piece_files_more prefix relations files k r f within is before one =
      let more : take (k + 1) relations ≡ take k relations ++ r ∷ [] =
      take_more relations k r within ∙ ap (λ q. take k relations ++ q ∷ []) (sym is) in
      let long : length (take k relations) ≡ k = length-take-le k relations (omega (arith, within)) in
      let size : 0 + length (take k relations) ≡ k = omega (arith, long) in
      let last : piece_table pool (of_relation (0 + length (take k relations)) pieces) ≡ piece_table pool (of_relation k pieces) =
      λ i. piece_table pool (of_relation (size i) pieces) in
      let tables : piece_tables pool pieces 0 (take k relations ++ r ∷ [])
      ≡ piece_tables pool pieces 0 (take k relations) ++ piece_table pool (of_relation k pieces) ∷ [] =
      tables_push 0 (take k relations) r ∙ ap (λ (t : TargetTable). piece_tables pool pieces 0 (take k relations) ++ t ∷ []) last in
      let pushed = files_push prefix (take k relations) files (piece_tables pool pieces 0 (take k relations)) r f
      (piece_table pool (of_relation k pieces)) before one in
      subst (λ (rs : List Relation). AreTableFiles prefix rs (files ++ f ∷ []) (piece_tables pool pieces 0 rs)) (sym more)
      (subst (λ (ts : List TargetTable). AreTableFiles prefix (take k relations ++ r ∷ []) (files ++ f ∷ []) ts) (sym tables) pushed)

  -- constants need no numbers
  pub pieces_are_numbered : All AreNumbered (map stamped_row (piece_table pool pieces))
  pieces_are_numbered =
      All-map AreNumbered stamped_row (piece_table pool pieces) (All-map (λ r. AreNumbered (stamped_row r)) (piece_row pool) pieces
      (λ k d l. All-map IsNumberedFromOne (piece_term pool) (get_or pieces k d).row (λ j e m. tt)))

-- pieces that are as wide as their relation make records that are as wide as its header
pub pieces_are_wide : (pool : List (List ℕ)) (relation : Relation) (pieces : List Fact)
    → All (λ (piece : Fact). length piece.row ≡ length relation.columns) pieces
    → All (IsAsWideAs (header_of relation.columns)) (map stamped_row (piece_table pool pieces))
pieces_are_wide pool relation pieces wide =
    All-map (IsAsWideAs (header_of relation.columns)) stamped_row (piece_table pool pieces)
    (All-map (λ r. IsAsWideAs (header_of relation.columns) (stamped_row r)) (piece_row pool) pieces
    (All-weaker (λ (piece : Fact). length piece.row ≡ length relation.columns)
    (λ piece. IsAsWideAs (header_of relation.columns) (stamped_row (piece_row pool piece))) one pieces wide))
  where
    one : (piece : Fact) → length piece.row ≡ length relation.columns
        → length (record_of (stamped_row (piece_row pool piece))) ≡ length (header_of relation.columns)
    one piece same = simp (length-append, length-map) (ap (λ n. n + 2) same)

-- the pieces of a relation are as wide as it
pub wide_of_relation : (relations : List Relation) (pieces : List Fact) (k : ℕ) (r : Relation) → slice_get relations k ≡ Some r
    → AreAsWide relations pieces → All (λ (piece : Fact). length piece.row ≡ length r.columns) (of_relation k pieces)
wide_of_relation relations pieces k r is wide =
    All-weaker (Contains (of_relation k pieces)) (λ (piece : Fact). length piece.row ≡ length r.columns)
    (λ piece there.
    let from = Contains-from_filter (λ (f : Fact). f.relation == k) pieces piece there in
    let same : piece.relation ≡ k = eqb-true piece.relation k from.1 in
    All-contains (IsAsWideAsItsRelation relations) pieces piece wide from.0 r (ap (λ n. slice_get relations n) same ∙ is))
    (of_relation k pieces) (All-contains_itself (of_relation k pieces))

-- from the facts that were read

-- facts of relations from a number on have no lesser relation
from_on : (first : ℕ) (tables : List RawTable) (s : StampedOf (FactOf (List ℕ))) → Contains (facts_from first (map as_terms tables)) s
    → first ≤ s.row.relation
from_on first [] s there = absurd (Contains-nil s there)
from_on first (table ∷ tables) s there =
    let fact : StampedOf (List (TermOf (List ℕ))) → StampedOf (FactOf (List ℕ)) =
    λ e. record { row = record { relation = first; terms = e.row }; span = e.span } in
    elim (Contains-append_cases (map fact (as_terms table)) (facts_from (first + 1) (map as_terms tables)) s there) [
      | inl here ↦
          let row = Contains-from_map fact (as_terms table) s here in
          let same : first ≡ s.row.relation = ap (λ (x : StampedOf (FactOf (List ℕ))). x.row.relation) row.2 in
          omega (arith, same)
      | inr later ↦ let more = from_on (first + 1) tables s later in omega (arith, more)
    ]

-- what holds for the later relations
behind : (first n : ℕ) (P : Type 0) (q : Relation) (relations : List Relation) (r : Relation) → first + 1 ≤ n
    → ((j : ℕ) → n ≡ (first + 1) + j → slice_get relations j ≡ Some r → P)
    → (k : ℕ) → n ≡ first + k → slice_get (q ∷ relations) k ≡ Some r → P
behind first n P q relations r least rest zero at is = absurd (omega (arith, least, at))
behind first n P q relations r least rest (suc j) at is = rest j (omega (arith, at)) is

-- and each is as wide as the relation with its number
wide_from : (first : ℕ) (relations : List Relation) (tables : List RawTable) → AreTablesOf relations tables
    → (s : StampedOf (FactOf (List ℕ))) → Contains (facts_from first (map as_terms tables)) s
    → (k : ℕ) (r : Relation) → s.row.relation ≡ first + k → slice_get relations k ≡ Some r → length s.row.terms ≡ length r.columns
wide_from first relations [] are s there k r at is = absurd (Contains-nil s there)
wide_from first [] (table ∷ tables) are s there k r at is = absurd are
wide_from first (q ∷ relations) (table ∷ tables) are s there k r at is =
    let fact : StampedOf (List (TermOf (List ℕ))) → StampedOf (FactOf (List ℕ)) =
    λ e. record { row = record { relation = first; terms = e.row }; span = e.span } in
    elim (Contains-append_cases (map fact (as_terms table)) (facts_from (first + 1) (map as_terms tables)) s there) [
      | inl here ↦
          let row = Contains-from_map fact (as_terms table) s here in
          let as_term : StampedOf (List (List ℕ)) → StampedOf (List (TermOf (List ℕ))) =
          λ e. record { row = map constant e.row; span = e.span } in
          let raw = Contains-from_map as_term table row.0 row.1 in
          let number : first ≡ s.row.relation = ap (λ (x : StampedOf (FactOf (List ℕ))). x.row.relation) row.2 in
          let zeroth : k ≡ 0 = omega (arith, number, at) in
          let relation : Some q ≡ Some r = sym (ap (λ n. slice_get (q ∷ relations) n) zeroth) ∙ is in
          let same : q ≡ r = cc in
          let terms : map constant raw.0.row ≡ s.row.terms =
          ap (λ (e : StampedOf (List (TermOf (List ℕ)))). e.row) raw.2 ∙ ap (λ (x : StampedOf (FactOf (List ℕ))). x.row.terms) row.2 in
          let wide : length raw.0.row ≡ length q.columns =
          All-contains (λ (e : StampedOf (List (List ℕ))). length e.row ≡ length q.columns) table raw.0 are.0 raw.1 in
          ap length (sym terms) ∙ length-map raw.0.row constant ∙ wide ∙ ap (λ (x : Relation). length x.columns) same
      | inr later ↦
          behind first s.row.relation (length s.row.terms ≡ length r.columns) q relations r (from_on (first + 1) tables s later)
          (λ j more there. wide_from (first + 1) relations tables are.1 s later j r more there) k at is
    ]

-- the facts of a loaded table are as wide as their relations
pub loaded_wide : (relations : List Relation) (tables : List RawTable) (pool : List (List ℕ)) (table : List Fact)
    → AreTablesOf relations tables → AreFactsOf tables pool table → AreAsWide relations table
loaded_wide relations tables pool table are facts =
    All-weaker (Contains table) (IsAsWideAsItsRelation relations)
    (λ fact there r is.
    let read = (facts (as_text pool fact)).0 (Contains-map (as_text pool) table fact there) in
    let at : fact.relation ≡ 0 + fact.relation = omega arith in
    let wide = wide_from 0 relations tables are (as_text pool fact) read fact.relation r at is in
    sym (length-map (map constant fact.row) (renamed_term (text_in pool)) ∙ length-map fact.row constant) ∙ wide)
    table (All-contains_itself table)

-- and of their pieces

module _ (rules : RuleSet) (table pieces : List Fact) (normalised : IsNormalised rules table pieces) where
  -- a piece has the relation and the row of a fact
  from_fact : (piece : Fact) → Contains pieces piece
      → (fact : Fact) × Contains table fact × (piece.relation ≡ fact.relation) × (piece.row ≡ fact.row)
  from_fact piece there =
      let cut = (normalised.exact piece).0 there in
      let found = some_and (λ (fact : Fact). IsPieceOf (IsEndInGroup rules table cut.0) fact piece) (slice_get table cut.0) cut.1 in
      (found.0, contains_from_at table cut.0 found.0 found.1, found.2.relation, found.2.row)

  pub pieces_in_pool : (size : ℕ) → AreInPool size table → AreInPool size pieces
  pieces_in_pool size within =
      All-weaker (Contains pieces) (λ (piece : Fact). IsInPool size piece.row)
      (λ piece there.
      let from = from_fact piece there in
      subst (IsInPool size) (sym from.3) (All-contains (λ (fact : Fact). IsInPool size fact.row) table from.0 within from.1))
      pieces (All-contains_itself pieces)

  pub pieces_as_wide : (relations : List Relation) → AreAsWide relations table → AreAsWide relations pieces
  pieces_as_wide relations wide =
      All-weaker (Contains pieces) (IsAsWideAsItsRelation relations)
      (λ piece there r is.
      let from = from_fact piece there in
      ap length from.3
      ∙ All-contains (IsAsWideAsItsRelation relations) table from.0 wide from.1 r (ap (λ n. slice_get relations n) (sym from.2) ∙ is))
      pieces (All-contains_itself pieces)
