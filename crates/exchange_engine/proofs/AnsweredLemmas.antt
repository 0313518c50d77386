-- What is answered on universal tables is certain, and is made of their constants.
use Rattle.std.proofs.Common.{◌≡◌, ℕ, ℤ, ◌<◌, Some, List, map, length, get_or, refl, sym, ap, ◌∙◌, subst, arith, All, Contains}
use Rattle.std.specs.Prelude.{slice_get}
use Rattle.std.specs.List.{AllZip}
use Rattle.std.proofs.lemmas.List.{length-map}
use Rattle.std.proofs.lemmas.List.Elements.{All-contains, All-weaker, Contains-get_or}
use Rattle.std.proofs.lemmas.Option.{slice_get-get_or}
use Rattle.time_line.specs.Span.{HasInstant}
use Rattle.term_core.specs.declared.const_id.ConstId.{ConstId}
use Rattle.term_core.specs.declared.term.Term.{Term}
use Rattle.term_core.specs.declared.term.Term.TheVariants.{Const, Null}
use Rattle.term_core.specs.declared.term.Unknown.{Unknown as HeldUnknown}
use Rattle.rule_core.specs.declared.rules.Arg.TheVariants.{Var}
use Rattle.rule_core.specs.declared.rules.Branch.{Branch}
use Rattle.rule_core.specs.declared.rules.Query.{Query}
use Rattle.rule_core.specs.declared.rules.Relation.{Relation}
use Rattle.rule_core.specs.Validity.{IsBranch, IsQuery}
use Rattle.rule_core.specs.Laws.{CertainIsAnswered}
use Rattle.rule_core.specs.Terms.{constant, FactOf}
use Rattle.rule_core.specs.Values.{term_value}
use Rattle.rule_core.specs.Snapshot.{snapshot_at}
use Rattle.rule_core.specs.Match.{value, image}
use Rattle.rule_core.specs.Answers.{IsAnswer}
use Rattle.rule_core.proofs.ListLemmas.{Contains-map, Contains-from_map}
use Rattle.rule_core.proofs.SnapshotLemmas.{snapshot_covers}
use Rattle.fact_table.specs.Snapshots.{snapshot_of}
use Rattle.body_match.proofs.ListLemmas.{at_within, at_from_contains, within_from_at, contains_from_at, maps_at, zip_at, zip_length, zip_from_each}
use Rattle.body_match.proofs.SearchLemmas.{same_some}
use Rattle.body_match.proofs.PlaceLemmas.{atom_from_occurs}
use Rattle.certain_answers.specs.Answering.{IsAnswerable, CanAnswer, IsKnown, AreKnown, IsAnsweredOn}
use Rattle.exchange_engine.specs.Loading.{LoadedOf}
use Rattle.exchange_engine.specs.Solved.{TermTable, AreUniversal, AreUnknownsOf, AreWithinPool, IsTermWithin}
use Rattle.exchange_engine.specs.Grouped.{table_facts}
use Rattle.exchange_engine.specs.Answered.{IsAnsweredBy}
use Rattle.exchange_engine.proofs.TableFactLemmas.{Entry, TargetFact, from_facts}

-- queries of a mapping can be answered

module _ (targets : List Relation) (head : List (List ℕ)) (branch : Branch) (is : IsBranch targets head branch) where
  columns_within : All (λ v. v < length branch.vars) branch.columns
  columns_within k d l =
      let there = at_within head k (omega (arith, l, is.arity)) in
      let v = get_or branch.columns k 0 in
      let same : get_or branch.columns k d ≡ v =
      let a = slice_get-get_or branch.columns k d l in
      let b = slice_get-get_or branch.columns k 0 l in
      let s : Some (get_or branch.columns k d) ≡ Some v = sym a ∙ b in cc in
      subst (λ w. w < length branch.vars) (sym same)
      (within_from_at branch.vars v there.0 (is.columns k (omega (arith, l, is.arity)) ∙ there.1))

  branch_answerable : IsAnswerable branch
  branch_answerable = record {
    atoms = is.body.some;
    few = omega (arith, is.vars.most);
    vars = is.body_vars.same;
    columns = columns_within;
  }

pub query_answerable : (targets : List Relation) (query : Query) → IsQuery targets query → CanAnswer query
query_answerable targets query is =
    All-weaker (IsBranch targets query.head) IsAnswerable (branch_answerable targets query.head) query.branches is.branches

-- the unknowns of tables are known
pub are_known : (tables : List TermTable) (nulls : List HeldUnknown) → AreUnknownsOf tables nulls → AreKnown nulls tables
are_known tables nulls unknowns k d l j b m i a n =
    let table = get_or tables k d in
    let e = get_or table j b in
    by_term (get_or e.row i a) (Contains-get_or e.row i a n) (Contains-get_or table j b m) (Contains-get_or tables k d l)
  where
    by_term : (y : Term) → Contains (get_or (get_or tables k d) j b).row y → Contains (get_or tables k d) (get_or (get_or tables k d) j b)
        → Contains tables (get_or tables k d) → IsKnown nulls y
    by_term (Const c) in_row in_table in_tables = tt
    by_term (Null u) in_row in_table in_tables =
        (unknowns.each u).1 (
          in_tables.0,
          get_or tables k d,
          in_tables.1,
          in_tables.2,
          (
            in_table.0,
            get_or (get_or tables k d) j b,
            in_table.1,
            in_table.2,
            in_row,
          ),
        )

-- answers are certain

module _ (loaded : LoadedOf) (tables : List TermTable) (universal : AreUniversal loaded tables)
    (within_pool : AreWithinPool loaded tables) (law : CertainIsAnswered ConstId) where
  abbrev size : ℕ
  size = length loaded.pool

  abbrev target : ℤ → List (FactOf ConstId)
  target t = snapshot_at (table_facts tables) t

  -- a constant that the tables hold is one of the pool
  constant_within : (t : ℤ) (fact : FactOf ConstId) (c : ConstId) → Contains (target t) fact
      → Contains fact.terms (constant c) → c.0 < size
  constant_within t fact c there has =
      let h = snapshot_covers (table_facts tables) fact t there in
      let k = from_facts tables h.1 (h.0, h.2, h.3) in
      let terms : map term_value k.2.row ≡ fact.terms =
      ap (λ (f : TargetFact). f.row.terms) k.5 ∙ ap (λ (f : FactOf ConstId). f.terms) h.4.0 in
      let y = Contains-from_map term_value k.2.row (constant c) (subst (λ l. Contains l (constant c)) (sym terms) has) in
      let table = All-contains (λ l. All (λ e. All (IsTermWithin size) e.row) l) tables k.1 within_pool (contains_from_at tables k.0 k.1 k.3) in
      let row = All-contains (λ (e : Entry). All (IsTermWithin size) e.row) k.1 k.2 table k.4 in
      by_term y.0 y.2 (All-contains (IsTermWithin size) k.2.row y.0 row y.1)
    where
      by_term : (y : Term) → term_value y ≡ constant c → IsTermWithin size y → c.0 < size
      by_term (Const d) same low = let is : d ≡ c = cc in subst (λ (e : ConstId). e.0 < size) is low
      by_term (Null u) same low = absurd cc

  module _ (targets : List Relation) (query : Query) (valid : IsQuery targets query) (t : ℤ) (constants : List ConstId)
      (answer : IsAnswer (λ c. c) query (target t) (map constant constants)) where
    abbrev branch : Branch
    branch = answer.1

    is_branch : IsBranch targets query.head branch
    is_branch = All-contains (IsBranch targets query.head) query.branches branch valid.branches (answer.0, answer.2, answer.3)

    -- an answer is as long as the head
    answer_size : length constants ≡ length query.head
    answer_size =
        sym (length-map constants constant) ∙ ap length (sym answer.4.2) ∙ length-map branch.columns answer.4.0 ∙ is_branch.arity

    -- its constants are of the tables
    answer_within : (c : ConstId) → Contains constants c → c.0 < size
    answer_within c there =
        let j = at_from_contains constants c there in
        let column = at_within branch.columns j.0
        (omega (arith, within_from_at constants j.0 c j.1, answer_size, is_branch.arity)) in
        let v = column.0 in
        let is : answer.4.0 v ≡ constant c = maps_at answer.4.0 constant branch.columns constants answer.4.2 j.0 v c column.1 j.1 in
        let below = All-contains (λ w. w < length branch.vars) branch.columns v
        (columns_within targets query.head branch is_branch) (contains_from_at branch.columns j.0 v column.1) in
        let a = atom_from_occurs branch.body v ((is_branch.body_vars.same v).1 below) in
        let atom = a.1 in
        let held = All-contains (λ x. Contains (target t) (image (λ d. d) answer.4.0 x)) branch.body atom
        answer.4.1 (contains_from_at branch.body a.0 atom a.2) in
        let term = Contains-map (value (λ d. d) answer.4.0) atom.args (Var v) a.3 in
        constant_within t (image (λ d. d) answer.4.0 atom) c held
        (subst (Contains (map (value (λ d. d) answer.4.0) atom.args)) is term)

  module _ (targets : List Relation) (query : Query) (valid : IsQuery targets query) (list : TermTable)
      (on : IsAnsweredOn tables query list) where
    -- what an entry of the list is
    entry_is : (e : Entry) → Contains list e
        → (t : ℤ) × (constants : List ConstId) × (e.row ≡ map Const constants)
        × IsAnswer (λ c. c) query (target t) (map constant constants)
    entry_is e c =
        let instant = All-contains (λ (x : Entry). HasInstant x.span) list e on.coalesced.spans c in
        let a = (on.answers e.row instant.0).0 (c.0, e, c.1, c.2, (refl, instant.1)) in
        (instant.0, a.0, a.1, a.2)

    pub is_answered : IsAnsweredBy loaded query list
    is_answered = record {
      coalesced = on.coalesced;
      certain = λ row t. (
        λ c.
            let a = (on.answers row t).0 c in
            let certain = law (λ d. d) loaded.rules query (snapshot_of loaded.table t) (target t) a.0
            (universal t) in
            (a.0, a.1, certain.1 a.2),
        λ h.
            let certain = law (λ d. d) loaded.rules query (snapshot_of loaded.table t) (target t) h.0
            (universal t) in
            (on.answers row t).1 (h.0, h.1, certain.0 h.2),
      );
      wide = λ k d l.
          let e = entry_is (get_or list k d) (Contains-get_or list k d l) in
          ap length e.2 ∙ length-map e.1 Const ∙ answer_size targets query valid e.0 e.1 e.3;
      within = λ k d l.
          let e = entry_is (get_or list k d) (Contains-get_or list k d l) in
          subst (All (IsTermWithin size)) (sym e.2) (all_within e.1 (answer_within targets query valid e.0 e.1 e.3));
    }
      where
        all_within : (constants : List ConstId) → ((c : ConstId) → Contains constants c → c.0 < size)
            → All (IsTermWithin size) (map Const constants)
        all_within constants low k d l =
            let c = Contains-from_map Const constants (get_or (map Const constants) k d) (Contains-get_or (map Const constants) k d l) in
            subst (IsTermWithin size) c.2 (low c.0 c.1)

  -- and so those of all queries
  pub are_answered : (targets : List Relation) (queries : List Query) (answers : List TermTable) → All (IsQuery targets) queries
      → AllZip (IsAnsweredOn tables) queries answers → AllZip (IsAnsweredBy loaded) queries answers
  are_answered targets queries answers valid on =
      zip_from_each (IsAnsweredBy loaded) queries answers (zip_length (IsAnsweredOn tables) queries answers on)
      (λ k query list p r.
      let z = zip_at (IsAnsweredOn tables) queries answers on k query p in
      is_answered targets query (All-contains (IsQuery targets) queries query valid (contains_from_at queries k query p)) list
      (subst (IsAnsweredOn tables query) (same_some (slice_get answers k) z.0 list z.1 r) z.2))
