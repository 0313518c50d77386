-- What is loaded: its constants are numbers of the pool, and its facts are those of the tables.
use Rattle.std.proofs.Common.{◌≡◌, ◌↔◌, inl, inr, ℕ, ◌<◌, List, [], ◌∷◌, ◌++◌, length, map, flat_map, get_or, refl, sym, ap, ◌∙◌, subst, All, Any, Contains}
use Rattle.std.proofs.lemmas.List.{map-append}
use Rattle.std.proofs.lemmas.List.Elements.{All-weaker, All-contains, All-contains_itself}
use Rattle.std.proofs.lemmas.Option.{slice_get_within, slice_get-get_or}
use Rattle.term_core.specs.declared.const_id.ConstId.{ConstId}
use Rattle.rule_core.specs.declared.rules.Arg.{Arg}
use Rattle.rule_core.specs.declared.rules.Arg.TheVariants.{Var, Const}
use Rattle.rule_core.specs.declared.rules.Atom.{Atom}
use Rattle.rule_core.specs.declared.rules.Branch.{Branch}
use Rattle.rule_core.specs.declared.rules.Egd.{Egd}
use Rattle.rule_core.specs.declared.rules.Query.{Query}
use Rattle.rule_core.specs.declared.rules.Relation.{Relation}
use Rattle.rule_core.specs.declared.rules.Tgd.{Tgd}
use Rattle.rule_core.specs.Mapping.{RuleSet}
use Rattle.rule_core.specs.Rebase.{renumbered_arg, renumbered_atom, renumbered_tgd, renumbered_egd, renumbered_branch, renumbered_query, renumbered, IsRebased}
use Rattle.rule_core.specs.Tables.{facts_of, as_terms}
use Rattle.rule_core.proofs.ListLemmas.{Contains-map, Contains-from_map}
use Rattle.rule_text.specs.declared.rule.Rule.{Rule}
use Rattle.rule_text.specs.declared.rule.Rule.TheVariants as rule
use Rattle.rule_text.specs.Constants.{constants_in, constants_among, constants_of, HasConstant}
use Rattle.mapping_core.specs.Mapping.{AnyHasConstant}
use Rattle.fact_table.specs.declared.fact.Fact.{Fact}
use Rattle.body_match.proofs.ListLemmas.{zip_length}
use Rattle.exchange_engine.specs.Loading.{RawTable, HasText, AreTablesOf, as_text, AreFactsOf}
use Rattle.exchange_engine.specs.Gathered.{Adds}

module _ (number : ConstId → ConstId) where
  -- the constants of arguments, of atoms and of disjuncts have their other numbers
  in_args : (args : List Arg) → constants_in (map (renumbered_arg number) args) ≡ map number (constants_in args)
  in_args [] = refl
  in_args (Var v ∷ args) = in_args args
  in_args (Const c ∷ args) = ap (λ rest. number c ∷ rest) (in_args args)

  among_atoms : (atoms : List Atom) → constants_among (map (renumbered_atom number) atoms) ≡ map number (constants_among atoms)
  among_atoms [] = refl
  among_atoms (atom ∷ atoms) =
      (λ i. in_args atom.args i ++ among_atoms atoms i) ∙ sym (map-append number (constants_in atom.args) (constants_among atoms))

  among_branches : (branches : List Branch)
      → flat_map (λ (b : Branch). constants_among b.body) (map (renumbered_branch number) branches)
      ≡ map number (flat_map (λ (b : Branch). constants_among b.body) branches)
  among_branches [] = refl
  among_branches (branch ∷ branches) =
      (λ i. among_atoms branch.body i ++ among_branches branches i)
      ∙ sym (map-append number (constants_among branch.body) (flat_map (λ (b : Branch). constants_among b.body) branches))

  of_tgd : (tgd : Tgd) → constants_of (rule.Tgd (renumbered_tgd number tgd)) ≡ map number (constants_of (rule.Tgd tgd))
  of_tgd tgd =
      (λ i. among_atoms tgd.body i ++ among_atoms tgd.head i)
      ∙ sym (map-append number (constants_among tgd.body) (constants_among tgd.head))

  of_egd : (egd : Egd) → constants_of (rule.Egd (renumbered_egd number egd)) ≡ map number (constants_of (rule.Egd egd))
  of_egd egd = among_atoms egd.body

  of_query : (query : Query) → constants_of (rule.Query (renumbered_query number query)) ≡ map number (constants_of (rule.Query query))
  of_query query = among_branches query.branches

  -- a constant of renumbered rules of a kind is the number of one of the rules
  from_kind : {X : Type 0} (kind : X → Rule) (change : X → X) → ((x : X) → constants_of (kind (change x)) ≡ map number (constants_of (kind x)))
      → (xs : List X) (c : ConstId) → Any (λ x. HasConstant (kind x) c) (map change xs)
      → (d : ConstId) × Any (λ x. HasConstant (kind x) d) xs × (number d ≡ c)
  from_kind {X} kind change same xs c h =
      let x = Contains-from_map change xs h.1 (h.0, h.2, h.3) in
      let has = subst (λ (y : X). HasConstant (kind y) c) (sym x.2) h.4 in
      let d = Contains-from_map number (constants_of (kind x.0)) c (subst (λ l. Contains l c) (same x.0) has) in
      (d.0, (x.1.0, x.0, x.1.1, x.1.2, d.1), d.2)

  from_renumbered : (rules : RuleSet) (c : ConstId) → AnyHasConstant (renumbered number rules) c
      → (d : ConstId) × AnyHasConstant rules d × (number d ≡ c)
  from_renumbered rules c h = elim h [
    | inl tgd ↦ let d = from_kind rule.Tgd (renumbered_tgd number) of_tgd rules.tgds c tgd in (d.0, inl d.1, d.2)
    | inr rest ↦ elim rest [
      | inl egd ↦ let d = from_kind rule.Egd (renumbered_egd number) of_egd rules.egds c egd in (d.0, inr (inl d.1), d.2)
      | inr query ↦ let d = from_kind rule.Query (renumbered_query number) of_query rules.queries c query in (d.0, inr (inr d.1), d.2)
    ]
  ]

-- the constants of rebased rules are numbers of the new pool
pub rebased_within : (from to : List (List ℕ)) (rules rebased : RuleSet) → IsRebased from to rules rebased
    → ((d : ConstId) → AnyHasConstant rules d → d.0 < length from) → (c : ConstId) → AnyHasConstant rebased c → c.0 < length to
rebased_within from to rules rebased h there c has =
    let d = from_renumbered h.0 rules c (subst (λ r. AnyHasConstant r c) h.2 has) in
    let below = there d.0 d.1 in
    subst (λ (e : ConstId). e.0 < length to) d.2
    (slice_get_within to (h.0 d.0).0 (get_or from d.0.0 []) (h.1.texts d.0 below ∙ slice_get-get_or from d.0.0 [] below))

-- there are as many tables as relations
pub as_many : (relations : List Relation) (tables : List RawTable) → AreTablesOf relations tables → length relations ≡ length tables
as_many relations tables =
    zip_length (λ (relation : Relation) (table : RawTable). All (λ fact. length fact.row ≡ length relation.columns) table) relations tables

-- what holds of each text of tables
pub all_cells : (P : List ℕ → Type 0) (tables : List RawTable) → ((text : List ℕ) → HasText tables text → P text)
    → All (λ table. All (λ raw. All P raw.row) table) tables
all_cells P tables each =
    All-weaker (Contains tables) (λ table. All (λ raw. All P raw.row) table)
    (λ table m. All-weaker (Contains table) (λ raw. All P raw.row)
    (λ raw n. All-weaker (Contains raw.row) P (λ text o. each text (m.0, table, m.1, m.2, (n.0, raw, n.1, n.2, o)))
    raw.row (All-contains_itself raw.row)) table (All-contains_itself table)) tables (All-contains_itself tables)

-- the facts of a table of what was added to nothing
module _ (pool : List (List ℕ)) (tables : List RawTable) (facts table : List Fact)
    (added : Adds pool [] facts (facts_of (map as_terms tables))) (same : (fact : Fact) → Contains table fact ↔ Contains facts fact) where
  pub table_within : All (λ fact. All (λ c. c.0 < length pool) fact.row) table
  table_within =
      All-weaker (Contains table) (λ fact. All (λ c. c.0 < length pool) fact.row)
      (λ fact m. All-contains (λ (f : Fact). All (λ c. c.0 < length pool) f.row) added.more fact added.within
      (subst (λ l. Contains l fact) added.behind ((same fact).0 m))) table (All-contains_itself table)

  pub table_facts : AreFactsOf tables pool table
  table_facts fact = (
    λ c.
        let x = Contains-from_map (as_text pool) table fact c in
        let there = subst (λ l. Contains l x.0) added.behind ((same x.0).0 x.1) in
        (added.reads fact).0
        (subst (Contains (map (as_text pool) added.more)) x.2 (Contains-map (as_text pool) added.more x.0 there)),
    λ c.
        let x = Contains-from_map (as_text pool) added.more fact ((added.reads fact).1 c) in
        let there = (same x.0).1 (subst (λ l. Contains l x.0) (sym added.behind) x.1) in
        subst (Contains (map (as_text pool) table)) x.2 (Contains-map (as_text pool) table x.0 there),
  )
