-- Coalesced tables that hold at every instant what the rows of a source's firings were settled to: they are universal, and what they are
-- made of.
use Rattle.std.proofs.Common.{◌≡◌, ◌↔◌, ℕ, ℤ, Some, List, length, get_or, map, refl, sym, ap, ◌∙◌, subst, All, Contains}
use Rattle.std.specs.Prelude.{slice_get}
use Rattle.std.specs.Cmp.Lexicographic.{slice_cmp}
use Rattle.std.proofs.lemmas.List.{length-map}
use Rattle.std.proofs.lemmas.List.Elements.{All-contains, Contains-get_or}
use Rattle.std.proofs.lemmas.Option.{slice_get-get_or}
use Rattle.time_line.specs.Span.{HasInstant}
use Rattle.term_core.specs.declared.const_id.ConstId.{ConstId}
use Rattle.term_core.specs.declared.term.Term.{Term}
use Rattle.term_core.specs.declared.term.Term.TheVariants.{Const, Null}
use Rattle.term_core.specs.declared.term.Unknown.{Unknown as HeldUnknown}
use Rattle.term_core.specs.Order.{term_cmp}
use Rattle.rule_core.specs.declared.rules.Relation.{Relation}
use Rattle.rule_core.specs.Terms.{FactOf}
use Rattle.rule_core.specs.Values.{term_value}
use Rattle.rule_core.specs.Mapping.{RuleSet}
use Rattle.rule_core.specs.Validity.{IsValid}
use Rattle.rule_core.specs.Snapshot.{snapshot_at}
use Rattle.rule_core.specs.Coalesced.{IsCoalesced}
use Rattle.rule_core.specs.Homomorphism.{fact_image, Homomorphism}
use Rattle.rule_core.specs.Solution.{EgdHolds, IsSolution, IsUniversal}
use Rattle.rule_core.specs.Firing.{IsFiringFact}
use Rattle.rule_core.proofs.ListLemmas.{All-from_map}
use Rattle.rule_core.proofs.SetLemmas.{Matches-within}
use Rattle.rule_core.proofs.SnapshotLemmas.{covered_in_snapshot}
use Rattle.fact_table.specs.Snapshots.{stamped_facts, snapshot_of, with_terms}
use Rattle.body_match.proofs.ListLemmas.{contains_from_at, zip_from_each}
use Rattle.body_match.proofs.SearchLemmas.{some_and, same_some}
use Rattle.failure_trace.proofs.SnapshotSteps.{shown}
use Rattle.tgd_chase.specs.Fired.{HoldFiringFacts, IsGround}
use Rattle.egd_chase.specs.Settled.{AreSettledForm}
use Rattle.exchange_engine.specs.Loading.{LoadedOf, HasEachConstant}
use Rattle.exchange_engine.specs.Solved.{TermTable, AreCoalesced, AreTargetTables, AreUnknownsOf, IsUnknownOf, IsTermWithin, IsMadeBy, HoldSnapshotsOf}
use Rattle.exchange_engine.specs.Grouped.{table_facts}
use Rattle.exchange_engine.proofs.TableFactLemmas.{Entry, TargetFact, fact_for, in_facts}
use Rattle.exchange_engine.proofs.MadeLemmas.{IsTermMade, IsMade}
use Rattle.exchange_engine.proofs.SourceLemmas.{ground}

-- what an instance is where the firing facts are told: a solution is one in which every egd holds and into which they map
abbrev pub SolutionLaw : Type 0
SolutionLaw = (rules : RuleSet) → IsValid rules → (source target : List (FactOf ConstId)) → IsGround source
    → IsSolution (λ c. c) rules source target
    ↔ (All (λ egd. EgdHolds (λ c. c) egd target) rules.egds × Homomorphism (IsFiringFact (λ c. c) rules source) target)

-- what comes of a mapping and its source: rows that hold the firing facts, what these were settled to, and the tables of that
pub record IsChased (loaded : LoadedOf) (rows last : List TargetFact) (tables : List TermTable) : Type 0 where
  pub valid : IsValid loaded.rules
  pub hold : HoldFiringFacts loaded.rules loaded.table rows
  pub form : AreSettledForm loaded.rules rows last
  pub made : All (λ row. IsMade loaded.rules (length loaded.pool) row.row) last
  pub size : length tables ≡ length loaded.rules.targets
  pub coalesced : AreCoalesced tables
  pub snapshots : HoldSnapshotsOf last tables

module _ (loaded : LoadedOf) (has : HasEachConstant loaded) (rows_are : stamped_facts loaded.table ≡ map with_terms loaded.table)
    (rows last : List TargetFact) (tables : List TermTable) (chased : IsChased loaded rows last tables) where
  abbrev rules : RuleSet
  rules = loaded.rules

  abbrev size : ℕ
  size = length loaded.pool

  abbrev source : ℤ → List (FactOf ConstId)
  source t = snapshot_of loaded.table t

  abbrev target : ℤ → List (FactOf ConstId)
  target t = snapshot_at (table_facts tables) t

  egds_hold : (t : ℤ) → All (λ egd. EgdHolds (λ c. c) egd (target t)) rules.egds
  egds_hold t k d l = λ binding m. chased.form.hold t k d l binding
      (Matches-within (λ c. c) binding (get_or rules.egds k d).body (target t) (snapshot_at last t) (λ fact. (chased.snapshots t fact).0) m)

  pub universal : SolutionLaw → (t : ℤ) → IsUniversal (λ c. c) rules (source t) (target t)
  universal law t =
      let constants = ground loaded.table rows_are size has.facts t in
      let maps = chased.form.maps t in
      let into : Homomorphism (IsFiringFact (λ c. c) rules (source t)) (target t) = record {
        of_unknown = maps.of_unknown;
        into = λ fact k. (chased.snapshots t (fact_image maps.of_unknown fact)).1 (maps.into fact ((chased.hold t fact).1 k));
      } in
      record {
        solution = (law rules chased.valid (source t) (target t) constants).1 (egds_hold t, into);
        maps = λ other solution.
            let h = (law rules chased.valid (source t) other constants).0 solution in
            let least = chased.form.least t other
            (h.0, record { of_unknown = h.1.of_unknown; into = λ fact c. h.1.into fact ((chased.hold t fact).0 c) }) in
            record { of_unknown = least.of_unknown; into = λ fact c. least.into fact ((chased.snapshots t fact).0 c) };
      }

  -- an entry holds at some instant, and so is a fact of a row
  made_in : (k : ℕ) (list : TermTable) (e : Entry) → slice_get tables k ≡ Some list → Contains list e → IsMade rules size (fact_for k e).row
  made_in k list e at c =
      let inside = contains_from_at tables k list at in
      let is = All-contains (IsCoalesced (slice_cmp term_cmp)) tables list chased.coalesced inside in
      let instant = All-contains (λ (x : Entry). HasInstant x.span) list e is.spans c in
      let there = in_facts tables k list e at c in
      let fact = (fact_for k e).row in
      let held = covered_in_snapshot (table_facts tables) fact instant.0 (there.0, fact_for k e, there.1, there.2, (refl, instant.1)) in
      let row = shown instant.0 last fact ((chased.snapshots instant.0 fact).0 held) in
      subst (IsMade rules size) row.2 (All-contains (λ (r : TargetFact). IsMade rules size r.row) last row.0 chased.made row.1)

  terms_in : (k : ℕ) (list : TermTable) (e : Entry) → slice_get tables k ≡ Some list → Contains list e
      → All (λ term. IsTermMade rules size (term_value term)) e.row
  terms_in k list e at c = All-from_map (IsTermMade rules size) term_value e.row (made_in k list e at c).terms

  pub are_wide : AreTargetTables rules.targets tables
  are_wide =
      zip_from_each (λ (relation : Relation) (list : TermTable). All (λ (e : Entry). length e.row ≡ length relation.columns) list)
      rules.targets tables (sym chased.size)
      (λ k relation list p q j d l.
      let e = get_or list j d in
      let wide = (made_in k list e q (Contains-get_or list j d l)).wide in
      let s = some_and (λ (r : Relation). length (map term_value e.row) ≡ length r.columns) (slice_get rules.targets k) wide in
      sym (length-map e.row term_value)
      ∙ subst (λ (r : Relation). length (map term_value e.row) ≡ length r.columns)
      (same_some (slice_get rules.targets k) s.0 relation s.1 p) s.2)

  pub are_within : All (λ list. All (λ e. All (IsTermWithin (length loaded.pool)) e.row) list) tables
  are_within k d l j b m i a n =
      let list = get_or tables k d in
      let e = get_or list j b in
      within (get_or e.row i a) (terms_in k list e (slice_get-get_or tables k d l) (Contains-get_or list j b m) i a n)
    where
      within : (term : Term) → IsTermMade rules size (term_value term) → IsTermWithin size term
      within (Const c) h = h
      within (Null u) h = h.0

  pub are_made : (nulls : List HeldUnknown) → AreUnknownsOf tables nulls → All (IsMadeBy rules) nulls
  are_made nulls are k d l = of_unknown (get_or nulls k d) ((are.each (get_or nulls k d)).0 (Contains-get_or nulls k d l))
    where
      of_unknown : (u : HeldUnknown) → IsUnknownOf tables u → IsMadeBy rules u
      of_unknown u h =
          let at : slice_get tables h.0 ≡ Some h.1 = slice_get-get_or tables h.0 h.1 h.2 ∙ ap Some h.3 in
          let e = h.4.1 in
          (All-contains (λ term. IsTermMade rules size (term_value term)) e.row (Null u)
          (terms_in h.0 h.1 e at (h.4.0, h.4.2, h.4.3)) h.4.4).1
