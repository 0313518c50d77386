-- Why the tables of a solved exchange are, as they are stored, a target of what was read.
use Rattle.std.proofs.Common.{◌≡◌, ◌↔◌, ℕ, ◌<◌, ℤ, Some, List, map, length, get_or, refl, subst, All, Contains}
use Rattle.std.specs.Prelude.{slice_get}
use Rattle.std.specs.Ordering.{nat_cmp}
use Rattle.std.specs.Cmp.{IsTotalOrder}
use Rattle.std.specs.Cmp.Lexicographic.{slice_cmp}
use Rattle.std.proofs.lemmas.List.Elements.{All-contains, All-map, Contains-get_or}
use Rattle.term_core.specs.declared.const_id.ConstId.{ConstId}
use Rattle.term_core.specs.declared.term.Unknown.{Unknown as HeldUnknown}
use Rattle.term_core.specs.declared.term.Term.{Term}
use Rattle.term_core.specs.declared.term.Term.TheVariants.{Const, Null}
use Rattle.term_core.specs.Order.{unknown_cmp, term_cmp}
use Rattle.term_core.specs.Pool.{IsPool}
use Rattle.rule_core.specs.Mapping.{RuleSet}
use Rattle.rule_core.specs.Validity.{IsValid}
use Rattle.rule_core.specs.Terms.{Unknown, TermOf, constant, unknown, FactOf, StampedOf}
use Rattle.rule_core.specs.Values.{term_value, table_value}
use Rattle.rule_core.specs.Order.{stored_cmp}
use Rattle.rule_core.specs.Tables.{facts_of}
use Rattle.rule_core.specs.Snapshot.{snapshot_at}
use Rattle.rule_core.specs.Homomorphism.{term_image, fact_image}
use Rattle.rule_core.specs.Solution.{IsUniversal}
use Rattle.rule_core.specs.Coalesced.{Covers, IsCoalesced}
use Rattle.rule_core.specs.Rebase.{renumbered, IsRebased}
use Rattle.rule_core.specs.Renaming.{Renaming, renamed_term, renamed_facts, HoldTheSame, IsRuleConstant, HasUnknown, AreToldApart}
use Rattle.mapping_core.specs.Mapping.{HasItsConstants}
use Rattle.fact_table.specs.declared.fact.Fact.{Fact}
use Rattle.fact_table.specs.Snapshots.{snapshot_of, stamped_facts, with_terms}
use Rattle.exchange_engine.specs.Loading.{LoadedOf, HasEachConstant, AreFactsOf}
use Rattle.exchange_engine.specs.Solved.{TermTable, AreCoalesced, AreUniversal, AreUnknownsOf, IsTermWithin, AreWithinPool}
use Rattle.exchange_cli.specs.Inputs.{Inputs, name_of, source_of}
use Rattle.exchange_cli.specs.Target.{IsTarget}
use Rattle.exchange_cli.specs.Rendering.{stored_term, stored_table}
use Rattle.exchange_cli.proofs.StoredOrderLemmas.{IsStorable, rows_cmp}
use Rattle.exchange_cli.proofs.FactTextLemmas.{retold, IsIn, snapshot_retold, term_of_fact, source_holds_the_same}
use Rattle.exchange_cli.proofs.NameLemmas.{of_mapping, BeginsWith, name_is_text, renumbered_name, in_names, told, untold, untold_told, named_term, told_term}

-- what loading and the exchange promise of these values, and then the laws that the rest stands on
module _ (inputs : Inputs) (loaded : LoadedOf) (tables : List TermTable) (nulls : List HeldUnknown)
    (valid : IsValid inputs.mapping.rules) (constants : HasItsConstants inputs.mapping.rules inputs.mapping.pool)
    (loaded_valid : IsValid loaded.rules) (pool : IsPool loaded.pool) (each : HasEachConstant loaded)
    (rebased : IsRebased inputs.mapping.pool loaded.pool inputs.mapping.rules loaded.rules)
    (facts : AreFactsOf inputs.tables loaded.pool loaded.table)
    (coalesced : AreCoalesced tables) (universal : AreUniversal loaded tables) (within : AreWithinPool loaded tables)
    (unknowns : AreUnknownsOf tables nulls)
    (ordered : IsTotalOrder unknown_cmp)
    (alike : (texts : List (List ℕ)) → IsPool texts → (i j : ℕ) (a b : List ℕ)
    → slice_get texts i ≡ Some a → slice_get texts j ≡ Some b → nat_cmp i j ≡ slice_cmp nat_cmp a b)
    (covers : (stamped : List (StampedOf (FactOf (List ℕ)))) (fact : FactOf (List ℕ)) (t : ℤ)
    → Contains (snapshot_at stamped t) fact ↔ Covers stamped fact t)
    (renames : (r : Renaming ConstId (List ℕ)) (name : ConstId → ConstId) (rules : RuleSet)
    → (source target : List (FactOf ConstId)) → IsUniversal name rules source target
    ↔ IsUniversal (λ c. r.to (name c)) rules (renamed_facts r.to source) (renamed_facts r.to target))
    (begins : (texts : List (List ℕ)) → IsPool texts → (r : Renaming ConstId (List ℕ))
    × ((c : ConstId) → c.0 < length texts → slice_get texts c.0 ≡ Some (r.to c)))
    (sets : (name : ConstId → List ℕ) (rules : RuleSet) (source other target result : List (FactOf (List ℕ)))
    → HoldTheSame source other → HoldTheSame target result → IsUniversal name rules source target → IsUniversal name rules other result)
    (renumbers : (name other : ConstId → List ℕ) (number : ConstId → ConstId) (rules : RuleSet)
    → ((c : ConstId) → IsRuleConstant rules c → other (number c) ≡ name c)
    → (source target : List (FactOf (List ℕ))) → IsUniversal other (renumbered number rules) source target
    ↔ IsUniversal name rules source target)
    (tells : (name : ConstId → List ℕ) (rules : RuleSet) → IsValid rules
    → (source target : List (FactOf (List ℕ))) (told back : Unknown (List ℕ) → Unknown (List ℕ))
    → AreToldApart target told back → ((u : Unknown (List ℕ)) → HasUnknown source u → told u ≡ u)
    → IsUniversal name rules source target
    → IsUniversal name rules source (map (fact_image (λ u. unknown (told u))) target))
    (stays : (told : List Term → List (TermOf (List ℕ))) (list : List (StampedOf (List Term)))
    → ((a b : StampedOf (List Term)) → Contains list a → Contains list b
    → stored_cmp (told a.row) (told b.row) ≡ slice_cmp term_cmp a.row b.row)
    → IsCoalesced (slice_cmp term_cmp) list
    → IsCoalesced stored_cmp (map (λ e. record { row = told e.row; span = e.span }) list))
    (listed : (table : List Fact) → stamped_facts table ≡ map with_terms table) where
  -- each term of the tables has a text or a number
  storable : (x : Term) → IsIn tables x → IsStorable loaded.pool nulls x
  storable (Const c) there =
      let size = length loaded.pool in
      let table = All-contains (λ l. All (λ e. All (IsTermWithin size) e.row) l) tables there.1 within (there.0, there.2, there.3) in
      let row = All-contains (λ e. All (IsTermWithin size) e.row) there.1 there.4.1 table (there.4.0, there.4.2, there.4.3) in
      All-contains (IsTermWithin size) there.4.1.row (Const c) row there.4.4
  storable (Null u) there = (unknowns.each u).1 there

  -- the tables stay coalesced as they are stored
  stored_coalesced : All (IsCoalesced stored_cmp) (map (stored_table loaded.pool nulls) tables)
  stored_coalesced = All-map (IsCoalesced stored_cmp) (stored_table loaded.pool nulls) tables (λ k d h.
      let table = get_or tables k d in
      let there = Contains-get_or tables k d h in
      let storable_row : (e : StampedOf (List Term)) → Contains table e → All (IsStorable loaded.pool nulls) e.row = λ e c j x l.
      let y = get_or e.row j x in let inside = Contains-get_or e.row j x l in
      storable y (there.0, table, there.1, there.2, (c.0, e, c.1, c.2, inside)) in
      stays (map (stored_term loaded.pool nulls)) table
      (λ a b c e. rows_cmp ordered nulls unknowns.ascending loaded.pool (alike loaded.pool pool) a.row b.row
      (storable_row a c) (storable_row b e))
      (coalesced k d h))

  module _ (f : Renaming ConstId (List ℕ)) (starts : BeginsWith loaded.pool f.to) (t : ℤ) where
    -- the facts of the source
    abbrev source_now : List (FactOf (List ℕ))
    source_now = snapshot_at (source_of inputs) t

    -- the facts of the target with names for its constants
    abbrev named_now : List (FactOf (List ℕ))
    named_now = snapshot_at (facts_of (map (retold (named_term f nulls)) tables)) t

    -- the constants of the mapping have their texts for names
    names : (c : ConstId) → IsRuleConstant inputs.mapping.rules c → f.to (rebased.0 c) ≡ name_of inputs c
    names c is = renumbered_name loaded.pool f.to starts inputs.mapping.pool rebased.0 rebased.1 c
        (constants.there c (of_mapping inputs.mapping.rules c is))

    -- they are universal for the mapping and the source as they were read
    named_universal : IsUniversal (name_of inputs) inputs.mapping.rules source_now named_now
    named_universal =
        let loaded_source = snapshot_of loaded.table t in
        let loaded_target = snapshot_at (facts_of (map table_value tables)) t in
        let source = renamed_facts f.to loaded_source in
        let target = renamed_facts f.to loaded_target in
        let loaded_now = (renames f (λ c. c) loaded.rules loaded_source loaded_target).0 (universal t) in
        let renumbered_now = subst (λ rules. IsUniversal f.to rules source target) rebased.2 loaded_now in
        let mapping_now = (renumbers (name_of inputs) f.to rebased.0 inputs.mapping.rules names source target).0 renumbered_now in
        let target_is : target ≡ named_now =
        snapshot_retold term_value (renamed_term f.to) (named_term f nulls) tables (λ x there. refl) t in
        subst (IsUniversal (name_of inputs) inputs.mapping.rules source_now) target_is
        (sets (name_of inputs) inputs.mapping.rules source source_now target target
        (source_holds_the_same f.to loaded.pool (name_is_text loaded.pool f.to starts) covers inputs.tables loaded.table
        (listed loaded.table) facts each.facts t)
        (λ fact. (λ c. c, λ c. c)) mapping_now)

    -- the number of each unknown tells it
    told_apart : AreToldApart named_now (told f nulls) (untold f nulls)
    told_apart v has =
        let found = term_of_fact (named_term f nulls) covers tables t has.1 (has.0, has.2, has.3) (unknown v) has.4 in
        by_term found.0 found.1 found.2
      where
        by_term : (x : Term) → IsIn tables x → named_term f nulls x ≡ unknown v → untold f nulls (told f nulls v) ≡ v
        by_term (Const c) there same = absurd cc
        by_term (Null u) there same =
            let is : in_names f nulls u ≡ v = cc in
            subst (λ w. untold f nulls (told f nulls w) ≡ w) is
            (untold_told f nulls ordered unknowns.ascending u ((unknowns.each u).1 there))

    -- a source has no unknowns
    source_is_known : (u : Unknown (List ℕ)) → ¬ (HasUnknown source_now u)
    source_is_known u has =
        let found = term_of_fact constant covers inputs.tables t has.1 (has.0, has.2, has.3) (unknown u) has.4 in
        absurd cc

    -- with the number of each unknown these are the stored facts
    stored_universal : IsUniversal (name_of inputs) inputs.mapping.rules source_now
        (snapshot_at (facts_of (map (stored_table loaded.pool nulls) tables)) t)
    stored_universal =
        subst (IsUniversal (name_of inputs) inputs.mapping.rules source_now)
        (snapshot_retold (named_term f nulls) (term_image (λ u. unknown (told f nulls u))) (stored_term loaded.pool nulls) tables
        (λ x there. told_term f nulls loaded.pool starts x (storable x there)) t)
        (tells (name_of inputs) inputs.mapping.rules valid source_now named_now (told f nulls) (untold f nulls) told_apart
        (λ u has. absurd (source_is_known u has)) named_universal)

  -- the stored tables are a target
  pub stored_is_target : IsTarget inputs (map (stored_table loaded.pool nulls) tables)
  stored_is_target =
      let named = begins loaded.pool pool in
      record { coalesced = stored_coalesced; universal = stored_universal named.0 named.1 }
