-- Why a trace that is accepted on what was loaded is accepted on what was read, and what it shows there.
use Rattle.std.proofs.Common.{◌≡◌, ℕ, ℤ, List, [], ◌∷◌, map, get_or, refl, sym, ap, ◌∙◌, subst}
use Rattle.std.proofs.lemmas.List.Elements.{Contains-get_or}
use Rattle.std.proofs.lemmas.Option.{slice_get-get_or}
use Rattle.term_core.specs.declared.const_id.ConstId.{ConstId}
use Rattle.rule_core.specs.Mapping.{RuleSet}
use Rattle.rule_core.specs.Terms.{constant, FactOf, StampedOf}
use Rattle.rule_core.specs.Snapshot.{snapshot_at}
use Rattle.rule_core.specs.Solution.{IsSolution}
use Rattle.rule_core.specs.Validity.{IsValid}
use Rattle.rule_core.specs.Renaming.{renamed_stamped, IsRuleConstant, HoldTheSame}
use Rattle.fact_table.specs.declared.fact.Fact.{Fact}
use Rattle.fact_table.specs.Snapshots.{stamped_facts, with_terms}
use Rattle.failure_trace.specs.declared.trace.Trace.{Trace}
use Rattle.failure_trace.specs.Projected.{pool_text}
use Rattle.failure_trace.specs.TraceRun.{start, clashed, IsAccepted}
use Rattle.trace_checker.specs.Checked.{HasConstantsOnly}
use Rattle.exchange_engine.specs.Loading.{LoadedOf, as_text}
use Rattle.exchange_engine.specs.Failed.{told_source, IsAcceptedOn}
use Rattle.exchange_cli.specs.Inputs.{Inputs, name_of, source_of}
use Rattle.exchange_cli.specs.Exchanged.{IsLoadedFrom}
use Rattle.exchange_cli.specs.Certificate.{Refutes}
use Rattle.exchange_cli.proofs.FactTextLemmas.{HoldWhatIsCovered, snapshots_same, term_from}
use Rattle.exchange_cli.proofs.NameLemmas.{of_mapping, renumbered_name}
use Rattle.exchange_cli.proofs.TraceTextLemmas.{pass_read}

-- the facts of a table with the texts of a pool
pub texts_of : (pool : List (List ℕ)) (table : List Fact) → renamed_stamped (pool_text pool) (map with_terms table) ≡ map (as_text pool) table
texts_of pool [] = refl
texts_of pool (fact ∷ table) = ap (λ rest. as_text pool fact ∷ rest) (texts_of pool table)

-- the source tables have constants alone
pub source_is_constant : (inputs : Inputs) → HasConstantsOnly (source_of inputs)
source_is_constant inputs = λ k d l j x m.
    let facts = source_of inputs in
    let from = term_from constant 0 inputs.tables (get_or facts k d) (Contains-get_or facts k d l) (get_or (get_or facts k d).row.terms j x)
    (Contains-get_or (get_or facts k d).row.terms j x m) in
    (from.4, sym from.6)

module _ (inputs : Inputs) (loaded : LoadedOf) (trace : Trace) (from : IsLoadedFrom inputs loaded)
    (covers : HoldWhatIsCovered) (listed : (table : List Fact) → stamped_facts table ≡ map with_terms table) where
  -- the loaded source holds at each instant what was read
  pub same_facts : (t : ℤ) → HoldTheSame (snapshot_at (told_source loaded) t) (snapshot_at (source_of inputs) t)
  same_facts t =
      let texts : told_source loaded ≡ map (as_text loaded.pool) loaded.table =
      ap (renamed_stamped (pool_text loaded.pool)) (listed loaded.table) ∙ texts_of loaded.pool loaded.table in
      subst (λ l. HoldTheSame (snapshot_at l t) (snapshot_at (source_of inputs) t)) (sym texts)
      (snapshots_same covers (map (as_text loaded.pool) loaded.table) (source_of inputs) from.facts t)

  -- a constant of the rules has its text in both pools
  pub same_names : (c : ConstId) → IsRuleConstant inputs.mapping.rules c → pool_text loaded.pool (from.rules.0 c) ≡ name_of inputs c
  same_names c is =
      renumbered_name loaded.pool (pool_text loaded.pool) (λ d within. slice_get-get_or loaded.pool d.0 [] within) inputs.mapping.pool
      from.rules.0 from.rules.1 c (from.constants.there c (of_mapping inputs.mapping.rules c is))

  -- a trace that is accepted on what was loaded is accepted on what was read
  accepted_on_texts : IsAcceptedOn loaded trace → IsAccepted (name_of inputs) inputs.mapping.rules (source_of inputs) trace
  accepted_on_texts is =
      pass_read (name_of inputs) (pool_text loaded.pool) from.rules.0 inputs.mapping.rules same_names
      (snapshot_at (told_source loaded) trace.instant) (snapshot_at (source_of inputs) trace.instant)
      (same_facts trace.instant) start trace.steps clashed
      (subst (λ (rules : RuleSet). IsAccepted (pool_text loaded.pool) rules (told_source loaded) trace) from.rules.2 is)

  -- so it refutes what was read
  pub refutes :
      ((name : ConstId → List ℕ) (rules : RuleSet) (source : List (StampedOf (FactOf (List ℕ)))) (trace : Trace)
      → IsValid rules → HasConstantsOnly source → IsAccepted name rules source trace → (target : List (FactOf (List ℕ)))
      → ¬ (IsSolution name rules (snapshot_at source trace.instant) target))
      → IsAcceptedOn loaded trace → Refutes inputs trace
  refutes none is =
      let accepted = accepted_on_texts is in
      record {
        accepted = accepted;
        none = none (name_of inputs) inputs.mapping.rules (source_of inputs) trace from.read_valid (source_is_constant inputs) accepted;
      }
