-- Why the verdict of a checker on what is loaded is the one verdict on what was read.
use Rattle.std.proofs.Common.{◌≡◌, ℕ, List, map, subst}
use Rattle.std.specs.declared.option.Option.{Option}
use Rattle.std.specs.declared.option.Option.TheVariants.{Some}
use Rattle.term_core.specs.declared.const_id.ConstId.{ConstId}
use Rattle.rule_core.specs.Mapping.{RuleSet}
use Rattle.rule_core.specs.Terms.{FactOf, StampedOf}
use Rattle.rule_core.specs.Snapshot.{snapshot_at}
use Rattle.rule_core.specs.Solution.{IsSolution}
use Rattle.rule_core.specs.Validity.{IsValid}
use Rattle.rule_core.specs.Rebase.{renumbered}
use Rattle.mapping_core.specs.Mapping.{Meaning}
use Rattle.fact_table.specs.declared.fact.Fact.{Fact}
use Rattle.fact_table.specs.Snapshots.{stamped_facts, with_terms}
use Rattle.failure_trace.specs.declared.trace.Trace.{Trace}
use Rattle.failure_trace.specs.Projected.{pool_text}
use Rattle.failure_trace.specs.TraceRun.{start, clashed, IsAccepted}
use Rattle.trace_checker.specs.Checked.{source_of as source_in, HasConstantsOnly, IsVerdict}
use Rattle.trace_checker.specs.declared.verdict.Verdict.{Verdict}
use Rattle.trace_checker.specs.declared.verdict.Verdict.TheVariants.{Accepted, Refused}
use Rattle.exchange_engine.specs.Loading.{LoadedOf}
use Rattle.exchange_cli.specs.Inputs.{Inputs, SourceTable, name_of, source_of}
use Rattle.exchange_cli.specs.Exchanged.{IsLoadedFrom}
use Rattle.exchange_cli.specs.Judged.{Judges, IsVerdictOf}
use Rattle.exchange_cli.proofs.FactTextLemmas.{HoldWhatIsCovered}
use Rattle.exchange_cli.proofs.AcceptedLemmas.{source_is_constant, same_facts, same_names}
use Rattle.exchange_cli.proofs.TraceTextLemmas.{pass_read, fails_read}

-- what is loaded does not depend on the trace
pub loaded_with : (mapping : Meaning) (tables : List SourceTable) (trace other : Option Trace) (loaded : LoadedOf)
    → IsLoadedFrom (record { mapping = mapping; tables = tables; trace = trace }) loaded
    → IsLoadedFrom (record { mapping = mapping; tables = tables; trace = other }) loaded
loaded_with mapping tables trace other loaded from = record {
  read_valid = from.read_valid;
  constants = from.constants;
  valid = from.valid;
  pool = from.pool;
  each = from.each;
  rules = from.rules;
  facts = from.facts;
  once = from.once;
}

module _ (inputs : Inputs) (loaded : LoadedOf) (trace : Trace) (from : IsLoadedFrom inputs loaded)
    (covers : HoldWhatIsCovered) (listed : (table : List Fact) → stamped_facts table ≡ map with_terms table) where
  -- what is said of the rules by their other numbers is said of the rules
  read_verdict : (verdict : Verdict)
      → IsVerdict (pool_text loaded.pool) (renumbered from.rules.0 inputs.mapping.rules) (source_in loaded.pool loaded.table) trace verdict
      → Judges inputs trace verdict
  read_verdict Accepted is =
      pass_read (name_of inputs) (pool_text loaded.pool) from.rules.0 inputs.mapping.rules (same_names inputs loaded trace from covers listed)
      (snapshot_at (source_in loaded.pool loaded.table) trace.instant) (snapshot_at (source_of inputs) trace.instant)
      (same_facts inputs loaded trace from covers listed trace.instant) start trace.steps clashed is
  read_verdict (Refused step why) is =
      fails_read (name_of inputs) (pool_text loaded.pool) from.rules.0 inputs.mapping.rules (same_names inputs loaded trace from covers listed)
      (snapshot_at (source_in loaded.pool loaded.table) trace.instant) (snapshot_at (source_of inputs) trace.instant)
      (same_facts inputs loaded trace from covers listed trace.instant) 1 start trace.steps step why is

  pub judges : (verdict : Verdict)
      → IsVerdict (pool_text loaded.pool) loaded.rules (source_in loaded.pool loaded.table) trace verdict → Judges inputs trace verdict
  judges verdict is =
      read_verdict verdict
      (subst (λ (rules : RuleSet). IsVerdict (pool_text loaded.pool) rules (source_in loaded.pool loaded.table) trace verdict)
      from.rules.2 is)

  -- that is the one verdict
  pub is_verdict :
      ((name : ConstId → List ℕ) (rules : RuleSet) (source : List (StampedOf (FactOf (List ℕ)))) (trace : Trace) (one other : Verdict)
      → IsValid rules → IsVerdict name rules source trace one → IsVerdict name rules source trace other → one ≡ other)
      → ((name : ConstId → List ℕ) (rules : RuleSet) (source : List (StampedOf (FactOf (List ℕ)))) (trace : Trace)
      → IsValid rules → HasConstantsOnly source → IsAccepted name rules source trace → (target : List (FactOf (List ℕ)))
      → ¬ (IsSolution name rules (snapshot_at source trace.instant) target))
      → (verdict : Verdict) → inputs.trace ≡ Some trace
      → IsVerdict (pool_text loaded.pool) loaded.rules (source_in loaded.pool loaded.table) trace verdict → IsVerdictOf inputs verdict
  is_verdict one none verdict read is = record {
    trace = trace;
    read = read;
    right = judges verdict is;
    one = λ other said. one (name_of inputs) inputs.mapping.rules (source_of inputs) trace other verdict from.read_valid said
        (judges verdict is);
    shows = λ accepted. none (name_of inputs) inputs.mapping.rules (source_of inputs) trace from.read_valid (source_is_constant inputs)
        (subst (Judges inputs trace) accepted (judges verdict is));
  }
