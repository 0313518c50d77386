-- What a checker is given, at the level of texts, and what its verdict says of a trace.
use Rattle.std.specs.Prelude.{◌≡◌, ℕ, ◌<◌, List, length, All, ⊤}
use Rattle.term_core.specs.declared.const_id.ConstId.{ConstId}
use Rattle.rule_core.specs.Terms.{constant, FactOf, StampedOf}
use Rattle.rule_core.specs.Mapping.{RuleSet}
use Rattle.rule_core.specs.Snapshot.{snapshot_at}
use Rattle.rule_core.specs.Solution.{IsSolvable}
use Rattle.rule_core.specs.Renaming.{renamed_stamped, IsRuleConstant}
use Rattle.fact_table.specs.declared.fact.Fact.{Fact}
use Rattle.fact_table.specs.Snapshots.{stamped_facts}
use Rattle.failure_trace.specs.declared.trace.Trace.{Trace}
use Rattle.failure_trace.specs.Projected.{pool_text}
use Rattle.failure_trace.specs.TraceRun.{IsAccepted, IsRefused}
use Rattle.trace_checker.specs.declared.verdict.Verdict.{Verdict}
use Rattle.trace_checker.specs.declared.verdict.Verdict.TheVariants.{Accepted, Refused}

-- the facts of a table over their spans, with the texts of their constants
abbrev pub source_of : List (List ℕ) → List Fact → List (StampedOf (FactOf (List ℕ)))
source_of pool table = renamed_stamped (pool_text pool) (stamped_facts table)

-- the pool has each constant of the rules and of the facts
pub record HasConstants (pool : List (List ℕ)) (rules : RuleSet) (table : List Fact) : Type 0 where
  pub of_rules : (c : ConstId) → IsRuleConstant rules c → c.0 < length pool
  pub of_facts : All (λ fact. All (λ c. c.0 < length pool) fact.row) table

-- each term of the source is a constant
abbrev pub HasConstantsOnly : List (StampedOf (FactOf (List ℕ))) → Type 0
HasConstantsOnly source = All (λ e. All (λ term. (c : List ℕ) × (term ≡ constant c)) e.row.terms) source

module _ (name : ConstId → List ℕ) (rules : RuleSet) (source : List (StampedOf (FactOf (List ℕ)))) where
  -- the trace is accepted, or this step is the first that fails, by this part of the table
  abbrev pub IsVerdict : Trace → Verdict → Type 0
  IsVerdict trace Accepted = IsAccepted name rules source trace
  IsVerdict trace (Refused step why) = IsRefused name rules source trace step why

  -- where the trace is accepted, no instance is a solution at its instant
  abbrev pub Shows : Trace → Verdict → Type 0
  Shows trace Accepted = ¬ (IsSolvable name rules (snapshot_at source trace.instant))
  Shows trace (Refused step why) = ⊤
