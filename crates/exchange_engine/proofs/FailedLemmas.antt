-- The trace of an instant of a clash: its instant has no solution, it is accepted, and it may be written.
use Rattle.std.proofs.Common.{◌≡◌, ◌≤◌, ℤ, Option, Some, None, List, [], ◌∷◌, length, map, refl, sym, ◌∙◌, subst, arith, All}
use Rattle.std.specs.Prelude.{IfOk}
use Rattle.std.specs.declared.result.Result.{Result}
use Rattle.std.specs.declared.result.Result.TheVariants.{Ok, Err}
use Rattle.std.proofs.lemmas.Int.{ints}
use Rattle.std.proofs.lemmas.List.Elements.{All-nil, All-cons, All-append, All-head, All-tail, All-weaker}
use Rattle.time_line.specs.Span.{Ends, Has, IsSpan, IsWithinLimit, IsWithinInstants, instant_between}
use Rattle.term_core.specs.declared.const_id.ConstId.{ConstId}
use Rattle.term_core.specs.Pool.{IsPool}
use Rattle.rule_core.specs.Terms.{FactOf}
use Rattle.rule_core.specs.Mapping.{RuleSet}
use Rattle.rule_core.specs.Solution.{IsSolution}
use Rattle.rule_core.specs.Validity.{IsValid}
use Rattle.fact_table.specs.Snapshots.{stamped_facts, snapshot_of, with_terms}
use Rattle.failure_trace.specs.declared.firing.Firing.{Firing}
use Rattle.failure_trace.specs.declared.journal.JournalStep.{JournalStep}
use Rattle.failure_trace.specs.declared.trace.Bound.{Bound}
use Rattle.failure_trace.specs.declared.trace.Trace.{Trace}
use Rattle.failure_trace.specs.declared.trace.TraceStep.{TraceStep}
use Rattle.failure_trace.specs.declared.trace.Value.{Value}
use Rattle.failure_trace.specs.declared.trace.Value.TheVariants.{Const, Null}
use Rattle.failure_trace.specs.Firings.{AreFirings}
use Rattle.failure_trace.specs.JournalRun.{RowOf}
use Rattle.failure_trace.specs.Printed.{IsWritableValue, IsWritableBound, IsWritableStep, IsWritable}
use Rattle.failure_trace.specs.Projected.{CanTellFiring, CanTellStep, IsProjected}
use Rattle.failure_trace.specs.Trace.{numbers_of, numbers_in}
use Rattle.egd_chase.specs.Accepted.{FailsAt, ProjectedTracesAreAccepted}
use Rattle.normaliser.specs.Normalised.{IsNormalised, HaveSameSnapshots}
use Rattle.fact_table.specs.declared.fact.Fact.{Fact}
use Rattle.exchange_engine.specs.Loading.{LoadedOf, HasEachConstant}
use Rattle.exchange_engine.specs.Ran.{rows_for}
use Rattle.exchange_engine.specs.Failed.{CountsFromOne}
use Rattle.exchange_engine.specs.Chased.{IsClashFrom, IsFailedOf}
use Rattle.exchange_engine.proofs.MadeLemmas.{IsMade}
use Rattle.exchange_engine.proofs.RunLemmas.{run_moves, steps_told, clash_told}
use Rattle.exchange_engine.proofs.FiredLemmas.{firings_move, rows_made, firings_told}
use Rattle.exchange_engine.proofs.SourceLemmas.{ground}
use Rattle.exchange_engine.proofs.SolvedLemmas.{SolutionLaw}

-- the instant inside a span is within the limit of instants
pub inside_within : (span : Ends) → IsSpan span → IsWithinInstants (Some (instant_between span.lo span.hi))
inside_within span is = by span.lo span.hi is.start is.stop
  where
    by : (lo hi : Option ℤ) → IsWithinLimit lo → IsWithinLimit hi → IsWithinInstants (Some (instant_between lo hi))
    by (Some lo) hi a b = (omega (arith, ints), omega (arith, ints))
    by None (Some hi) a b = (omega (arith, ints), omega (arith, ints))
    by None None a b = (omega (arith, ints), omega (arith, ints))

-- the numbers of a trace that may be written
from_one : (trace : Trace) → IsWritable trace → CountsFromOne trace
from_one trace writable = All-weaker IsWritableStep (λ (step : TraceStep). All (λ number. 1 ≤ number) (numbers_in step.binding))
    (λ step is. numbers step.binding is.bound) trace.steps writable.steps
  where
    value : (v : Value) → IsWritableValue v → All (λ number. 1 ≤ number) (numbers_of v)
    value (Const text) is = All-nil (λ number. 1 ≤ number)
    value (Null number) is = All-cons (λ number. 1 ≤ number) number [] is.0 (All-nil (λ number. 1 ≤ number))

    numbers : (binding : List Bound) → All IsWritableBound binding → All (λ number. 1 ≤ number) (numbers_in binding)
    numbers [] is = All-nil (λ number. 1 ≤ number)
    numbers (bound ∷ binding) is = All-append (λ number. 1 ≤ number) (numbers_of bound.value) (numbers_in binding)
        (value bound.value (All-head IsWritableBound bound binding is).1)
        (numbers binding (All-tail IsWritableBound bound binding is))

module _ (loaded : LoadedOf) (valid : IsValid loaded.rules) (has : HasEachConstant loaded) (pool : IsPool loaded.pool)
    (rows_are : stamped_facts loaded.table ≡ map with_terms loaded.table)
    (keeps : (rules : RuleSet) (table pieces : List Fact) → IsNormalised rules table pieces → HaveSameSnapshots table pieces)
    (firings : List Firing) (journal : List JournalStep) (clash : JournalStep) (from : IsClashFrom loaded firings journal clash) where
  abbrev rows : List (RowOf ConstId)
  rows = from.rows

  same : HaveSameSnapshots loaded.table from.started.fired.pieces
  same = keeps loaded.rules loaded.table from.started.fired.pieces from.started.fired.normalised

  -- the firings on the pieces are those on the source
  firings_are : AreFirings loaded.rules (stamped_facts loaded.table) firings
  firings_are = firings_move loaded.rules (stamped_facts from.started.fired.pieces) (stamped_facts loaded.table)
      (λ t fact. ((same t fact).1, (same t fact).0)) firings from.started.fired.exact

  made : All (λ row. IsMade loaded.rules (length loaded.pool) row.row) rows
  made = rows_made loaded valid has rows_are firings rows firings_are.instants from.started.rows_are from.started.hold

  -- what `project` asks for
  pub can_tell_firings : (t : ℤ) → All (CanTellFiring loaded.rules loaded.pool t) firings
  can_tell_firings t = firings_told loaded valid has rows_are firings firings_are t

  pub can_tell_journal : All (CanTellStep loaded.rules loaded.pool) journal
  can_tell_journal = steps_told loaded.rules valid (length loaded.pool) loaded.pool refl rows journal from.leads.last from.leads.run made

  pub can_tell_clash : CanTellStep loaded.rules loaded.pool clash
  can_tell_clash = clash_told loaded.rules valid (length loaded.pool) loaded.pool refl rows journal clash from.leads made

  module _ (law : SolutionLaw) (t : ℤ) (at : Has clash.span t) where
    no_solution : (instance : List (FactOf ConstId)) → ¬ (IsSolution (λ c. c) loaded.rules (snapshot_of loaded.table t) instance)
    no_solution instance solution =
        let constants = ground loaded.table rows_are (length loaded.pool) has.facts t in
        let h = (law loaded.rules valid (snapshot_of loaded.table t) instance constants).0 solution in
        from.none t at instance
        (h.0, record { of_unknown = h.1.of_unknown; into = λ fact c. h.1.into fact ((from.started.hold t fact).0 c) })

    fails : FailsAt loaded.rules (stamped_facts loaded.table) firings journal clash t
    fails = record {
      firings_are = firings_are;
      rows = rows;
      rows_are = from.started.hold t;
      state = from.leads.last;
      run = from.leads.run;
      clash = from.leads.allowed;
      at = at;
    }

    pub failed_of : ProjectedTracesAreAccepted → (trace : Trace) → t ≡ instant_between clash.span.lo clash.span.hi
        → IsProjected loaded.rules loaded.pool firings journal clash t trace → IsWritable trace → IsFailedOf loaded trace
    failed_of accepted trace inside told writable =
        let instant : t ≡ trace.instant = sym told.instant in
        record {
          failed = λ instance. subst (λ x. ¬ (IsSolution (λ c. c) loaded.rules (snapshot_of loaded.table x) instance)) instant
              (no_solution instance);
          accepted = accepted loaded.rules loaded.pool (stamped_facts loaded.table) firings journal clash t trace valid pool fails
              can_tell_clash.1 told;
          writable = writable;
          numbers = from_one trace writable;
          inside = record {
            firings = firings;
            fired = from.started.fired;
            journal = journal;
            clash = clash;
            leads = record {
              last = from.leads.last;
              run = run_moves loaded.rules rows (rows_for loaded firings) journal from.leads.last from.started.rows_are from.leads.run;
              allowed = from.leads.allowed;
            };
            inside = told.instant ∙ inside;
            told = subst (λ x. IsProjected loaded.rules loaded.pool firings journal clash x trace) instant told;
          };
        }

    -- the same of what projecting answers
    pub failed_result : {E : Type 0} → ProjectedTracesAreAccepted → IsSpan clash.span → t ≡ instant_between clash.span.lo clash.span.hi
        → (result : Result Trace E) → IfOk result (IsProjected loaded.rules loaded.pool firings journal clash t)
        → IfOk result (λ trace. IsWithinInstants (Some t) → IsWritable trace) → IfOk result (IsFailedOf loaded)
    failed_result {E} accepted span inside (Ok trace) told writable =
        failed_of accepted trace inside told
        (writable (subst (λ x. IsWithinInstants (Some x)) (sym inside) (inside_within clash.span span)))
    failed_result {E} accepted span inside (Err e) told writable = tt
