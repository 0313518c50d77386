-- What is said of a target, from the run behind it and its tables.
use Rattle.std.proofs.Common.{◌≡◌, ◌<◌, List, length, get_or, map, All}
use Rattle.std.specs.Prelude.{slice_get}
use Rattle.std.specs.List.{AllZip}
use Rattle.std.proofs.lemmas.Option.{slice_get_within}
use Rattle.term_core.specs.declared.const_id.ConstId.{ConstId}
use Rattle.term_core.specs.declared.term.Unknown.{Unknown as HeldUnknown}
use Rattle.rule_core.specs.declared.rules.Relation.{Relation}
use Rattle.rule_core.specs.Laws.{CertainIsAnswered}
use Rattle.rule_core.specs.Validity.{IsValid}
use Rattle.body_match.proofs.SearchLemmas.{some_and}
use Rattle.fact_table.specs.Snapshots.{stamped_facts, with_terms}
use Rattle.failure_trace.specs.declared.firing.Firing.{Firing}
use Rattle.failure_trace.specs.declared.journal.JournalStep.{JournalStep}
use Rattle.failure_trace.specs.JournalRun.{RowOf}
use Rattle.certain_answers.specs.Answering.{IsAnsweredOn}
use Rattle.exchange_engine.specs.declared.outcome.Counts.{Counts}
use Rattle.exchange_engine.specs.declared.outcome.Solved.{Solved}
use Rattle.exchange_engine.specs.Loading.{LoadedOf, HasEachConstant}
use Rattle.exchange_engine.specs.Ran.{rows_for}
use Rattle.exchange_engine.specs.Solved.{TermTable, AreCoalesced, AreUnknownsOf, AreCountsOf, HoldSnapshotsOf}
use Rattle.exchange_engine.specs.Chased.{AreSettledFrom, IsSolvedOf}
use Rattle.exchange_engine.proofs.AnsweredLemmas.{are_answered}
use Rattle.exchange_engine.proofs.FiredLemmas.{rows_made}
use Rattle.exchange_engine.proofs.MadeLemmas.{IsMade}
use Rattle.exchange_engine.proofs.RunLemmas.{run_moves, run_made}
use Rattle.exchange_engine.proofs.SolvedLemmas.{SolutionLaw, IsChased, universal, are_wide, are_within, are_made}

module _ (loaded : LoadedOf) (valid : IsValid loaded.rules) (has : HasEachConstant loaded)
    (rows_are : stamped_facts loaded.table ≡ map with_terms loaded.table) (firings : List Firing) (journal : List JournalStep)
    (last : List (RowOf ConstId)) (from : AreSettledFrom loaded firings journal last) where
  -- the settled rows are made of the pool's constants and of unknowns that tgds made
  last_made : All (λ row. IsMade loaded.rules (length loaded.pool) row.row) last
  last_made = run_made loaded.rules valid (length loaded.pool) from.rows journal last from.leads.run
      (rows_made loaded valid has rows_are firings from.rows from.started.fired.exact.instants from.started.rows_are from.started.hold)

  -- and are rows of the target's relations
  pub are_below : All (λ row. row.row.relation < length loaded.rules.targets) last
  are_below k d l =
      let row = get_or last k d in
      let s = some_and (λ (r : Relation). length row.row.terms ≡ length r.columns)
      (slice_get loaded.rules.targets row.row.relation) (last_made k d l).wide in
      slice_get_within loaded.rules.targets row.row.relation s.0 s.1

  module _ (tables : List TermTable) (size : length tables ≡ length loaded.rules.targets) (coalesced : AreCoalesced tables)
      (snapshots : HoldSnapshotsOf last tables) where
    chased : IsChased loaded from.rows last tables
    chased = record {
      valid = valid;
      hold = from.started.hold;
      form = from.form;
      made = last_made;
      size = size;
      coalesced = coalesced;
      snapshots = snapshots;
    }

    -- what is given, with these further parts
    abbrev given : List TermTable → List HeldUnknown → Counts → Solved
    given answers nulls counts =
        record { tables = tables; answers = answers; nulls = nulls; counts = counts; firings = firings; journal = journal }

    pub solved_of : SolutionLaw → CertainIsAnswered ConstId → (nulls : List HeldUnknown) → AreUnknownsOf tables nulls
        → (answers : List TermTable) → AllZip (IsAnsweredOn tables) loaded.rules.queries answers → (counts : Counts)
        → AreCountsOf loaded (given answers nulls counts) → IsSolvedOf loaded (given answers nulls counts)
    solved_of law certain nulls unknowns answers on counts are =
        let within = are_within loaded has rows_are from.rows last tables chased in
        let least = universal loaded has rows_are from.rows last tables chased law in
        record {
          tables = are_wide loaded has rows_are from.rows last tables chased;
          coalesced = coalesced;
          universal = least;
          nulls = unknowns;
          made = are_made loaded has rows_are from.rows last tables chased nulls unknowns;
          within = within;
          answers = are_answered loaded tables least within certain loaded.rules.targets loaded.rules.queries answers valid.queries.each on;
          counts = are;
          run = record {
            fired = from.started.fired;
            last = last;
            run = run_moves loaded.rules from.rows (rows_for loaded firings) journal last from.started.rows_are from.leads.run;
            same = snapshots;
          };
        }
