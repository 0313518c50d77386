-- The run behind a stored target: firings on what was read, and a journal from their rows.
use Rattle.std.specs.Prelude.{◌≡◌, ◌↔◌, ℕ, ℤ, List, length, map, sum_by, AllPairs, Contains}
use Rattle.std.specs.declared.cmp.Ordering.TheVariants.{Less}
use Rattle.term_core.specs.declared.const_id.ConstId.{ConstId}
use Rattle.term_core.specs.declared.term.Unknown.{Unknown as HeldUnknown}
use Rattle.term_core.specs.Order.{unknown_cmp}
use Rattle.rule_core.specs.Terms.{Unknown, numbered, named, TermOf, constant, unknown, FactOf}
use Rattle.rule_core.specs.Values.{unknown_value}
use Rattle.rule_core.specs.Tables.{facts_of}
use Rattle.rule_core.specs.Snapshot.{snapshot_at}
use Rattle.rule_core.specs.Renaming.{HoldTheSame, HasUnknown}
use Rattle.failure_trace.specs.declared.firing.Firing.{Firing}
use Rattle.failure_trace.specs.declared.journal.JournalStep.{JournalStep}
use Rattle.failure_trace.specs.JournalRun.{RowOf, IsRun}
use Rattle.exchange_engine.specs.Loading.{LoadedOf, text_in}
use Rattle.exchange_engine.specs.Ran.{AreFiredOn, rows_for}
use Rattle.exchange_cli.specs.Inputs.{Inputs}
use Rattle.exchange_cli.specs.Exchanged.{IsLoadedFrom}
use Rattle.exchange_cli.specs.Target.{TargetTable}
use Rattle.exchange_cli.specs.Rendering.{rank_in}

-- an unknown of a run by its number among these
abbrev pub told_unknown : List HeldUnknown → Unknown ConstId → Unknown (List ℕ)
told_unknown nulls (named rule frontier var) = numbered (rank_in nulls (record { rule = rule; frontier = frontier; var = var }))
told_unknown nulls (numbered n) = numbered n

-- a constant of a run by its text
abbrev pub told_term : List (List ℕ) → List HeldUnknown → TermOf ConstId → TermOf (List ℕ)
told_term pool nulls (constant c) = constant (text_in pool c)
told_term pool nulls (unknown u) = unknown (told_unknown nulls u)

-- and so each term of a fact
abbrev pub told_fact : List (List ℕ) → List HeldUnknown → FactOf ConstId → FactOf (List ℕ)
told_fact pool nulls fact = record { relation = fact.relation; terms = map (told_term pool nulls) fact.terms }

-- these are, in their order, the unknowns that the rows hold at some instant
pub record AreUnknownsIn (rows : List (RowOf ConstId)) (nulls : List HeldUnknown) : Type 0 where
  pub each : (u : HeldUnknown) → Contains nulls u ↔ ((t : ℤ) × HasUnknown (snapshot_at rows t) (unknown_value u))
  pub ascending : AllPairs (λ u w. unknown_cmp u w ≡ Less) nulls

-- the snapshot of the tables is at every instant that of the rows, each constant being its text in the pool, and each unknown its number
pub record AreStoredOf (pool : List (List ℕ)) (rows : List (RowOf ConstId)) (tables : List TargetTable) : Type 0 where
  pub nulls : List HeldUnknown
  pub unknowns : AreUnknownsIn rows nulls
  pub same : (t : ℤ) → HoldTheSame (snapshot_at (facts_of tables) t) (map (told_fact pool nulls) (snapshot_at rows t))

-- there are firings on the normalised table of what was read, loaded with some pool; a journal is an allowed run from their rows, and its
-- end state is at every instant the snapshot of the tables. So many are the pieces of that table, the firings, the steps of the journal,
-- and the cuts that these note
pub record IsRunBehind (inputs : Inputs) (tables : List TargetTable) (pieces firings steps cuts : ℕ) : Type 0 where
  pub loaded : LoadedOf
  pub from : IsLoadedFrom inputs loaded
  pub fired : List Firing
  pub on : AreFiredOn loaded fired
  pub journal : List JournalStep
  pub last : List (RowOf ConstId)
  pub run : IsRun loaded.rules (rows_for loaded fired) journal last
  pub same : AreStoredOf loaded.pool last tables
  pub pieces_are : pieces ≡ length on.pieces
  pub firings_are : firings ≡ length fired
  pub steps_are : steps ≡ length journal
  pub cuts_are : cuts ≡ sum_by (λ step. length step.cuts) journal
