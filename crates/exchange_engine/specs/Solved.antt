-- What an exchange gives where it is solved.
use Rattle.std.specs.Prelude.{◌≡◌, ◌↔◌, ℕ, ◌<◌, ◌+◌, ℤ, List, map, length, sum_by, slice_get, All, AllPairs, Any, Contains, IsSomeAnd, ⊤}
use Rattle.std.specs.List.{AllZip}
use Rattle.std.specs.declared.cmp.Ordering.TheVariants.{Less}
use Rattle.std.specs.Cmp.Lexicographic.{slice_cmp}
use Rattle.term_core.specs.declared.const_id.ConstId.{ConstId}
use Rattle.term_core.specs.declared.term.Unknown.{Unknown as HeldUnknown}
use Rattle.term_core.specs.declared.term.Term.{Term}
use Rattle.term_core.specs.declared.term.Term.TheVariants.{Const, Null}
use Rattle.term_core.specs.Order.{unknown_cmp, term_cmp}
use Rattle.rule_core.specs.declared.rules.Relation.{Relation}
use Rattle.rule_core.specs.Mapping.{RuleSet}
use Rattle.rule_core.specs.Terms.{StampedOf}
use Rattle.rule_core.specs.Values.{table_value}
use Rattle.rule_core.specs.Tables.{facts_of}
use Rattle.rule_core.specs.Snapshot.{snapshot_at}
use Rattle.rule_core.specs.Renaming.{HoldTheSame}
use Rattle.rule_core.specs.Solution.{IsUniversal}
use Rattle.rule_core.specs.Coalesced.{IsCoalesced}
use Rattle.rule_core.specs.Firing.{frontier_of}
use Rattle.fact_table.specs.Snapshots.{snapshot_of}
use Rattle.failure_trace.specs.JournalRun.{RowOf, IsRun}
use Rattle.exchange_engine.specs.Loading.{LoadedOf}
use Rattle.exchange_engine.specs.Ran.{AreFiredOn, rows_for, CountsPieces}
use Rattle.exchange_engine.specs.declared.outcome.Solved.{Solved}
use Rattle.exchange_engine.specs.declared.outcome.Outcome.{Outcome}
use Rattle.exchange_engine.specs.declared.outcome.Outcome.TheVariants as outcome

-- a table of a target: its rows with their spans
abbrev pub TermTable : Type 0
TermTable = List (StampedOf (List Term))

-- each table is coalesced
abbrev pub AreCoalesced : List TermTable → Type 0
AreCoalesced tables = All (IsCoalesced (slice_cmp term_cmp)) tables

-- at every instant the tables are universal together; constants stand for themselves
abbrev pub AreUniversal : LoadedOf → List TermTable → Type 0
AreUniversal loaded tables = (t : ℤ)
    → IsUniversal (λ c. c) loaded.rules (snapshot_of loaded.table t) (snapshot_at (facts_of (map table_value tables)) t)

-- a table for each relation, each row of it as wide as the relation
abbrev pub AreTargetTables : List Relation → List TermTable → Type 0
AreTargetTables relations tables =
    AllZip (λ relation table. All (λ e. length e.row ≡ length relation.columns) table) relations tables

-- the unknown is a term of a row
abbrev pub IsUnknownOf : List TermTable → HeldUnknown → Type 0
IsUnknownOf tables u = Any (λ table. Any (λ e. Contains e.row (Null u)) table) tables

-- exactly the unknowns of the tables, ascending
pub record AreUnknownsOf (tables : List TermTable) (nulls : List HeldUnknown) : Type 0 where
  pub each : (u : HeldUnknown) → Contains nulls u ↔ IsUnknownOf tables u
  pub ascending : AllPairs (λ u w. unknown_cmp u w ≡ Less) nulls

-- a constant of the term is a number of the pool
abbrev pub IsTermWithin : ℕ → Term → Type 0
IsTermWithin size (Const c) = c.0 < size
IsTermWithin size (Null u) = All (λ c. c.0 < size) u.frontier

-- and so all of the tables
abbrev pub AreWithinPool : LoadedOf → List TermTable → Type 0
AreWithinPool loaded tables = All (λ table. All (λ e. All (IsTermWithin (length loaded.pool)) e.row) table) tables

-- the unknown has the place of a tgd, a value for each variable of its frontier, and the place of one of its `exists` variables
abbrev pub IsMadeBy : RuleSet → HeldUnknown → Type 0
IsMadeBy rules u = IsSomeAnd (slice_get rules.tgds u.rule)
    (λ tgd. (length u.frontier ≡ length (frontier_of tgd)) × (tgd.body_vars + u.var < length tgd.vars))

-- how much was done: the facts of the normalised table, the firings, the steps of the journal, and the cuts that these note
pub record AreCountsOf (loaded : LoadedOf) (solved : Solved) : Type 0 where
  pub pieces : CountsPieces loaded solved.counts.pieces
  pub firings : solved.counts.firings ≡ length solved.firings
  pub steps : solved.counts.steps ≡ length solved.journal
  pub cuts : solved.counts.cuts ≡ sum_by (λ step. length step.cuts) solved.journal

-- at every instant the tables hold what these rows do
abbrev pub HoldSnapshotsOf : List (RowOf ConstId) → List TermTable → Type 0
HoldSnapshotsOf rows tables = (t : ℤ)
    → HoldTheSame (snapshot_at (facts_of (map table_value tables)) t) (snapshot_at rows t)

-- the run behind it: the firings are those on the normalised table; the journal is an allowed run from their rows to such as the
-- tables hold at every instant
pub record IsRunOf (loaded : LoadedOf) (solved : Solved) : Type 0 where
  pub fired : AreFiredOn loaded solved.firings
  pub last : List (RowOf ConstId)
  pub run : IsRun loaded.rules (rows_for loaded solved.firings) solved.journal last
  pub same : HoldSnapshotsOf last solved.tables

-- what is so of what was solved
abbrev pub IfSolved : Outcome → (Solved → Type 0) → Type 0
IfSolved (outcome.Solved solved) P = P solved
IfSolved (outcome.Failed trace) P = ⊤
