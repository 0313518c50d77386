-- The answers of a query on the rows of a store.
use Rattle.std.specs.Prelude.{◌≡◌, ◌↔◌, ℕ, ℤ, ◌<◌, ◌≤◌, ◌^◌, List, Option, map, length, All, Contains, ⊤}
use Rattle.std.specs.Cmp.Lexicographic.{slice_cmp}
use Rattle.term_core.specs.declared.const_id.ConstId.{ConstId}
use Rattle.term_core.specs.declared.term.Term.{Term}
use Rattle.term_core.specs.declared.term.Term.TheVariants.{Const, Null}
use Rattle.term_core.specs.declared.term.Unknown.{Unknown as HeldUnknown}
use Rattle.term_core.specs.Order.{term_cmp}
use Rattle.rule_core.specs.declared.rules.Branch.{Branch}
use Rattle.rule_core.specs.declared.rules.Query.{Query}
use Rattle.rule_core.specs.Terms.{constant, StampedOf}
use Rattle.rule_core.specs.Validity.{occurrences}
use Rattle.rule_core.specs.Snapshot.{snapshot_at}
use Rattle.rule_core.specs.Coalesced.{Covers, IsCoalesced}
use Rattle.rule_core.specs.Values.{table_value}
use Rattle.rule_core.specs.Tables.{facts_of as table_facts}
use Rattle.rule_core.specs.Answers.{IsBranchAnswer, IsAnswer}
use Rattle.fact_table.specs.Rows.{SeenRow}
use Rattle.fact_table.specs.Snapshots.{facts_of}

-- some atoms in which exactly the variables of the branch occur, and columns among these
pub record IsAnswerable (branch : Branch) : Type 0 where
  pub atoms : 1 ≤ length branch.body
  pub few : length branch.vars < 2 ^ 32
  pub vars : (v : ℕ) → Contains (occurrences branch.body) v ↔ (v < length branch.vars)
  pub columns : All (λ v. v < length branch.vars) branch.columns

-- the row is a list of constants, and they are an answer of the branch on what the rows hold at the instant
abbrev pub IsBranchRow : List (Option SeenRow) → ℤ → List Term → Branch → Type 0
IsBranchRow rows t row branch = (constants : List ConstId) × (row ≡ map Const constants)
    × IsBranchAnswer (λ c. c) branch (snapshot_at (facts_of rows) t) (map constant constants)

-- the row is a list of constants, and they are an answer of the query on what the rows hold at the instant; constants of the
-- query stand for themselves
abbrev pub IsAnswerRow : Query → List (Option SeenRow) → ℤ → List Term → Type 0
IsAnswerRow query rows t row = (constants : List ConstId) × (row ≡ map Const constants)
    × IsAnswer (λ c. c) query (snapshot_at (facts_of rows) t) (map constant constants)

-- the list covers a row at an instant exactly where the row is an answer of the query there
abbrev pub CoversAnswers : Query → List (Option SeenRow) → List (StampedOf (List Term)) → Type 0
CoversAnswers query rows list = (row : List Term) (t : ℤ) → Covers list row t ↔ IsAnswerRow query rows t row

-- each disjunct of the query can be answered
abbrev pub CanAnswer : Query → Type 0
CanAnswer query = All IsAnswerable query.branches

-- an unknown of the term is one of the list
abbrev pub IsKnown : List HeldUnknown → Term → Type 0
IsKnown nulls (Const c) = ⊤
IsKnown nulls (Null u) = Contains nulls u

-- and so all of the tables
abbrev pub AreKnown : List HeldUnknown → List (List (StampedOf (List Term))) → Type 0
AreKnown nulls tables = All (λ table. All (λ e. All (IsKnown nulls) e.row) table) tables

-- the list is coalesced, and covers a row at an instant exactly where it is a list of constants that is an answer of the query on
-- what the tables hold there: a table for each relation, in their order
pub record IsAnsweredOn (tables : List (List (StampedOf (List Term)))) (query : Query) (list : List (StampedOf (List Term))) : Type 0 where
  pub coalesced : IsCoalesced (slice_cmp term_cmp) list
  pub answers : (row : List Term) (t : ℤ) → Covers list row t ↔ (constants : List ConstId) × (row ≡ map Const constants)
      × IsAnswer (λ c. c) query (snapshot_at (table_facts (map table_value tables)) t) (map constant constants)
