-- A target at one instant: the rows that hold there, without their spans, and the files in which they are stored.
use Rattle.std.specs.Prelude.{◌≡◌, ℕ, ◌+◌, ℤ, List, [], ◌∷◌, ◌++◌, length, map, sum_by, All, AllPairs}
use Rattle.std.specs.declared.cmp.Ordering.TheVariants.{Less}
use Rattle.rule_core.specs.declared.rules.Relation.{Relation}
use Rattle.rule_core.specs.Terms.{TermOf, FactOf}
use Rattle.rule_core.specs.Order.{stored_cmp}
use Rattle.rule_core.specs.Snapshot.{snapshot_at}
use Rattle.rule_core.specs.Solution.{IsUniversal}
use Rattle.temporal_csv.specs.Stored.{IsStoredBare, bare_row, table_text}
use Rattle.exchange_engine.specs.Loading.{LoadedOf}
use Rattle.exchange_engine.specs.declared.outcome.Solved.{Solved}
use Rattle.exchange_cli.specs.Inputs.{Inputs, name_of, source_of}
use Rattle.exchange_cli.specs.Names.{table_name}
use Rattle.exchange_cli.specs.Endings.{solved as solved_text}
use Rattle.exchange_cli.specs.Exchanged.{IsLoadedFrom, IsSolvedFrom}
use Rattle.exchange_cli.specs.Target.{TargetTable, IsTarget}
use Rattle.exchange_cli.specs.Rendering.{stored_table}
use Rattle.exchange_cli.specs.Files.{IsVerdict}
use Rattle.exchange_cli.specs.declared.file.FileOut.{FileOut}

-- a table of one instant: its rows of terms
abbrev pub BareTable : Type 0
BareTable = List (List (TermOf (List ℕ)))

-- the rows of each table, as facts of the relations from the first number on
abbrev pub bare_facts : ℕ → List BareTable → List (FactOf (List ℕ))
bare_facts relation [] = []
bare_facts relation (table ∷ tables) =
    map (λ row. record { relation = relation; terms = row }) table ++ bare_facts (relation + 1) tables

-- the rows stand in order, and each once
abbrev pub AreInOrder : BareTable → Type 0
AreInOrder rows = AllPairs (λ a b. stored_cmp a b ≡ Less) rows

-- the rows of each table that hold at the instant
abbrev pub tables_at : ℤ → List TargetTable → List BareTable
tables_at t tables = map (λ table. snapshot_at table t) tables

-- the tables are what an exchange of what was read stores: each unknown has its number among those of the whole target
pub record AreExchanged (inputs : Inputs) (tables : List TargetTable) : Type 0 where
  pub loaded : LoadedOf
  pub from : IsLoadedFrom inputs loaded
  pub solved : Solved
  pub given : IsSolvedFrom loaded solved
  pub stored : tables ≡ map (stored_table loaded.pool solved.nulls) solved.tables

-- the tables are a target at the instant: their rows are those of the target's tables that hold there, in order and each once, and they
-- are universal together for the source at the instant
pub record IsSnapshotOf (inputs : Inputs) (t : ℤ) (tables : List BareTable) : Type 0 where
  pub ordered : All AreInOrder tables
  pub universal : IsUniversal (name_of inputs) inputs.mapping.rules (snapshot_at (source_of inputs) t) (bare_facts 0 tables)
  pub target : List TargetTable
  pub is : IsTarget inputs target
  pub exchanged : AreExchanged inputs target
  pub shown : tables ≡ tables_at t target

-- the file is the table of the relation with these rows, without spans: its name, its bytes, and what they mean
pub record IsBareFile (prefix : List ℕ) (relation : Relation) (file : FileOut) (rows : BareTable) : Type 0 where
  pub name : file.name ≡ table_name prefix relation.name
  pub text : file.bytes ≡ table_text relation.columns (map bare_row rows)
  pub stored : IsStoredBare file.bytes relation.columns (map bare_row rows)

-- the files are the tables of these relations, in their order
abbrev pub AreBareFiles : List ℕ → List Relation → List FileOut → List BareTable → Type 0
AreBareFiles prefix [] files tables = (files ≡ []) × (tables ≡ [])
AreBareFiles prefix (r ∷ rs) [] tables = ⊥
AreBareFiles prefix (r ∷ rs) (f ∷ fs) [] = ⊥
AreBareFiles prefix (r ∷ rs) (f ∷ fs) (rows ∷ more) = IsBareFile prefix r f rows × AreBareFiles prefix rs fs more

-- how many rows the tables have together
abbrev pub row_count : List BareTable → ℕ
row_count tables = sum_by length tables

-- the files of a snapshot
pub record SnapshotFiles : Type 0 where
  pub tables : List FileOut
  pub verdict : FileOut

-- the same, in the order in which they are stored
abbrev pub shown_in_order : SnapshotFiles → List FileOut
shown_in_order files = files.tables ++ files.verdict ∷ []

-- the groups are those of a snapshot at the instant below the prefix: its tables, which have so many rows together, and then the verdict
pub record AreSnapshotFiles (inputs : Inputs) (t : ℤ) (prefix : List ℕ) (files : SnapshotFiles) (rows : ℕ) : Type 0 where
  pub tables : List BareTable
  pub snapshot : IsSnapshotOf inputs t tables
  pub each : AreBareFiles prefix inputs.mapping.rules.targets files.tables tables
  pub verdict : IsVerdict prefix solved_text files.verdict
  pub rows_are : rows ≡ row_count tables
