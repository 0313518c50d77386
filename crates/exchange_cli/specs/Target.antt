-- A target of what a run has read, and its tables as files.
use Rattle.std.specs.Prelude.{◌≡◌, ℕ, ℤ, List, [], ◌∷◌, map, All}
use Rattle.rule_core.specs.declared.rules.Relation.{Relation}
use Rattle.rule_core.specs.Terms.{TermOf, StampedOf}
use Rattle.rule_core.specs.Tables.{facts_of}
use Rattle.rule_core.specs.Order.{stored_cmp}
use Rattle.rule_core.specs.Snapshot.{snapshot_at}
use Rattle.rule_core.specs.Solution.{IsUniversal}
use Rattle.rule_core.specs.Coalesced.{IsCoalesced}
use Rattle.temporal_csv.specs.Stored.{IsStored, header_of, stamped_row, table_text}
use Rattle.exchange_cli.specs.Inputs.{Inputs, name_of, source_of}
use Rattle.exchange_cli.specs.Names.{table_name}
use Rattle.exchange_cli.specs.declared.file.FileOut.{FileOut}

-- a target table: its rows of terms with their spans
abbrev pub TargetTable : Type 0
TargetTable = List (StampedOf (List (TermOf (List ℕ))))

-- the tables of a target: each is coalesced, and at every instant they are universal together
pub record IsTarget (inputs : Inputs) (tables : List TargetTable) : Type 0 where
  pub coalesced : All (IsCoalesced stored_cmp) tables
  pub universal : (t : ℤ)
      → IsUniversal (name_of inputs) inputs.mapping.rules (snapshot_at (source_of inputs) t) (snapshot_at (facts_of tables) t)

-- the file is the table of the relation with these rows: its name, its bytes, and what they mean
pub record IsTableFile (prefix : List ℕ) (relation : Relation) (file : FileOut) (rows : TargetTable) : Type 0 where
  pub name : file.name ≡ table_name prefix relation.name
  pub text : file.bytes ≡ table_text (header_of relation.columns) (map stamped_row rows)
  pub stored : IsStored file.bytes (header_of relation.columns) (map stamped_row rows)

-- the files are the tables of these relations, in their order
abbrev pub AreTableFiles : List ℕ → List Relation → List FileOut → List TargetTable → Type 0
AreTableFiles prefix [] files tables = (files ≡ []) × (tables ≡ [])
AreTableFiles prefix (r ∷ rs) [] tables = ⊥
AreTableFiles prefix (r ∷ rs) (f ∷ fs) [] = ⊥
AreTableFiles prefix (r ∷ rs) (f ∷ fs) (rows ∷ more) = IsTableFile prefix r f rows × AreTableFiles prefix rs fs more
