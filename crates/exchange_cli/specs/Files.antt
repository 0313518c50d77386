-- The files that a command stores, in named groups.
use Rattle.std.specs.Prelude.{◌≡◌, ◌≢◌, ℕ, List, [], ◌∷◌, ◌++◌, AllPairs}
use Rattle.exchange_cli.specs.Inputs.{Inputs}
use Rattle.exchange_cli.specs.Names.{verdict_name}
use Rattle.exchange_cli.specs.Target.{TargetTable, IsTarget, AreTableFiles}
use Rattle.exchange_cli.specs.Answers.{AreAnswerFiles}
use Rattle.exchange_cli.specs.Endings.{solved}
use Rattle.exchange_cli.specs.declared.file.FileOut.{FileOut}

-- no two of the files have one name
abbrev pub HaveDistinctNames : List FileOut → Type 0
HaveDistinctNames files = AllPairs (λ a b. a.name ≢ b.name) files

-- the file is the verdict below the prefix, with this text
pub record IsVerdict (prefix text : List ℕ) (file : FileOut) : Type 0 where
  pub name : file.name ≡ verdict_name prefix
  pub bytes : file.bytes ≡ text

-- the files are the tables of a target below the prefix, in the order of the relations
pub record AreTargetFiles (inputs : Inputs) (prefix : List ℕ) (files : List FileOut) : Type 0 where
  pub tables : List TargetTable
  pub target : IsTarget inputs tables
  pub each : AreTableFiles prefix inputs.mapping.rules.targets files tables

-- the files of a solved exchange
pub record SolvedFiles : Type 0 where
  pub tables : List FileOut
  pub answers : List FileOut
  pub verdict : FileOut

-- the same, in the order in which they are stored
abbrev pub in_order : SolvedFiles → List FileOut
in_order files = files.tables ++ files.answers ++ files.verdict ∷ []

-- the groups are those of a solved exchange: the target's tables, the answers of the queries, and then the verdict
pub record AreSolvedFiles (inputs : Inputs) (prefix : List ℕ) (files : SolvedFiles) : Type 0 where
  pub tables : AreTargetFiles inputs prefix files.tables
  pub answers : AreAnswerFiles inputs prefix files.answers
  pub verdict : IsVerdict prefix solved files.verdict
