-- The answers of queries as files: over texts, exactly what is certain.
use Rattle.std.specs.Prelude.{◌≡◌, ◌↔◌, ℕ, ℤ, List, ◌++◌, map, codes}
use Rattle.std.specs.List.{AllZip}
use Rattle.rule_core.specs.declared.rules.Query.{Query}
use Rattle.rule_core.specs.declared.rules.Relation.{Relation}
use Rattle.rule_core.specs.Terms.{TermOf, constant}
use Rattle.rule_core.specs.Order.{stored_cmp}
use Rattle.rule_core.specs.Coalesced.{Covers, IsCoalesced}
use Rattle.rule_core.specs.Answers.{IsCertainAt}
use Rattle.exchange_cli.specs.Inputs.{Inputs, name_of, source_of}
use Rattle.exchange_cli.specs.Target.{TargetTable, AreTableFiles}
use Rattle.exchange_cli.specs.declared.file.FileOut.{FileOut}

-- the answers of a query are stored as the table of a relation with this name, whose columns are the head variables
abbrev pub answer_relation : Query → Relation
answer_relation query = record { name = query.name ++ codes ".answers"; columns = query.head }

-- the row is a list of constants, and they are certain at the instant
abbrev pub IsCertainRow : Inputs → Query → ℤ → List (TermOf (List ℕ)) → Type 0
IsCertainRow inputs query t row = (constants : List (List ℕ)) × (row ≡ map constant constants)
    × IsCertainAt (name_of inputs) inputs.mapping.rules query (source_of inputs) t constants

-- the table is coalesced, and covers a row at an instant exactly where it is certain there, over all constants
pub record HasCertain (inputs : Inputs) (query : Query) (table : TargetTable) : Type 0 where
  pub coalesced : IsCoalesced stored_cmp table
  pub certain : (row : List (TermOf (List ℕ))) (t : ℤ) → Covers table row t ↔ IsCertainRow inputs query t row

-- the files are the answers of the queries below the prefix, in the order of the queries
pub record AreAnswerFiles (inputs : Inputs) (prefix : List ℕ) (files : List FileOut) : Type 0 where
  pub tables : List TargetTable
  pub certain : AllZip (HasCertain inputs) inputs.mapping.rules.queries tables
  pub each : AreTableFiles prefix (map answer_relation inputs.mapping.rules.queries) files tables
