-- A mapping and its source, with one pool for the constants of both.
use Rattle.std.specs.Prelude.{◌≡◌, ◌↔◌, ℕ, ◌<◌, List, [], length, map, sum_by, slice_index_or, All, Any, Contains}
use Rattle.std.specs.List.{AllZip}
use Rattle.term_core.specs.declared.const_id.ConstId.{ConstId}
use Rattle.rule_core.specs.declared.rules.Relation.{Relation}
use Rattle.rule_core.specs.Mapping.{RuleSet}
use Rattle.rule_core.specs.Terms.{FactOf, StampedOf}
use Rattle.rule_core.specs.Tables.{facts_of, as_terms}
use Rattle.rule_core.specs.Renaming.{renamed_fact}
use Rattle.mapping_core.specs.Mapping.{AnyHasConstant}
use Rattle.fact_table.specs.declared.fact.Fact.{Fact}
use Rattle.fact_table.specs.Snapshots.{with_terms}

-- what is loaded: the rules, the texts of all constants, and the facts of the source
pub record LoadedOf : Type 0 where
  pub rules : RuleSet
  pub pool : List (List ℕ)
  pub table : List Fact

abbrev pub loaded_of : RuleSet → List (List ℕ) → List Fact → LoadedOf
loaded_of rules pool table = record { rules = rules; pool = pool; table = table }

-- the pool has each constant of the rules and of the facts
pub record HasEachConstant (loaded : LoadedOf) : Type 0 where
  pub rules : (c : ConstId) → AnyHasConstant loaded.rules c → c.0 < length loaded.pool
  pub facts : All (λ fact. All (λ c. c.0 < length loaded.pool) fact.row) loaded.table

-- the rows of a source table, as texts
abbrev pub RawTable : Type 0
RawTable = List (StampedOf (List (List ℕ)))

-- a cell of a table is the text
abbrev pub HasText : List RawTable → List ℕ → Type 0
HasText tables text = Any (λ table. Any (λ fact. Contains fact.row text) table) tables

-- a table for each relation, each row of it as wide as the relation
abbrev pub AreTablesOf : List Relation → List RawTable → Type 0
AreTablesOf relations tables = AllZip (λ relation table. All (λ fact. length fact.row ≡ length relation.columns) table) relations tables

-- how many cells the tables have together
abbrev pub cell_count : List RawTable → ℕ
cell_count tables = sum_by (λ table. sum_by (λ fact. length fact.row) table) tables

-- the text at a constant's place in a pool; behind the last an empty one
abbrev pub text_in : List (List ℕ) → ConstId → List ℕ
text_in pool id = slice_index_or pool id.0 []

-- a fact over its span, with the texts of its constants
abbrev pub as_text : List (List ℕ) → Fact → StampedOf (FactOf (List ℕ))
as_text pool fact = record { row = renamed_fact (text_in pool) (with_terms fact).row; span = fact.span }

-- the facts, read as texts, are exactly those of the tables
abbrev pub AreFactsOf : List RawTable → List (List ℕ) → List Fact → Type 0
AreFactsOf tables pool table = (fact : StampedOf (FactOf (List ℕ)))
    → Contains (map (as_text pool) table) fact ↔ Contains (facts_of (map as_terms tables)) fact
