-- What a run has read.
use Rattle.std.specs.Prelude.{ℕ, List, map}
use Rattle.std.specs.declared.option.Option.{Option}
use Rattle.term_core.specs.declared.const_id.ConstId.{ConstId}
use Rattle.rule_core.specs.Terms.{FactOf, StampedOf}
use Rattle.rule_core.specs.Tables.{facts_of, as_terms}
use Rattle.mapping_core.specs.Mapping.{Meaning}
use Rattle.failure_trace.specs.declared.trace.Trace.{Trace}
use Rattle.exchange_engine.specs.Loading.{text_in}

-- a source table: its rows of texts with their spans
abbrev pub SourceTable : Type 0
SourceTable = List (StampedOf (List (List ℕ)))

-- what a run has read: the mapping, the facts of each source table in the order of the relations, and a trace, if it reads one
pub record Inputs : Type 0 where
  pub mapping : Meaning
  pub tables : List SourceTable
  pub trace : Option Trace

-- the texts of a mapping's constants
abbrev pub name_of : Inputs → ConstId → List ℕ
name_of inputs = text_in inputs.mapping.pool

-- the facts of the source
abbrev pub source_of : Inputs → List (StampedOf (FactOf (List ℕ)))
source_of inputs = facts_of (map as_terms inputs.tables)
