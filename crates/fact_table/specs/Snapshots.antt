-- Rows and facts of a table as stamped facts over terms, and what a table holds at an instant.
use Rattle.std.specs.Prelude.{ℕ, ℤ, List, Option, map}
use Rattle.std.specs.List.{filter_map}
use Rattle.std.specs.Option.{option_map}
use Rattle.term_core.specs.declared.const_id.ConstId.{ConstId}
use Rattle.term_core.specs.declared.term.Seen.{Seen}
use Rattle.term_core.specs.declared.term.Seen.TheVariants.{Const, Piece}
use Rattle.rule_core.specs.Terms.{TermOf, constant, unknown, numbered, FactOf, StampedOf}
use Rattle.rule_core.specs.Snapshot.{snapshot_at}
use Rattle.fact_table.specs.declared.fact.Fact.{Fact}
use Rattle.fact_table.specs.Rows.{SeenRow, rows_of}

-- the term that a cell shows: a piece is the unknown with its number
abbrev pub seen_term : Seen → TermOf ConstId
seen_term (Const c) = constant c
seen_term (Piece p) = unknown (numbered p)

-- a row as a fact over its span
abbrev pub fact_of : SeenRow → StampedOf (FactOf ConstId)
fact_of row = record { row = record { relation = row.relation; terms = map seen_term row.cells }; span = row.span }

-- the rows of a store as facts
abbrev pub facts_of : List (Option SeenRow) → List (StampedOf (FactOf ConstId))
facts_of rows = filter_map (option_map fact_of) rows

-- the fact of a relation whose terms are these constants
abbrev pub constants_fact : ℕ → List ConstId → FactOf ConstId
constants_fact relation row = record { relation = relation; terms = map constant row }

-- a fact of a table, with its constants as terms
abbrev pub with_terms : Fact → StampedOf (FactOf ConstId)
with_terms fact = record { row = constants_fact fact.relation fact.row; span = fact.span }

-- the facts of a table, stamped with their spans
abbrev pub stamped_facts : List Fact → List (StampedOf (FactOf ConstId))
stamped_facts table = facts_of (rows_of table)

-- the facts that a table holds at an instant
abbrev pub snapshot_of : List Fact → ℤ → List (FactOf ConstId)
snapshot_of table t = snapshot_at (stamped_facts table) t
