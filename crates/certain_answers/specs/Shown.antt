-- How tables are shown as rows of a store. No public clause cites this module.
use Rattle.std.specs.Prelude.{ℕ, ◌+◌, List, [], ◌∷◌, ◌++◌, Option, Some, map, count_by}
use Rattle.std.specs.Ordering.{is_lt}
use Rattle.term_core.specs.declared.term.Unknown.{Unknown as HeldUnknown}
use Rattle.term_core.specs.declared.term.Term.{Term}
use Rattle.term_core.specs.declared.term.Term.TheVariants.{Const, Null}
use Rattle.term_core.specs.declared.term.Seen.{Seen}
use Rattle.term_core.specs.declared.term.Seen.TheVariants as cells
use Rattle.term_core.specs.Order.{unknown_cmp}
use Rattle.rule_core.specs.Terms.{StampedOf}
use Rattle.fact_table.specs.Rows.{SeenRow}
use Rattle.certain_answers.specs.declared.table_rows.TableRow.{TableRow}
use Rattle.certain_answers.specs.declared.table_rows.TableRows.{TableRows}

-- a table: its rows of terms with their spans
abbrev pub TermTable : Type 0
TermTable = List (StampedOf (List Term))

-- the place of an unknown among ascending ones
abbrev pub place_in : List HeldUnknown → HeldUnknown → ℕ
place_in nulls u = count_by (λ w. is_lt (unknown_cmp w u)) nulls

-- a term as a cell: an unknown is the piece with its place
abbrev pub cell_for : List HeldUnknown → Term → Seen
cell_for nulls (Const c) = cells.Const c
cell_for nulls (Null u) = cells.Piece (place_in nulls u)

-- an entry of a table as a row of a relation
abbrev pub row_for : List HeldUnknown → ℕ → StampedOf (List Term) → SeenRow
row_for nulls relation e = record { relation = relation; cells = map (cell_for nulls) e.row; span = e.span }

-- a table as rows of a relation, and tables as rows of the relations from a number on
abbrev pub rows_for : List HeldUnknown → ℕ → TermTable → List SeenRow
rows_for nulls relation table = map (row_for nulls relation) table

abbrev pub rows_from : List HeldUnknown → ℕ → List TermTable → List SeenRow
rows_from nulls relation [] = []
rows_from nulls relation (table ∷ tables) = rows_for nulls relation table ++ rows_from nulls (relation + 1) tables

-- a row as the program holds it
abbrev pub held_row : TableRow → SeenRow
held_row row = record { relation = row.relation; cells = row.cells; span = row.span }

abbrev pub held_rows : List TableRow → List SeenRow
held_rows rows = map held_row rows

-- the rows of a store
abbrev pub as_store : TableRows → List (Option SeenRow)
as_store held = map (λ row. Some (held_row row)) held.rows
