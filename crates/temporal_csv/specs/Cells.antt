-- What a cell of a row is.
use Rattle.std.specs.Prelude.{ℕ, List}
use Rattle.rule_core.specs.Terms.{TermOf, constant, unknown, numbered}
use Rattle.temporal_csv.specs.declared.cell.Cell.{Cell}
use Rattle.temporal_csv.specs.declared.cell.Cell.TheVariants.{Const, Null}

-- the term of a cell: a constant with its text, or an unknown with its number
abbrev pub term_of : Cell → TermOf (List ℕ)
term_of (Const text) = constant text.now
term_of (Null number) = unknown (numbered number)
