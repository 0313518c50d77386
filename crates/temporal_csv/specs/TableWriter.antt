-- How a table is written, record by record. No public clause cites this module.
use Rattle.std.specs.Prelude.{◌≡◌, ◌<◌, ◌^◌, false, true, ℕ, List, [], ◌++◌, All, slice_index_or, ⊤}
use Rattle.std.specs.declared.alloc.Global.{Global}
use Rattle.std.specs.declared.vec.Vec.{Vec}
use Rattle.csv.specs.Writing.{default_writer, fields_written, has_written, row_text, with_flexible, writer_pending, writer_setup, writer_under}
use Rattle.csv.specs.declared.writer.Writer.{Writer}
use Rattle.rule_core.specs.Terms.{TermOf, constant, unknown, numbered, named}
use Rattle.temporal_csv.specs.Stored.{HasStorableEnds, StoredRow, bare_row, record_of}

-- the bytes that a writer over a vector has been given so far
abbrev pub written_text : Writer (Vec ℕ Global) → List ℕ
written_text w = (writer_under w).items ++ writer_pending w

-- the writer has the default dialect, and no record is begun
pub record IsBetween (w : Writer (Vec ℕ Global)) : Type 0 where
  pub setup : writer_setup w ≡ with_flexible default_writer true
  pub fields : fields_written w ≡ 0
  pub bare : has_written w ≡ false

-- the number of an unknown fits 64 bits
abbrev pub FitsWord : TermOf (List ℕ) → Type 0
FitsWord (constant text) = ⊤
FitsWord (unknown (numbered n)) = n < 2 ^ 64
FitsWord (unknown (named rule frontier var)) = ⊤

-- the row at a place, or one without cells behind the last
abbrev pub row_in : List StoredRow → ℕ → StoredRow
row_in rows place = slice_index_or rows place (bare_row [])

-- the writer has written the row, whose numbers and ends have texts
pub record HasWritten (row : StoredRow) (before after : Writer (Vec ℕ Global)) : Type 0 where
  pub between : IsBetween after
  pub text : written_text after ≡ written_text before ++ row_text default_writer (record_of row)
  pub fits : All FitsWord row.cells
  pub ends : HasStorableEnds row.span
