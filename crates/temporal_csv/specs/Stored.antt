-- Stored tables: the text of a cell, the bytes of a file, and what stored bytes mean. A file is written by csv's
-- default writer, and is read by its default reader with header handling off.
use Rattle.std.specs.Prelude.{◌≡◌, ◌⊎◌, ◌==◌, ◌≤◌, ◌<◌, ◌^◌, if◌then◌else◌, ℕ, List, [], ◌∷◌, ◌++◌, length, codes, map, All, IsSome, IsSomeAnd, slice_get, Option, Some, None, ⊤}
use Rattle.std.specs.List.{AllZip, flat_map}
use Rattle.std.specs.Fmt.{decimal}
use Rattle.csv.specs.Writing.{default_writer, row_text}
use Rattle.time_line.specs.Span.{Ends, IsWithinLimit}
pub use Rattle.time_line.specs.Numeral.{mark}
use Rattle.time_line.specs.Numeral.{IsEnd, IsMark, end_text}
use Rattle.time_line.specs.declared.text.Side.TheVariants.{Start, End}
use Rattle.rule_core.specs.Names.{IsLetter}
use Rattle.rule_core.specs.Terms.{TermOf, constant, unknown, numbered, named, StampedOf}
use Rattle.temporal_csv.specs.Records.{AreRecordsOf}

-- a row of a stored table: the terms of its cells, and the span over which it holds, where the table has spans
pub record StoredRow : Type 0 where
  pub cells : List (TermOf (List ℕ))
  pub span : Option Ends

-- the row that holds over a span
abbrev pub stamped_row : StampedOf (List (TermOf (List ℕ))) → StoredRow
stamped_row r = record { cells = r.row; span = Some r.span }

-- the row of a table without spans
abbrev pub bare_row : List (TermOf (List ℕ)) → StoredRow
bare_row terms = record { cells = terms; span = None }

-- the header of a table with spans
abbrev pub header_of : List (List ℕ) → List (List ℕ)
header_of columns = columns ++ codes "start" ∷ codes "end" ∷ []

-- a constant as it is stored: with one more `?` in front where it begins with `?`
abbrev pub stored_constant : List ℕ → List ℕ
stored_constant [] = []
stored_constant (b ∷ bs) = if b == mark then mark ∷ b ∷ bs else b ∷ bs

-- the text of a cell; that of an unknown without a number is empty
abbrev pub cell_text : TermOf (List ℕ) → List ℕ
cell_text (constant text) = stored_constant text
cell_text (unknown (numbered n)) = mark ∷ decimal n
cell_text (unknown (named rule frontier var)) = []

-- the texts of the ends of a span, where there is one
abbrev pub end_texts : Option Ends → List (List ℕ)
end_texts None = []
end_texts (Some span) = end_text Start span.lo ∷ end_text End span.hi ∷ []

-- the record of a row: its cells, and where it has a span, its start and its end
abbrev pub record_of : StoredRow → List (List ℕ)
record_of r = map cell_text r.cells ++ end_texts r.span

-- the bytes of a stored table: the header and then the rows
abbrev pub table_text : List (List ℕ) → List StoredRow → List ℕ
table_text header rows = flat_map (row_text default_writer) (header ∷ map record_of rows)

-- the text begins with `??`
abbrev pub IsDoubled : List ℕ → Type 0
IsDoubled text = (rest : List ℕ) × (text ≡ mark ∷ mark ∷ rest)

-- what a cell stands for: one that begins with `??` for the constant without the first `?`, a `?n` for the unknown n,
-- and any other for the constant as it stands
abbrev pub IsCell : List ℕ → TermOf (List ℕ) → Type 0
IsCell text (constant c) =
    (IsDoubled text × (text ≡ mark ∷ c)) ⊎ (¬ IsDoubled text × ((n : ℕ) → ¬ IsMark text n) × (text ≡ c))
IsCell text (unknown (numbered n)) = IsMark text n
IsCell text (unknown (named rule frontier var)) = ⊥

-- the texts are the start and the end of a span, or there is neither
abbrev pub AreEnds : List (List ℕ) → Option Ends → Type 0
AreEnds texts None = texts ≡ []
AreEnds texts (Some span) =
    (start stop : List ℕ) × (texts ≡ start ∷ stop ∷ []) × IsEnd Start start span.lo × IsEnd End stop span.hi

-- the fields of a record are the cells of a row, and where it has a span, its start and its end
pub record IsRow (fields : List (List ℕ)) (r : StoredRow) : Type 0 where
  pub texts : List (List ℕ)
  pub ends : List (List ℕ)
  pub parts : fields ≡ texts ++ ends
  pub cells : AllZip IsCell texts r.cells
  pub span : AreEnds ends r.span

-- the first record is the header, and each further one is the row at its place
pub record HasRecords (bytes : List ℕ) (header : List (List ℕ)) (rows : List StoredRow) : Type 0 where
  pub records : List (List (List ℕ))
  pub read : AreRecordsOf bytes (header ∷ records)
  pub each : AllZip IsRow records rows

-- the row has a span
abbrev pub HasSpan : StoredRow → Type 0
HasSpan r = IsSome r.span

-- the row has no span
abbrev pub LacksSpan : StoredRow → Type 0
LacksSpan r = r.span ≡ None

-- what the bytes of a table with spans mean: the header is that of some columns, and each row has its span
pub record IsStored (bytes : List ℕ) (header : List (List ℕ)) (rows : List StoredRow) : Type 0 where
  pub whole : HasRecords bytes header rows
  pub columns : List (List ℕ)
  pub header_is : header ≡ header_of columns
  pub spans : All HasSpan rows

-- what the bytes of a table without spans mean: each field of a row is a cell, whatever the columns are called
pub record IsStoredBare (bytes : List ℕ) (header : List (List ℕ)) (rows : List StoredRow) : Type 0 where
  pub whole : HasRecords bytes header rows
  pub spans : All LacksSpan rows

-- the text begins with a letter
abbrev pub BeginsWithLetter : List ℕ → Type 0
BeginsWithLetter text = IsSomeAnd (slice_get text 0) IsLetter

-- the record of the row has as many fields as the header
abbrev pub IsAsWideAs : List (List ℕ) → StoredRow → Type 0
IsAsWideAs header r = length (record_of r) ≡ length header

-- a constant, or an unknown with a number from 1
abbrev pub IsNumberedFromOne : TermOf (List ℕ) → Type 0
IsNumberedFromOne (constant text) = ⊤
IsNumberedFromOne (unknown (numbered n)) = 1 ≤ n
IsNumberedFromOne (unknown (named rule frontier var)) = ⊥

-- each unknown of the row has a number from 1
abbrev pub AreNumbered : StoredRow → Type 0
AreNumbered r = All IsNumberedFromOne r.cells

-- a term that has a text of its own: a constant, or an unknown with a number from 1 that fits 64 bits
abbrev pub IsStorable : TermOf (List ℕ) → Type 0
IsStorable (constant text) = ⊤
IsStorable (unknown (numbered n)) = (1 ≤ n) × (n < 2 ^ 64)
IsStorable (unknown (named rule frontier var)) = ⊥

-- the ends of the span are within the limit, where there is a span
abbrev pub HasStorableEnds : Option Ends → Type 0
HasStorableEnds None = ⊤
HasStorableEnds (Some span) = IsWithinLimit span.lo × IsWithinLimit span.hi

-- a row whose terms and ends have texts
pub record IsStorableRow (r : StoredRow) : Type 0 where
  pub terms : All IsStorable r.cells
  pub ends : HasStorableEnds r.span
