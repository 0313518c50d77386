-- What the bytes of a source table mean: its facts in the order of its records, or its first fault.
use Rattle.std.specs.Prelude.{◌≡◌, ◌≢◌, ◌⊎◌, ℕ, ℤ, ◌+◌, ◌<◌, ◌≤◌, List, [], ◌∷◌, ◌++◌, length, Option, Result, Ok, Err, All, IsUtf8, ⊤}
use Rattle.std.specs.List.{AllZip}
use Rattle.time_line.specs.Span.{Ends, IsWithinLimit, AreOrdered}
use Rattle.time_line.specs.Numeral.{IsEnd}
use Rattle.time_line.specs.declared.text.Side.{Side}
use Rattle.time_line.specs.declared.text.Side.TheVariants.{Start, End}
use Rattle.rule_core.specs.Terms.{StampedOf}
use Rattle.temporal_csv.specs.Records.{AreRecordsOf}
use Rattle.temporal_csv.specs.Stored.{header_of}
use Rattle.temporal_csv.specs.declared.fault.TableCode.{TableCode}
use Rattle.temporal_csv.specs.declared.fault.TableCode.TheVariants.{C1, C2, C3, C4, C5, C6, C7}
use Rattle.temporal_csv.specs.declared.fault.TableFault.{TableFault}
use Rattle.temporal_csv.specs.declared.fault.TableError.{TableError}
use Rattle.temporal_csv.specs.declared.fault.TableError.TheVariants.{Fault, Memory}

-- how many data records a table may have
abbrev pub most_records : ℕ
most_records = 1000000

-- the fields of a data record: the cells of a row, and then the texts of its start and its stop
pub record Parts : Type 0 where
  pub cells : List (List ℕ)
  pub start : List ℕ
  pub stop : List ℕ

-- the record has these parts, with a row so wide
pub record HasParts (width : ℕ) (fields : List (List ℕ)) (parts : Parts) : Type 0 where
  pub whole : fields ≡ parts.cells ++ parts.start ∷ parts.stop ∷ []
  pub wide : length parts.cells ≡ width

-- the text is this end, within the limit
abbrev pub IsEndText : Side → List ℕ → Option ℤ → Type 0
IsEndText side text end = IsEnd side text end × IsWithinLimit end

-- the text is no end within the limit
abbrev pub IsNoEndText : Side → List ℕ → Type 0
IsNoEndText side text = (end : Option ℤ) → ¬ IsEndText side text end

-- the span has these texts of its ends, and its start stands before its stop
pub record HasEndTexts (start stop : List ℕ) (span : Ends) : Type 0 where
  pub lo : IsEndText Start start span.lo
  pub hi : IsEndText End stop span.hi
  pub ordered : AreOrdered span.lo span.hi

-- the first fault of the texts of a span's ends
abbrev pub HasSpanFault : List ℕ → List ℕ → TableCode → Type 0
HasSpanFault start stop C1 = ⊥
HasSpanFault start stop C2 = ⊥
HasSpanFault start stop C3 = ⊥
HasSpanFault start stop C4 = IsNoEndText Start start
HasSpanFault start stop C5 = (lo : Option ℤ) × IsEndText Start start lo × IsNoEndText End stop
HasSpanFault start stop C6 =
    (lo hi : Option ℤ) × IsEndText Start start lo × IsEndText End stop hi × ¬ AreOrdered lo hi
HasSpanFault start stop C7 = ⊥

-- the data record is this fact
pub record IsFact (width : ℕ) (fields : List (List ℕ)) (fact : StampedOf (List (List ℕ))) : Type 0 where
  pub parts : Parts
  pub has : HasParts width fields parts
  pub text : All IsUtf8 fields
  pub row : fact.row ≡ parts.cells
  pub ends : HasEndTexts parts.start parts.stop fact.span

-- the data records are these facts, in their order
abbrev pub AreFacts : List (List ℕ) → List (List (List ℕ)) → List (StampedOf (List (List ℕ))) → Type 0
AreFacts columns records facts = AllZip (IsFact (length columns)) records facts

-- a data record that is wide enough and text has this fault in its ends
pub record HasEndFault (width : ℕ) (fields : List (List ℕ)) (code : TableCode) : Type 0 where
  pub parts : Parts
  pub has : HasParts width fields parts
  pub text : All IsUtf8 fields
  pub span : HasSpanFault parts.start parts.stop code

-- the first fault of a data record: its width, its text, its ends
abbrev pub HasFault : ℕ → List (List ℕ) → TableCode → Type 0
HasFault width fields C1 = (length fields ≡ width + 2) × ¬ All IsUtf8 fields
HasFault width fields C2 = ⊥
HasFault width fields C3 = length fields ≢ width + 2
HasFault width fields C4 = HasEndFault width fields C4
HasFault width fields C5 = HasEndFault width fields C5
HasFault width fields C6 = HasEndFault width fields C6
HasFault width fields C7 = ⊥

-- the fault of a data record that follows so many facts: their number is looked at before its fields
abbrev pub StopsAt : ℕ → ℕ → List (List ℕ) → TableCode → Type 0
StopsAt width count fields code =
    ((count ≡ most_records) × (code ≡ C7)) ⊎ ((count < most_records) × HasFault width fields code)

-- the bytes are the header and then, in order, a record for each of these facts
pub record IsTable (columns : List (List ℕ)) (bytes : List ℕ) (facts : List (StampedOf (List (List ℕ)))) : Type 0 where
  pub text : IsUtf8 bytes
  pub records : List (List (List ℕ))
  pub read : AreRecordsOf bytes (header_of columns ∷ records)
  pub each : AreFacts columns records facts
  pub few : length facts ≤ most_records

-- the file as a whole is not UTF-8
pub record IsFaultOfText (bytes : List ℕ) (fault : TableFault) : Type 0 where
  pub text : ¬ IsUtf8 bytes
  pub is : fault ≡ record { code = C1; at = 0 }

-- there is no record, or the first is not the header
abbrev pub LacksHeader : List (List ℕ) → List (List (List ℕ)) → Type 0
LacksHeader columns [] = ⊤
LacksHeader columns (first ∷ rest) = first ≢ header_of columns

-- the header is at fault
pub record IsFaultOfHeader (columns : List (List ℕ)) (bytes : List ℕ) (fault : TableFault) : Type 0 where
  pub text : IsUtf8 bytes
  pub records : List (List (List ℕ))
  pub read : AreRecordsOf bytes records
  pub lacks : LacksHeader columns records
  pub is : fault ≡ record { code = C2; at = 1 }

-- a data record is at fault, and each one before it is a fact
pub record IsFaultOfRecord (columns : List (List ℕ)) (bytes : List ℕ) (fault : TableFault) : Type 0 where
  pub text : IsUtf8 bytes
  pub before : List (List (List ℕ))
  pub fields : List (List ℕ)
  pub after : List (List (List ℕ))
  pub read : AreRecordsOf bytes (header_of columns ∷ (before ++ fields ∷ after))
  pub facts : List (StampedOf (List (List ℕ)))
  pub each : AreFacts columns before facts
  pub stops : StopsAt (length columns) (length before) fields fault.code
  pub at : fault.at ≡ length before + 2

-- the first fault of a table: records are counted from 1, and the header is the first
abbrev pub IsFirstFault : List (List ℕ) → List ℕ → TableFault → Type 0
IsFirstFault columns bytes fault =
    IsFaultOfText bytes fault ⊎ IsFaultOfHeader columns bytes fault ⊎ IsFaultOfRecord columns bytes fault

-- the table has some fault
abbrev pub TableFaults : List (List ℕ) → List ℕ → Type 0
TableFaults columns bytes = (fault : TableFault) × IsFirstFault columns bytes fault

-- what holds of the fault that was answered, if one was
abbrev pub IfFault : {T : Type 0} → Result T TableError → (TableFault → Type 0) → Type 0
IfFault (Ok value) P = ⊤
IfFault (Err (Fault fault)) P = P fault
IfFault (Err Memory) P = ⊤
