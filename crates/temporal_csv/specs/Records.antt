-- The records of a file of bytes.
use Rattle.std.specs.Prelude.{ℕ, List}
use Rattle.csv.specs.Reading.{AreRecords, default_config, strip_bom}
use Rattle.csv.specs.declared.parser.State.TheVariants as st

-- these are the records that `csv` states for the bytes, where one leading byte order mark is left out
abbrev pub AreRecordsOf : List ℕ → List (List (List ℕ)) → Type 0
AreRecordsOf bytes records = AreRecords default_config st.StartRecord (strip_bom bytes) records
