-- What the steps of a run do. No public clause cites this module.
use Rattle.std.specs.Prelude.{◌≡◌, ◌⊎◌, ℕ, ◌≤◌, List, ◌<◌, Option, Ok, IsSome, ⊤, length, take, slice_index_or}
use Rattle.std.specs.Option.{option_map}
use Rattle.shelf_core.specs.Held.{Held, OthersStay}
use Rattle.shelf_core.specs.Faults.{Rises}
use Rattle.shelf_core.specs.Fetching.{Shows}
use Rattle.shelf_core.specs.declared.shelf.Fetched.TheVariants as fetched
use Rattle.rule_core.specs.declared.rules.Relation.{Relation}
use Rattle.mapping_core.specs.Mapping.{Meaning as MappingValue}
use Rattle.mapping_core.specs.Reading.{IsMapping}
use Rattle.temporal_csv.specs.Table.{IsTable}
use Rattle.failure_trace.specs.declared.trace.Trace.{Trace as TraceValue}
use Rattle.failure_trace.specs.TraceText.{IsTrace}
use Rattle.exchange_cli.specs.Words.{Command, Check, origin_of}
use Rattle.exchange_cli.specs.Names.{table_name}
use Rattle.exchange_cli.specs.Inputs.{SourceTable, Inputs}
use Rattle.exchange_cli.specs.Work.{Fetch, AreTold, Reads, FailsFirst, ReadsFrom, ReadsTables, ReadsTrace, StopsAt, StopsAtTable, StopsAtTrace, FailsInOrigin, tables_limit, trace_limit}
use Rattle.exchange_cli.specs.Run.{Device, with_files}
use Rattle.exchange_cli.specs.declared.inputs.Inputs.{Inputs as InHand}
use Rattle.exchange_cli.specs.declared.file.FileOut.{FileOut}
use Rattle.exchange_cli.specs.declared.ending.Ending.{Ending}
use Rattle.exchange_cli.specs.declared.ending.Ending.TheVariants.{Missing, TooLong, Read, Memory}

-- nothing was stored, and the count of faults is no lower
pub record Keeps (before after : Device Held) : Type 0 where
  pub same : after.content ≡ before.content
  pub later : before.faults ≤ after.faults

-- a fetch of this name with this limit is answered with bytes
abbrev pub AnswersWith : Option Held → List ℕ → ℕ → List ℕ → Type 0
AnswersWith told name limit bytes = Shows told name limit (Ok (fetched.Bytes bytes))

-- a fetch of this name ends so: what the shelf answers shows why, or its count of faults rose
abbrev pub FailsToFetch : Device Held → Device Held → List ℕ → ℕ → Ending → Type 0
FailsToFetch before after name limit (Missing about) = (about ≡ name) × Shows before.content name limit (Ok fetched.Missing)
FailsToFetch before after name limit (TooLong about) = (about ≡ name) × Shows before.content name limit (Ok fetched.TooLong)
FailsToFetch before after name limit (Read about) = (about ≡ name) × Rises before.faults after.faults
FailsToFetch before after name limit Memory = ⊤
FailsToFetch before after name limit other = ⊥

-- where the run ends so for a failed fetch, the count of faults rose
abbrev pub IsCounted : Device Held → Device Held → Ending → Type 0
IsCounted before after ending = (name : List ℕ) → ending ≡ Read name → Rises before.faults after.faults

-- a fetch of this name, or the reading of what it gave, ends so
abbrev pub FailsToRead : Device Held → Device Held → List ℕ → ℕ → (List ℕ → Ending → Type 0) → Ending → Type 0
FailsToRead before after name limit HasFault ending =
    (ending ≡ Memory)
    ⊎ ((fetch : Fetch) × Shows before.content fetch.name fetch.limit fetch.answer × StopsAt fetch name limit HasFault ending
    × IsCounted before after ending)

-- the mapping of this name is answered, without a fault
abbrev pub AnswersMapping : Option Held → List ℕ → ℕ → MappingValue → Type 0
AnswersMapping told name limit mapping = (bytes : List ℕ) × AnswersWith told name limit bytes × IsMapping bytes mapping

-- the relation's table is answered, has so many bytes and no fault, and has these facts
abbrev pub AnswersTable : Option Held → List ℕ → Relation → ℕ → ℕ → SourceTable → Type 0
AnswersTable told prefix relation limit size facts = (bytes : List ℕ) × AnswersWith told (table_name prefix relation.name) limit bytes
    × (size ≡ length bytes) × IsTable relation.columns bytes facts

-- the tables are answered, without a fault
abbrev pub AnswersTables : Option Held → List ℕ → List Relation → List SourceTable → Type 0
AnswersTables told prefix relations tables =
    (fetches : List Fetch) × AreTold told fetches × ReadsTables fetches prefix tables_limit relations tables

-- the mapping and the tables are answered, without a fault
abbrev pub AnswersOrigin : Option Held → Command → MappingValue → List SourceTable → Type 0
AnswersOrigin told command mapping tables =
    (fetches : List Fetch) × AreTold told fetches × ReadsFrom (origin_of command) fetches mapping tables

-- the trace of this name is answered, without a fault
abbrev pub AnswersTraceOf : Option Held → List ℕ → TraceValue → Type 0
AnswersTraceOf told name trace = (bytes : List ℕ) × AnswersWith told name trace_limit bytes × IsTrace bytes trace

-- the trace is answered, without a fault, where one is named
abbrev pub AnswersTrace : Option Held → Option (List ℕ) → Option TraceValue → Type 0
AnswersTrace told named trace = (fetches : List Fetch) × AreTold told fetches × ReadsTrace named fetches trace

-- all that the command reads is answered
abbrev pub AnswersAll : Option Held → Command → Inputs → Type 0
AnswersAll told command inputs = (fetches : List Fetch) × AreTold told fetches × Reads command fetches inputs

-- the tables end the run so
abbrev pub StopsInTables : Device Held → Device Held → List ℕ → List Relation → Ending → Type 0
StopsInTables before after prefix relations ending =
    (ending ≡ Memory)
    ⊎ ((fetches : List Fetch) × AreTold before.content fetches × StopsAtTable fetches prefix tables_limit relations ending
    × IsCounted before after ending)

-- the mapping or the tables end the run so
abbrev pub StopsInOrigin : Device Held → Device Held → Command → Ending → Type 0
StopsInOrigin before after command ending =
    (ending ≡ Memory)
    ⊎ ((fetches : List Fetch) × AreTold before.content fetches × FailsInOrigin command fetches ending × IsCounted before after ending)

-- the trace ends the run so
abbrev pub StopsInTrace : Device Held → Device Held → Option (List ℕ) → Ending → Type 0
StopsInTrace before after named ending =
    (ending ≡ Memory)
    ⊎ ((fetch : Fetch) × Shows before.content fetch.name fetch.limit fetch.answer × StopsAtTrace named fetch ending
    × IsCounted before after ending)

-- the run stops so before the first store
abbrev pub StopsEarly : Device Held → Device Held → Command → Ending → Type 0
StopsEarly before after command ending =
    (ending ≡ Memory)
    ⊎ ((fetches : List Fetch) × AreTold before.content fetches × FailsFirst command fetches ending × IsCounted before after ending)

-- the files before this place are stored; the store of the one at this place failed
abbrev pub StopsAtFile : Device Held → Device Held → List FileOut → ℕ → Type 0
StopsAtFile before after files at =
    (at < length files) × (file : FileOut) × (file ≡ slice_index_or files at file)
    × OthersStay (option_map (λ held. with_files held (take at files)) before.content) after.content file.name
    × Rises before.faults after.faults

-- what the program has read, as the definitions see it
abbrev pub read_of : InHand → Inputs
read_of inputs = record { mapping = inputs.mapping; tables = inputs.tables; trace = inputs.trace }

-- a command that checks a trace has one
abbrev pub HasItsTrace : Command → Option TraceValue → Type 0
HasItsTrace (Check origin name) trace = IsSome trace
HasItsTrace other trace = ⊤
