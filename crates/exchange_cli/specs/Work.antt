-- The order of work up to the first store: what is fetched and read in turn, and the first failure.
use Rattle.std.specs.Prelude.{◌≡◌, ◌⊎◌, ℕ, ◌-◌, ◌^◌, List, [], ◌∷◌, ◌++◌, length, All}
use Rattle.std.specs.declared.option.Option.{Option}
use Rattle.std.specs.declared.option.Option.TheVariants.{None, Some}
use Rattle.std.specs.declared.result.Result.{Result}
use Rattle.std.specs.declared.result.Result.TheVariants.{Ok, Err}
use Rattle.shelf_core.specs.Held.{Held}
use Rattle.shelf_core.specs.Fetching.{Shows}
use Rattle.shelf_core.specs.declared.shelf.Fetched.{Fetched}
use Rattle.shelf_core.specs.declared.shelf.Fetched.TheVariants as fetched
use Rattle.shelf_core.specs.declared.shelf.FetchError.{FetchError}
use Rattle.shelf_core.specs.declared.shelf.FetchError.TheVariants.{Failed}
use Rattle.rule_core.specs.declared.rules.Relation.{Relation}
use Rattle.mapping_core.specs.Mapping.{Meaning as MappingValue}
use Rattle.mapping_core.specs.Reading.{IsMapping, IsFirstFault as IsMappingFault}
use Rattle.temporal_csv.specs.Table.{IsTable, IsFirstFault as IsTableFault}
use Rattle.failure_trace.specs.declared.trace.Trace.{Trace as TraceValue}
use Rattle.failure_trace.specs.TraceText.{IsTrace, Fails}
use Rattle.exchange_cli.specs.Words.{Command, Origin, origin_of, trace_of}
use Rattle.exchange_cli.specs.Names.{table_name}
use Rattle.exchange_cli.specs.Inputs.{SourceTable, Inputs}
use Rattle.exchange_cli.specs.declared.ending.Ending.{Ending}
use Rattle.exchange_cli.specs.declared.ending.Ending.TheVariants.{Missing, TooLong, Mapping, Table, Trace, Read}

-- how many bytes a mapping may have, how many all source tables together, and how many a trace
abbrev pub mapping_limit : ℕ
mapping_limit = 1048576

abbrev pub tables_limit : ℕ
tables_limit = 67108864

abbrev pub trace_limit : ℕ
trace_limit = 2 ^ 64 - 1

-- the fetches of a run

-- a fetch that was made: its name, its limit, and what was answered
pub record Fetch : Type 0 where
  pub name : List ℕ
  pub limit : ℕ
  pub answer : Result Fetched FetchError

abbrev pub fetch_of : List ℕ → ℕ → Result Fetched FetchError → Fetch
fetch_of name limit answer = record { name = name; limit = limit; answer = answer }

-- where the shelf tells what it holds, each answer is what it holds under that name
abbrev pub AreTold : Option Held → List Fetch → Type 0
AreTold told fetches = All (λ fetch. Shows told fetch.name fetch.limit fetch.answer) fetches

-- the fetch of this name with this limit gave these bytes
abbrev pub Gives : Fetch → List ℕ → ℕ → List ℕ → Type 0
Gives fetch name limit bytes = fetch ≡ fetch_of name limit (Ok (fetched.Bytes bytes))

-- all is read

-- the mapping was fetched, and is without a fault
abbrev pub ReadsMapping : Fetch → Origin → MappingValue → Type 0
ReadsMapping fetch origin mapping = (bytes : List ℕ) × Gives fetch origin.mapping mapping_limit bytes × IsMapping bytes mapping

-- the table of the relation was fetched, has so many bytes, is without a fault, and has these facts
abbrev pub ReadsTable : Fetch → List ℕ → Relation → ℕ → ℕ → SourceTable → Type 0
ReadsTable fetch prefix relation limit size facts =
    (bytes : List ℕ) × Gives fetch (table_name prefix relation.name) limit bytes × (size ≡ length bytes)
    × IsTable relation.columns bytes facts

-- the tables of these relations were fetched in turn, each with what was left of the limit, and have these facts
abbrev pub ReadsTables : List Fetch → List ℕ → ℕ → List Relation → List SourceTable → Type 0
ReadsTables fetches prefix left [] tables = (fetches ≡ []) × (tables ≡ [])
ReadsTables fetches prefix left (r ∷ rs) tables =
    (fetch : Fetch) × (later : List Fetch) × (size : ℕ) × (facts : SourceTable) × (others : List SourceTable)
    × (fetches ≡ fetch ∷ later) × ReadsTable fetch prefix r left size facts
    × (tables ≡ facts ∷ others) × ReadsTables later prefix (left - size) rs others

-- all that is read from there was fetched, and is without a fault: the mapping first, and then the tables of its source
pub record ReadsFrom (origin : Origin) (fetches : List Fetch) (meaning : MappingValue) (facts : List SourceTable) : Type 0 where
  pub first : Fetch
  pub later : List Fetch
  pub all : fetches ≡ first ∷ later
  pub mapping : ReadsMapping first origin meaning
  pub tables : ReadsTables later origin.source tables_limit meaning.rules.sources facts

-- the trace was fetched, and is without a fault; where none is named, none was
abbrev pub ReadsTrace : Option (List ℕ) → List Fetch → Option TraceValue → Type 0
ReadsTrace None fetches trace = (fetches ≡ []) × (trace ≡ None)
ReadsTrace (Some name) fetches trace =
    (fetch : Fetch) × (bytes : List ℕ) × (value : TraceValue) × (fetches ≡ fetch ∷ []) × Gives fetch name trace_limit bytes
    × IsTrace bytes value × (trace ≡ Some value)

-- all that the command reads was fetched and is without a fault: the mapping, the tables, and then the trace that it names, if it
-- names one
pub record Reads (command : Command) (fetches : List Fetch) (inputs : Inputs) : Type 0 where
  pub earlier : List Fetch
  pub last : List Fetch
  pub all : fetches ≡ earlier ++ last
  pub read : ReadsFrom (origin_of command) earlier inputs.mapping inputs.tables
  pub trace : ReadsTrace (trace_of command) last inputs.trace

-- the first failure

-- the fetch ended the run so: there was no such file, it was too long, the shelf failed, or the bytes have this fault
abbrev pub Stops : Fetch → (List ℕ → Ending → Type 0) → Ending → Type 0
Stops fetch HasFault (Missing name) = (name ≡ fetch.name) × (fetch.answer ≡ Ok fetched.Missing)
Stops fetch HasFault (TooLong name) = (name ≡ fetch.name) × (fetch.answer ≡ Ok fetched.TooLong)
Stops fetch HasFault (Read name) = (name ≡ fetch.name) × (fetch.answer ≡ Err Failed)
Stops fetch HasFault other = (bytes : List ℕ) × (fetch.answer ≡ Ok (fetched.Bytes bytes)) × HasFault bytes other

-- the bytes of a mapping are refused so: they have this fault
abbrev pub RefusesMapping : List ℕ → Ending → Type 0
RefusesMapping bytes (Mapping fault) = IsMappingFault bytes fault
RefusesMapping bytes other = ⊥

-- the bytes of a table are refused so
abbrev pub RefusesTable : List ℕ → Relation → List ℕ → Ending → Type 0
RefusesTable prefix relation bytes (Table name fault) =
    (name ≡ table_name prefix relation.name) × IsTableFault relation.columns bytes fault
RefusesTable prefix relation bytes other = ⊥

-- the bytes of a trace are refused so
abbrev pub RefusesTrace : List ℕ → Ending → Type 0
RefusesTrace bytes (Trace fault) = Fails bytes fault
RefusesTrace bytes other = ⊥

-- the fetch is that of this name with this limit, and ended the run so
pub record StopsAt (fetch : Fetch) (name : List ℕ) (limit : ℕ) (HasFault : List ℕ → Ending → Type 0) (ending : Ending) : Type 0 where
  pub named : fetch.name ≡ name
  pub limited : fetch.limit ≡ limit
  pub stops : Stops fetch HasFault ending

-- the last of the fetches ended the run so, and the tables before it were read
abbrev pub StopsAtTable : List Fetch → List ℕ → ℕ → List Relation → Ending → Type 0
StopsAtTable fetches prefix left [] ending = ⊥
StopsAtTable fetches prefix left (r ∷ rs) ending =
    (fetch : Fetch) × (later : List Fetch) × (fetches ≡ fetch ∷ later)
    × (((later ≡ []) × StopsAt fetch (table_name prefix r.name) left (RefusesTable prefix r) ending)
    ⊎ ((size : ℕ) × (facts : SourceTable) × ReadsTable fetch prefix r left size facts
    × StopsAtTable later prefix (left - size) rs ending))

-- the fetch of the trace ended the run so, where one is named
abbrev pub StopsAtTrace : Option (List ℕ) → Fetch → Ending → Type 0
StopsAtTrace None fetch ending = ⊥
StopsAtTrace (Some name) fetch ending = StopsAt fetch name trace_limit RefusesTrace ending

-- the last of the fetches is that of the mapping or of a table and ended the run so, and all that stands before it in the order of
-- work went well
abbrev pub FailsInOrigin : Command → List Fetch → Ending → Type 0
FailsInOrigin command fetches ending =
    (fetch : Fetch) × (later : List Fetch) × (fetches ≡ fetch ∷ later)
    × (((later ≡ []) × StopsAt fetch (origin_of command).mapping mapping_limit RefusesMapping ending)
    ⊎ ((mapping : MappingValue) × ReadsMapping fetch (origin_of command) mapping
    × StopsAtTable later (origin_of command).source tables_limit mapping.rules.sources ending))

-- the last of the fetches ended the run so, and all that stands before it in the order of work went well: the trace comes behind the
-- mapping and the tables
abbrev pub FailsFirst : Command → List Fetch → Ending → Type 0
FailsFirst command fetches ending =
    FailsInOrigin command fetches ending
    ⊎ ((earlier : List Fetch) × (fetch : Fetch) × (mapping : MappingValue) × (tables : List SourceTable)
    × (fetches ≡ earlier ++ fetch ∷ []) × ReadsFrom (origin_of command) earlier mapping tables
    × StopsAtTrace (trace_of command) fetch ending)
