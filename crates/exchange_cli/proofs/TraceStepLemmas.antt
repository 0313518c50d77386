-- The trace is read behind the mapping and the tables, or the run stops there.
use Rattle.std.proofs.Common.{ℕ, List, [], ◌∷◌, ◌++◌, refl, sym, subst, inl, inr}
use Rattle.std.specs.Prelude.{IsSome, Ok}
use Rattle.std.specs.declared.option.Option.{Option}
use Rattle.std.specs.declared.option.Option.TheVariants.{None, Some}
use Rattle.std.proofs.lemmas.List.Elements.{All-nil, All-append}
use Rattle.shelf_core.specs.Held.{Held}
use Rattle.shelf_core.specs.declared.shelf.Fetched.TheVariants as fetched
use Rattle.mapping_core.specs.Mapping.{Meaning as MappingValue}
use Rattle.failure_trace.specs.declared.trace.Trace.{Trace as TraceValue}
use Rattle.exchange_cli.specs.Words.{Command, Exchange, Normalise, Snapshot, Check, trace_of}
use Rattle.exchange_cli.specs.Inputs.{SourceTable, Inputs}
use Rattle.exchange_cli.specs.Work.{fetch_of, trace_limit}
use Rattle.exchange_cli.specs.Run.{Device}
use Rattle.exchange_cli.specs.Steps.{Keeps, AnswersOrigin, AnswersTraceOf, AnswersTrace, AnswersAll, StopsInOrigin, StopsInTrace, StopsEarly, HasItsTrace}
use Rattle.exchange_cli.specs.declared.ending.Ending.{Ending}
use Rattle.exchange_cli.proofs.StepLemmas.{Is, one_told, counted_since}

-- a mapping or a table that stops the run is the first failure
pub origin_stops : (before after : Device Held) (command : Command) (ending : Ending) → StopsInOrigin before after command ending
    → StopsEarly before after command ending
origin_stops before after command ending (inl memory) = inl memory
origin_stops before after command ending (inr (fetches, told, fails, counted)) = inr (fetches, told, inl fails, counted)

-- no trace is named
pub no_trace : (told : Option Held) → AnswersTrace told None None
no_trace told = ([], All-nil (Is told), (refl, refl))

-- the trace that is named is answered
pub answers_trace : (told : Option Held) (name : List ℕ) (trace : TraceValue) → AnswersTraceOf told name trace
    → AnswersTrace told (Some name) (Some trace)
answers_trace told name trace (bytes, answers, is) =
    let fetch = fetch_of name trace_limit (Ok (fetched.Bytes bytes)) in
    (fetch ∷ [], one_told told fetch answers, (fetch, bytes, trace, refl, refl, is, refl))

-- a trace behind what was read is where the run stops
pub trace_stops : (a b c : Device Held) (command : Command) (mapping : MappingValue) (tables : List SourceTable) (ending : Ending)
    → Keeps a b → Keeps b c → AnswersOrigin a.content command mapping tables → StopsInTrace b c (trace_of command) ending
    → StopsEarly a c command ending
trace_stops a b c command mapping tables ending first second read (inl memory) = inl memory
trace_stops a b c command mapping tables ending first second (fetches, told, read) (inr (fetch, shows, stops, counted)) =
    inr (
      fetches ++ fetch ∷ [],
      All-append (Is a.content) fetches (fetch ∷ []) told (one_told a.content fetch (rw (sym first.same) shows)),
      inr (fetches, fetch, mapping, tables, refl, read, stops),
      counted_since a b c ending first second counted,
    )

-- all that the command needs was read
pub reads_all : (told : Option Held) (command : Command) (inputs : Inputs) → AnswersOrigin told command inputs.mapping inputs.tables
    → AnswersTrace told (trace_of command) inputs.trace → AnswersAll told command inputs
reads_all told command inputs (fetches, each, read) (last, also, trace) = (
  fetches ++ last,
  All-append (Is told) fetches last each also,
  record { earlier = fetches; last = last; all = refl; read = read; trace = trace },
)

-- a command that checks a trace has read one
pub has_its_trace : (told : Option Held) (command : Command) (trace : Option TraceValue) → AnswersTrace told (trace_of command) trace
    → HasItsTrace command trace
has_its_trace told (Exchange origin target) trace answers = tt
has_its_trace told (Normalise origin out) trace answers = tt
has_its_trace told (Snapshot origin t out) trace answers = tt
has_its_trace told (Check origin name) trace (fetches, each, read) = subst (λ (t : Option TraceValue). IsSome t) (sym read.6) refl
