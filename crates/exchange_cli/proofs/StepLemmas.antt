-- Where a run stops before its first store.
use Rattle.std.proofs.Common.{◌≡◌, ℕ, ◌-◌, List, [], ◌∷◌, ◌++◌, refl, sym, ◌∙◌, subst, inl, inr, arith, append_assoc, append-nil}
use Rattle.std.specs.Prelude.{Ok, Err}
use Rattle.std.specs.declared.option.Option.{Option}
use Rattle.std.specs.declared.option.Option.TheVariants.{None, Some}
use Rattle.std.proofs.lemmas.List.Elements.{All-nil, All-cons, All-append}
use Rattle.shelf_core.specs.Held.{Held}
use Rattle.shelf_core.specs.Fetching.{Shows}
use Rattle.shelf_core.specs.declared.shelf.Fetched.TheVariants as fetched
use Rattle.shelf_core.specs.declared.shelf.FetchError.TheVariants.{Failed}
use Rattle.shelf_core.proofs.FaultLemmas.{then_rises}
use Rattle.rule_core.specs.declared.rules.Relation.{Relation}
use Rattle.mapping_core.specs.Mapping.{Meaning as MappingValue}
use Rattle.exchange_cli.specs.Words.{Command, origin_of}
use Rattle.exchange_cli.specs.Names.{table_name}
use Rattle.exchange_cli.specs.Inputs.{SourceTable}
use Rattle.exchange_cli.specs.Work.{Fetch, fetch_of, AreTold, ReadsTables, Stops, StopsAtTable, RefusesMapping, RefusesTable, mapping_limit, tables_limit}
use Rattle.exchange_cli.specs.Run.{Device, device}
use Rattle.exchange_cli.specs.Steps.{Keeps, AnswersWith, AnswersMapping, AnswersTable, AnswersTables, AnswersOrigin, FailsToFetch, FailsToRead, IsCounted, StopsInTables, StopsInOrigin}
use Rattle.exchange_cli.specs.declared.ending.Ending.{Ending}
use Rattle.exchange_cli.specs.declared.ending.Ending.TheVariants.{Missing, TooLong, Read, Memory}

-- the answer is what the shelf holds, where it tells
abbrev pub Is : Option Held → Fetch → Type 0
Is told fetch = Shows told fetch.name fetch.limit fetch.answer

-- one fetch that is told
pub one_told : (told : Option Held) (fetch : Fetch) → Shows told fetch.name fetch.limit fetch.answer → AreTold told (fetch ∷ [])
one_told told fetch shows = All-cons (Is told) fetch [] shows (All-nil (Is told))

-- a fetch that failed tells nothing
shows_failure : (told : Option Held) (name : List ℕ) (limit : ℕ) → Shows told name limit (Err Failed)
shows_failure None name limit = tt
shows_failure (Some held) name limit = tt

-- a fetch that fails is where the reading of what it gives fails
pub fetch_stops : (content : Option Held) (faults : ℕ) (after : Device Held) (name : List ℕ) (limit : ℕ)
    (HasFault : List ℕ → Ending → Type 0)
    (ending : Ending)
    → FailsToFetch (device content faults) after name limit ending → FailsToRead (device content faults) after name limit HasFault ending
fetch_stops content faults after name limit HasFault (Missing about) fails =
    inr (
      fetch_of name limit (Ok fetched.Missing),
      fails.1,
      record { named = refl; limited = refl; stops = (fails.0, refl) },
      λ n e. absurd cc,
    )
fetch_stops content faults after name limit HasFault (TooLong about) fails =
    inr (
      fetch_of name limit (Ok fetched.TooLong),
      fails.1,
      record { named = refl; limited = refl; stops = (fails.0, refl) },
      λ n e. absurd cc,
    )
fetch_stops content faults after name limit HasFault (Read about) fails =
    inr (
      fetch_of name limit (Err Failed),
      shows_failure content name limit,
      record { named = refl; limited = refl; stops = (fails.0, refl) },
      λ n e. fails.1,
    )
fetch_stops content faults after name limit HasFault Memory fails = inl refl
fetch_stops content faults after name limit HasFault other fails = absurd fails

-- what was answered has this fault
pub fault_stops : (content : Option Held) (faults : ℕ) (after : Device Held) (name bytes : List ℕ) (limit : ℕ)
    (HasFault : List ℕ → Ending → Type 0) (ending : Ending)
    → AnswersWith content name limit bytes → Stops (fetch_of name limit (Ok (fetched.Bytes bytes))) HasFault ending
    → ((about : List ℕ) → ¬ (ending ≡ Read about)) → FailsToRead (device content faults) after name limit HasFault ending
fault_stops content faults after name bytes limit HasFault ending answers stops other =
    inr (
      fetch_of name limit (Ok (fetched.Bytes bytes)),
      answers,
      record { named = refl; limited = refl; stops = stops },
      λ n e. absurd (other n e),
    )

-- the mapping

-- a mapping that can't be read is where the run stops
pub mapping_stops : (before after : Device Held) (command : Command) (name : List ℕ) (ending : Ending) → name ≡ (origin_of command).mapping
    → FailsToRead before after name mapping_limit RefusesMapping ending → StopsInOrigin before after command ending
mapping_stops before after command name ending named (inl memory) = inl memory
mapping_stops before after command name ending named (inr (fetch, shows, at, counted)) =
    inr (
      fetch ∷ [],
      one_told before.content fetch shows,
      (
        fetch,
        [],
        refl,
        inl (refl, record { named = at.named ∙ named; limited = at.limited; stops = at.stops }),
      ),
      counted,
    )

-- so is a table behind a mapping that is read
pub tables_stop : (before after : Device Held) (command : Command) (name prefix : List ℕ) (mapping : MappingValue) (ending : Ending)
    → name ≡ (origin_of command).mapping → prefix ≡ (origin_of command).source
    → AnswersMapping before.content name mapping_limit mapping
    → StopsInTables before after prefix mapping.rules.sources ending → StopsInOrigin before after command ending
tables_stop before after command name prefix mapping ending named below (bytes, answers, is) (inl memory) = inl memory
tables_stop before after command name prefix mapping ending named below (bytes, answers, is) (inr (fetches, told, stops, counted)) =
    let fetch = fetch_of name mapping_limit (Ok (fetched.Bytes bytes)) in
    inr (
      fetch ∷ fetches,
      All-cons (Is before.content) fetch fetches answers told,
      (
        fetch,
        fetches,
        refl,
        inr (
          mapping,
          (bytes, (λ i. fetch_of (named i) mapping_limit (Ok (fetched.Bytes bytes))), is),
          subst (λ p. StopsAtTable fetches p tables_limit mapping.rules.sources ending) below stops,
        ),
      ),
      counted,
    )

-- the mapping and its tables were read
pub reads_origin : (told : Option Held) (command : Command) (name prefix : List ℕ) (mapping : MappingValue) (tables : List SourceTable)
    → name ≡ (origin_of command).mapping → prefix ≡ (origin_of command).source
    → AnswersMapping told name mapping_limit mapping → AnswersTables told prefix mapping.rules.sources tables
    → AnswersOrigin told command mapping tables
reads_origin told command name prefix mapping tables named below (bytes, answers, is) (fetches, each, reads) =
    let fetch = fetch_of name mapping_limit (Ok (fetched.Bytes bytes)) in (
      fetch ∷ fetches,
      All-cons (Is told) fetch fetches answers each,
      record {
        first = fetch;
        later = fetches;
        all = refl;
        mapping = (bytes, (λ i. fetch_of (named i) mapping_limit (Ok (fetched.Bytes bytes))), is);
        tables = subst (λ p. ReadsTables fetches p tables_limit mapping.rules.sources tables) below reads;
      },
    )

-- the tables

-- from the tables that these fetches gave, the work goes on with the relations that are left
pub record GoesOn (fetches : List Fetch) (prefix : List ℕ) (relations rest : List Relation) (tables : List SourceTable)
    (left : ℕ) : Type 0 where
  pub reads : (later : List Fetch) (others : List SourceTable) → ReadsTables later prefix left rest others
      → ReadsTables (fetches ++ later) prefix tables_limit relations (tables ++ others)
  pub stops : (later : List Fetch) (ending : Ending) → StopsAtTable later prefix left rest ending
      → StopsAtTable (fetches ++ later) prefix tables_limit relations ending

-- the same, for some fetches that are told
abbrev pub GoesOnIn : Option Held → List ℕ → List Relation → List Relation → List SourceTable → ℕ → Type 0
GoesOnIn told prefix relations rest tables left =
    (fetches : List Fetch) × AreTold told fetches × GoesOn fetches prefix relations rest tables left

pub goes_on_first : (told : Option Held) (prefix : List ℕ) (relations : List Relation)
    → GoesOnIn told prefix relations relations [] tables_limit
goes_on_first told prefix relations =
    ([], All-nil (Is told), record { reads = λ later others reads. reads; stops = λ later ending stops. stops })

-- one more table
pub goes_on_more : (told : Option Held) (prefix : List ℕ) (relations rest : List Relation) (relation : Relation)
    (tables : List SourceTable) (left size : ℕ) (facts : SourceTable)
    → GoesOnIn told prefix relations (relation ∷ rest) tables left → AnswersTable told prefix relation left size facts
    → GoesOnIn told prefix relations rest (tables ++ facts ∷ []) (left - size)
goes_on_more told prefix relations rest relation tables left size facts (fetches, each, goes) (bytes, answers, sized, table) =
    let fetch = fetch_of (table_name prefix relation.name) left (Ok (fetched.Bytes bytes)) in (
      fetches ++ fetch ∷ [],
      All-append (Is told) fetches (fetch ∷ []) each (one_told told fetch answers),
      record {
        reads = λ later others reads.
            rw (append_assoc fetches (fetch ∷ []) later, append_assoc tables (facts ∷ []) others)
            (goes.reads (fetch ∷ later) (facts ∷ others)
            (fetch, later, size, facts, others, refl, (bytes, refl, sized, table), refl, reads));
        stops = λ later ending stops.
            rw (append_assoc fetches (fetch ∷ []) later)
            (goes.stops (fetch ∷ later) ending (fetch, later, refl, inr (size, facts, (bytes, refl, sized, table), stops)));
      },
    )

-- all tables were read
pub goes_on_last : (told : Option Held) (prefix : List ℕ) (relations : List Relation) (tables : List SourceTable) (left : ℕ)
    → GoesOnIn told prefix relations [] tables left → AnswersTables told prefix relations tables
goes_on_last told prefix relations tables left (fetches, each, goes) =
    let read : ReadsTables (fetches ++ []) prefix tables_limit relations (tables ++ []) = goes.reads [] [] (refl, refl) in (
      fetches,
      each,
      subst (λ (f : List Fetch). ReadsTables f prefix tables_limit relations tables) (append-nil fetches)
          (subst (λ (all : List SourceTable). ReadsTables (fetches ++ []) prefix tables_limit relations all) (append-nil tables) read),
    )

-- several calls of one shelf

pub keeps_both : (a b c : Device Held) → Keeps a b → Keeps b c → Keeps a c
keeps_both a b c first second = record { same = second.same ∙ first.same; later = omega (arith, first.later, second.later) }

-- a count that rose in a later call rose since the first
pub counted_since : (a b c : Device Held) (ending : Ending) → Keeps a b → Keeps b c → IsCounted b c ending → IsCounted a c ending
counted_since a b c ending first second counted = λ name is.
    then_rises a.faults b.faults c.faults first.later second.later (counted name is)

-- the next table is where the tables stop, since the first call
pub table_stops : (a b c : Device Held) (prefix : List ℕ) (relations rest : List Relation) (relation : Relation) (tables : List SourceTable)
    (left : ℕ) (ending : Ending) → Keeps a b → Keeps b c → GoesOnIn a.content prefix relations (relation ∷ rest) tables left
    → FailsToRead b c (table_name prefix relation.name) left (RefusesTable prefix relation) ending
    → StopsInTables a c prefix relations ending
table_stops a b c prefix relations rest relation tables left ending first second goes (inl memory) = inl memory
table_stops a b c prefix relations rest relation tables left ending first second (fetches, each, goes) (inr (fetch, shows, at, counted)) =
    inr (
      fetches ++ fetch ∷ [],
      All-append (Is a.content) fetches (fetch ∷ []) each (one_told a.content fetch (rw (sym first.same) shows)),
      goes.stops (fetch ∷ []) ending (fetch, [], refl, inl (refl, at)),
      counted_since a b c ending first second counted,
    )

-- tables that stop in a later call stop so since the first
pub stops_since : (a b c : Device Held) (prefix : List ℕ) (relations : List Relation) (ending : Ending) → Keeps a b → Keeps b c
    → StopsInTables b c prefix relations ending → StopsInTables a c prefix relations ending
stops_since a b c prefix relations ending first second (inl memory) = inl memory
stops_since a b c prefix relations ending first second (inr (fetches, told, stops, counted)) =
    inr (fetches, rw (sym first.same) told, stops, counted_since a b c ending first second counted)
