-- What a shelf holds is read in one way, and either all of it is read or something is the first failure.
use Rattle.std.proofs.Common.{◌≡◌, ℕ, ◌-◌, List, [], ◌∷◌, ◌++◌, length, codes, refl, sym, ap, ◌∙◌, subst, inl, inr}
use Rattle.std.specs.Prelude.{Ok}
use Rattle.std.specs.declared.option.Option.{Option}
use Rattle.std.specs.declared.option.Option.TheVariants.{None, Some}
use Rattle.std.specs.FinMap.{get}
use Rattle.std.proofs.lemmas.List.Elements.{All-head, All-tail}
use Rattle.time_line.specs.Numeral.{number_of}
use Rattle.shelf_core.specs.Held.{Held}
use Rattle.shelf_core.specs.Fetching.{Shows, fetched_of}
use Rattle.shelf_core.specs.declared.shelf.Fetched.{Fetched}
use Rattle.shelf_core.specs.declared.shelf.Fetched.TheVariants as fetched
use Rattle.rule_core.specs.declared.rules.Relation.{Relation}
use Rattle.decl_text.specs.declared.fault.MappingFault.{MappingFault}
use Rattle.mapping_core.specs.Mapping.{Meaning as MappingValue}
use Rattle.mapping_core.specs.Reading.{IsMapping, IsFirstFault as IsMappingFault}
use Rattle.temporal_csv.specs.Table.{IsTable, TableFaults}
use Rattle.failure_trace.specs.declared.trace.Trace.{Trace as TraceValue}
use Rattle.failure_trace.specs.declared.fault.TraceFault.{TraceFault}
use Rattle.failure_trace.specs.TraceText.{IsTrace, Fails}
use Rattle.exchange_cli.specs.Words.{Command, Exchange, Normalise, Snapshot, Check, Origin, Spells, origin_of, trace_of}
use Rattle.exchange_cli.specs.Names.{table_name}
use Rattle.exchange_cli.specs.Inputs.{SourceTable, Inputs}
use Rattle.exchange_cli.specs.Work.{Fetch, AreTold, Gives, ReadsMapping, ReadsTable, ReadsTables, ReadsFrom, ReadsTrace, Reads, StopsAt, StopsAtTable, StopsAtTrace, RefusesMapping, RefusesTable, RefusesTrace, FailsInOrigin, FailsFirst, mapping_limit, tables_limit, trace_limit}
use Rattle.exchange_cli.specs.declared.ending.Ending.{Ending}
use Rattle.exchange_cli.specs.declared.ending.Ending.TheVariants.{Missing, TooLong, Mapping, Table, Trace, Read}
use Rattle.exchange_cli.proofs.ListLemmas.{All-earlier, All-later}

-- the words are one command's
pub one_command : (words : List (List ℕ)) (a b : Command) → Spells words a → Spells words b → a ≡ b
one_command words (Exchange a target) (Normalise b out) p q = absurd (let same = sym p ∙ q in cc)
one_command words (Normalise a out) (Exchange b target) p q = absurd (let same = sym p ∙ q in cc)
one_command words (Exchange a target) (Check b trace) p q = absurd (let same = sym p ∙ q in cc)
one_command words (Normalise a out) (Check b trace) p q = absurd (let same = sym p ∙ q in cc)
one_command words (Check a trace) (Exchange b target) p q = absurd (let same = sym p ∙ q in cc)
one_command words (Check a trace) (Normalise b out) p q = absurd (let same = sym p ∙ q in cc)
one_command words (Check a trace) (Check b other) p q =
    let same : codes "check" ∷ a.mapping ∷ a.source ∷ trace ∷ [] ≡ codes "check" ∷ b.mapping ∷ b.source ∷ other ∷ [] = sym p ∙ q in
    let mapping : a.mapping ≡ b.mapping = cc in
    let source : a.source ≡ b.source = cc in
    let last : trace ≡ other = cc in
    λ i. Check (record { mapping = mapping i; source = source i }) (last i)
one_command words (Normalise a target) (Normalise b other) p q =
    let same : codes "normalise" ∷ a.mapping ∷ a.source ∷ target ∷ [] ≡ codes "normalise" ∷ b.mapping ∷ b.source ∷ other ∷ [] =
    sym p ∙ q in
    let mapping : a.mapping ≡ b.mapping = cc in
    let source : a.source ≡ b.source = cc in
    let out : target ≡ other = cc in
    λ i. Normalise (record { mapping = mapping i; source = source i }) (out i)
one_command words (Exchange a target) (Exchange b other) p q =
    let same : codes "exchange" ∷ a.mapping ∷ a.source ∷ target ∷ [] ≡ codes "exchange" ∷ b.mapping ∷ b.source ∷ other ∷ [] =
    sym p ∙ q in
    let mapping : a.mapping ≡ b.mapping = cc in
    let source : a.source ≡ b.source = cc in
    let out : target ≡ other = cc in
    λ i. Exchange (record { mapping = mapping i; source = source i }) (out i)
one_command words (Exchange a target) (Snapshot b t out) p q = absurd (let same = sym p ∙ q.2 in cc)
one_command words (Normalise a target) (Snapshot b t out) p q = absurd (let same = sym p ∙ q.2 in cc)
one_command words (Check a target) (Snapshot b t out) p q = absurd (let same = sym p ∙ q.2 in cc)
one_command words (Snapshot a t out) (Check b target) p q = absurd (let same = sym q ∙ p.2 in cc)
one_command words (Snapshot a t out) (Exchange b target) p q = absurd (let same = sym q ∙ p.2 in cc)
one_command words (Snapshot a t out) (Normalise b target) p q = absurd (let same = sym q ∙ p.2 in cc)
one_command words (Snapshot a t out) (Snapshot b s other) p q =
    let same : codes "snapshot" ∷ a.mapping ∷ a.source ∷ p.0 ∷ out ∷ [] ≡ codes "snapshot" ∷ b.mapping ∷ b.source ∷ q.0 ∷ other ∷ [] =
    sym p.2 ∙ q.2 in
    let mapping : a.mapping ≡ b.mapping = cc in
    let source : a.source ≡ b.source = cc in
    let word : p.0 ≡ q.0 = cc in
    let instant : t ≡ s = sym p.1.is ∙ ap number_of word ∙ q.1.is in
    let prefix : out ≡ other = cc in
    λ i. Snapshot (record { mapping = mapping i; source = source i }) (instant i) (prefix i)

-- what the laws of the readers say

-- a text is one mapping
abbrev pub OneMapping : Type 0
OneMapping = (bytes : List ℕ) (a b : MappingValue) → IsMapping bytes a → IsMapping bytes b → a ≡ b

-- a text that is a mapping has no fault
abbrev pub MappingOrFault : Type 0
MappingOrFault = (bytes : List ℕ) (mapping : MappingValue) (fault : MappingFault) → IsMapping bytes mapping → ¬ (IsMappingFault bytes fault)

-- a table is one list of facts
abbrev pub OneTable : Type 0
OneTable = (columns : List (List ℕ)) (bytes : List ℕ) (a b : SourceTable) → IsTable columns bytes a → IsTable columns bytes b → a ≡ b

-- a table that has facts has no fault
abbrev pub TableOrFault : Type 0
TableOrFault = (columns : List (List ℕ)) (bytes : List ℕ) (facts : SourceTable) → IsTable columns bytes facts → ¬ TableFaults columns bytes

-- a text is one trace
abbrev pub OneTrace : Type 0
OneTrace = (text : List ℕ) (a b : TraceValue) → IsTrace text a → IsTrace text b → a ≡ b

-- a text that is a trace has no fault
abbrev pub TraceOrFault : Type 0
TraceOrFault = (text : List ℕ) (trace : TraceValue) (fault : TraceFault) → IsTrace text trace → ¬ (Fails text fault)

-- the ending is a fault of the shelf
abbrev pub IsReadFault : Ending → Type 0
IsReadFault ending = (name : List ℕ) × (ending ≡ Read name)

-- a fetch

-- a fetch gives one list of bytes
bytes_of : Fetched → List ℕ → List ℕ
bytes_of (fetched.Bytes bytes) other = bytes
bytes_of fetched.Missing other = other
bytes_of fetched.TooLong other = other

pub one_bytes : (found : Fetched) (a b : List ℕ) → fetched.Bytes a ≡ found → fetched.Bytes b ≡ found → a ≡ b
unfolding bytes_of
one_bytes found a b p q = ap (λ f. bytes_of f a) (p ∙ sym q)

module _ (held : Held) where
  -- the first of fetches that are told, and those behind it
  pub first_told : (fetches : List Fetch) (fetch : Fetch) (later : List Fetch) → fetches ≡ fetch ∷ later → AreTold (Some held) fetches
      → Shows (Some held) fetch.name fetch.limit fetch.answer
  first_told fetches fetch later all told =
      All-head (λ (f : Fetch). Shows (Some held) f.name f.limit f.answer) fetch later (subst (λ f. AreTold (Some held) f) all told)

  pub later_told : (fetches : List Fetch) (fetch : Fetch) (later : List Fetch) → fetches ≡ fetch ∷ later → AreTold (Some held) fetches
      → AreTold (Some held) later
  later_told fetches fetch later all told =
      All-tail (λ (f : Fetch). Shows (Some held) f.name f.limit f.answer) fetch later (subst (λ f. AreTold (Some held) f) all told)

  -- the fetches of a first part, and those behind it
  pub earlier_told : (fetches earlier last : List Fetch) → fetches ≡ earlier ++ last → AreTold (Some held) fetches
      → AreTold (Some held) earlier
  earlier_told fetches earlier last all told =
      All-earlier (λ (f : Fetch). Shows (Some held) f.name f.limit f.answer) earlier last
      (subst (λ f. AreTold (Some held) f) all told)

  pub last_told : (fetches earlier last : List Fetch) → fetches ≡ earlier ++ last → AreTold (Some held) fetches → AreTold (Some held) last
  last_told fetches earlier last all told =
      All-later (λ (f : Fetch). Shows (Some held) f.name f.limit f.answer) earlier last
      (subst (λ f. AreTold (Some held) f) all told)

  -- what was answered is what is held
  pub answer_is : (fetch : Fetch) (name : List ℕ) (limit : ℕ) (found : Fetched) → Shows (Some held) fetch.name fetch.limit fetch.answer
      → fetch.name ≡ name → fetch.limit ≡ limit → fetch.answer ≡ Ok found → found ≡ fetched_of (get held name) limit
  answer_is fetch name limit found shows named limited is =
      subst (λ n. found ≡ fetched_of (get held n) limit) named
      (subst (λ l. found ≡ fetched_of (get held fetch.name) l) limited (subst (λ a. Shows (Some held) fetch.name fetch.limit a) is shows))

  pub given_is : (fetch : Fetch) (name : List ℕ) (limit : ℕ) (bytes : List ℕ) → Shows (Some held) fetch.name fetch.limit fetch.answer
      → Gives fetch name limit bytes → fetched.Bytes bytes ≡ fetched_of (get held name) limit
  given_is fetch name limit bytes shows gives = subst (λ (f : Fetch). Shows (Some held) f.name f.limit f.answer) gives shows

  -- where the bytes that are held have no fault, only the shelf itself ends the run at this fetch
  pub only_shelf_stops : (HasFault : List ℕ → Ending → Type 0) (fetch : Fetch) (name : List ℕ) (limit : ℕ) (bytes : List ℕ)
      (ending : Ending)
      → Shows (Some held) fetch.name fetch.limit fetch.answer → fetched.Bytes bytes ≡ fetched_of (get held name) limit
      → ((e : Ending) → ¬ (HasFault bytes e)) → StopsAt fetch name limit HasFault ending → IsReadFault ending
  only_shelf_stops HasFault fetch name limit bytes (Missing about) shows is clean at =
      absurd (let other = answer_is fetch name limit fetched.Missing shows at.named at.limited at.stops.1 in cc)
  only_shelf_stops HasFault fetch name limit bytes (TooLong about) shows is clean at =
      absurd (let other = answer_is fetch name limit fetched.TooLong shows at.named at.limited at.stops.1 in cc)
  only_shelf_stops HasFault fetch name limit bytes (Read about) shows is clean at = (about, refl)
  only_shelf_stops HasFault fetch name limit bytes ending shows is clean at =
      let other = answer_is fetch name limit (fetched.Bytes at.stops.0) shows at.named at.limited at.stops.1 in
      absurd (clean ending (subst (λ b. HasFault b ending)
      (one_bytes (fetched_of (get held name) limit) at.stops.0 bytes other is) at.stops.2))

-- all that is read

-- a text that is a mapping is not refused
pub mapping_is_not_refused : MappingOrFault → (bytes : List ℕ) (mapping : MappingValue)
    → IsMapping bytes mapping → (ending : Ending) → ¬ (RefusesMapping bytes ending)
mapping_is_not_refused sound bytes mapping is (Mapping fault) refused = sound bytes mapping fault is refused
mapping_is_not_refused sound bytes mapping is other refused = refused

-- a table that has facts is not refused
pub table_is_not_refused : TableOrFault → (prefix : List ℕ) (relation : Relation) (bytes : List ℕ) (facts : SourceTable)
    → IsTable relation.columns bytes facts → (ending : Ending) → ¬ (RefusesTable prefix relation bytes ending)
table_is_not_refused clean prefix relation bytes facts table (Table name fault) refused =
    clean relation.columns bytes facts table (fault, refused.1)
table_is_not_refused clean prefix relation bytes facts table other refused = refused

-- a text that is a trace is not refused
trace_is_not_refused : TraceOrFault → (bytes : List ℕ) (trace : TraceValue) → IsTrace bytes trace → (ending : Ending)
    → ¬ (RefusesTrace bytes ending)
trace_is_not_refused apart bytes trace is (Trace fault) refused = apart bytes trace fault is refused
trace_is_not_refused apart bytes trace is other refused = refused

module _ (held : Held) where
  pub one_mapping_read : OneMapping → (f g : Fetch) (origin : Origin) (a b : MappingValue)
      → Shows (Some held) f.name f.limit f.answer → Shows (Some held) g.name g.limit g.answer
      → ReadsMapping f origin a → ReadsMapping g origin b → a ≡ b
  one_mapping_read one f g origin a b first second p q =
      let same = one_bytes (fetched_of (get held origin.mapping) mapping_limit) q.0 p.0
      (given_is held g origin.mapping mapping_limit q.0 second q.1) (given_is held f origin.mapping mapping_limit p.0 first p.1) in
      one p.0 a b p.2 (subst (λ bytes. IsMapping bytes b) same q.2)

  -- two tables that were read of one name with one limit have the same bytes
  pub same_bytes : (f g : Fetch) (prefix : List ℕ) (relation : Relation) (limit size other : ℕ) (facts others : SourceTable)
      → Shows (Some held) f.name f.limit f.answer → Shows (Some held) g.name g.limit g.answer
      → (p : ReadsTable f prefix relation limit size facts) → (q : ReadsTable g prefix relation limit other others) → q.0 ≡ p.0
  same_bytes f g prefix relation limit size other facts others first second p q =
      let name = table_name prefix relation.name in
      one_bytes (fetched_of (get held name) limit) q.0 p.0 (given_is held g name limit q.0 second q.1)
      (given_is held f name limit p.0 first p.1)

  pub same_size : (f g : Fetch) (prefix : List ℕ) (relation : Relation) (limit size other : ℕ) (facts others : SourceTable)
      → Shows (Some held) f.name f.limit f.answer → Shows (Some held) g.name g.limit g.answer
      → ReadsTable f prefix relation limit size facts → ReadsTable g prefix relation limit other others → other ≡ size
  same_size f g prefix relation limit size other facts others first second p q =
      q.2 ∙ ap length (same_bytes f g prefix relation limit size other facts others first second p q) ∙ sym p.2

  one_reading_of_tables : OneTable → (prefix : List ℕ) (left : ℕ) (relations : List Relation) (f g : List Fetch) (a b : List SourceTable)
      → AreTold (Some held) f → AreTold (Some held) g
      → ReadsTables f prefix left relations a → ReadsTables g prefix left relations b → a ≡ b
  one_reading_of_tables one prefix left [] f g a b first second p q = p.1 ∙ sym q.1
  one_reading_of_tables one prefix left (r ∷ rs) f g a b first second p q =
      let here = first_told held f p.0 p.1 p.5 first in
      let there = first_told held g q.0 q.1 q.5 second in
      let bytes = same_bytes p.0 q.0 prefix r left p.2 q.2 p.3 q.3 here there p.6 q.6 in
      let size = same_size p.0 q.0 prefix r left p.2 q.2 p.3 q.3 here there p.6 q.6 in
      let facts = one r.columns p.6.0 p.3 q.3 p.6.3 (subst (λ b. IsTable r.columns b q.3) bytes q.6.3) in
      let others = one_reading_of_tables one prefix (left - p.2) rs p.1 q.1 p.4 q.4 (later_told held f p.0 p.1 p.5 first)
      (later_told held g q.0 q.1 q.5 second) p.8 (subst (λ n. ReadsTables q.1 prefix (left - n) rs q.4) size q.8) in
      p.7 ∙ (λ i. facts i ∷ others i) ∙ sym q.7

  -- a mapping and its tables are read in one way
  one_reading_of_origin : OneMapping → OneTable → (origin : Origin) (f g : List Fetch) (a b : MappingValue) (x y : List SourceTable)
      → AreTold (Some held) f → AreTold (Some held) g → ReadsFrom origin f a x → ReadsFrom origin g b y → (a ≡ b) × (x ≡ y)
  one_reading_of_origin one_mapping one_table origin f g a b x y first second p q =
      let mapping = one_mapping_read one_mapping p.first q.first origin a b
      (first_told held f p.first p.later p.all first) (first_told held g q.first q.later q.all second) p.mapping q.mapping in (
        mapping,
        one_reading_of_tables one_table origin.source tables_limit a.rules.sources p.later q.later x y
            (later_told held f p.first p.later p.all first) (later_told held g q.first q.later q.all second) p.tables
            (subst (λ (m : MappingValue). ReadsTables q.later origin.source tables_limit m.rules.sources y) (sym mapping) q.tables),
      )

  -- so is a trace
  one_reading_of_trace : OneTrace → (named : Option (List ℕ)) (f g : List Fetch) (a b : Option TraceValue)
      → AreTold (Some held) f → AreTold (Some held) g → ReadsTrace named f a → ReadsTrace named g b → a ≡ b
  one_reading_of_trace one None f g a b first second p q = p.1 ∙ sym q.1
  one_reading_of_trace one (Some name) f g a b first second p q =
      let bytes = one_bytes (fetched_of (get held name) trace_limit) q.1 p.1
      (given_is held q.0 name trace_limit q.1 (first_told held g q.0 [] q.3 second) q.4)
      (given_is held p.0 name trace_limit p.1 (first_told held f p.0 [] p.3 first) p.4) in
      let same = one p.1 p.2 q.2 p.5 (subst (λ (text : List ℕ). IsTrace text q.2) bytes q.5) in
      p.6 ∙ (λ i. Some (same i)) ∙ sym q.6

  -- all that a command reads is one
  pub one_reading : OneMapping → OneTable → OneTrace → (command : Command) (f g : List Fetch) (a b : Inputs)
      → AreTold (Some held) f → AreTold (Some held) g → Reads command f a → Reads command g b → a ≡ b
  one_reading one_mapping one_table one_trace command f g a b first second p q =
      let origin = one_reading_of_origin one_mapping one_table (origin_of command) p.earlier q.earlier a.mapping b.mapping a.tables b.tables
      (earlier_told held f p.earlier p.last p.all first) (earlier_told held g q.earlier q.last q.all second) p.read q.read in
      let trace = one_reading_of_trace one_trace (trace_of command) p.last q.last a.trace b.trace
      (last_told held f p.earlier p.last p.all first) (last_told held g q.earlier q.last q.all second) p.trace q.trace in
      λ i. record { mapping = origin.0 i; tables = origin.1 i; trace = trace i }

  -- where all tables are read, only the shelf itself ends the run at one
  only_shelf_stops_tables : TableOrFault → (prefix : List ℕ) (left : ℕ) (relations : List Relation) (f g : List Fetch)
      (tables : List SourceTable) (ending : Ending) → AreTold (Some held) f → AreTold (Some held) g
      → ReadsTables f prefix left relations tables → StopsAtTable g prefix left relations ending → IsReadFault ending
  only_shelf_stops_tables clean prefix left [] f g tables ending first second p q = absurd q
  only_shelf_stops_tables clean prefix left (r ∷ rs) f g tables ending first second p (fetch, later, all, inl here) =
      only_shelf_stops held (RefusesTable prefix r) fetch (table_name prefix r.name) left p.6.0 ending
      (first_told held g fetch later all second)
      (given_is held p.0 (table_name prefix r.name) left p.6.0 (first_told held f p.0 p.1 p.5 first) p.6.1)
      (table_is_not_refused clean prefix r p.6.0 p.3 p.6.3) here.1
  only_shelf_stops_tables clean prefix left (r ∷ rs) f g tables ending first second p (fetch, later, all, inr (size, facts, read, more)) =
      let same = same_size p.0 fetch prefix r left p.2 size p.3 facts (first_told held f p.0 p.1 p.5 first)
      (first_told held g fetch later all second) p.6 read in
      only_shelf_stops_tables clean prefix (left - p.2) rs p.1 later p.4 ending (later_told held f p.0 p.1 p.5 first)
      (later_told held g fetch later all second) p.8 (subst (λ n. StopsAtTable later prefix (left - n) rs ending) same more)

  -- where the mapping and the tables are read, only the shelf itself fails there
  pub only_shelf_fails_in_origin : OneMapping → MappingOrFault → TableOrFault → (command : Command) (f g : List Fetch)
      (meaning : MappingValue) (tables : List SourceTable) (ending : Ending)
      → AreTold (Some held) f → AreTold (Some held) g → ReadsFrom (origin_of command) f meaning tables
      → FailsInOrigin command g ending → IsReadFault ending
  only_shelf_fails_in_origin one sound clean command f g meaning tables ending first second p (fetch, later, all, inl here) =
      let origin = origin_of command in
      let bytes = p.mapping.0 in
      only_shelf_stops held RefusesMapping fetch origin.mapping mapping_limit bytes ending
      (first_told held g fetch later all second)
      (given_is held p.first origin.mapping mapping_limit bytes (first_told held f p.first p.later p.all first) p.mapping.1)
      (mapping_is_not_refused sound bytes meaning p.mapping.2) here.1
  only_shelf_fails_in_origin one sound clean command f g meaning tables ending first second p
      (fetch, later, all, inr (mapping, read, stops)) =
      let origin = origin_of command in
      let same = one_mapping_read one fetch p.first origin mapping meaning (first_told held g fetch later all second)
      (first_told held f p.first p.later p.all first) read p.mapping in
      only_shelf_stops_tables clean origin.source tables_limit meaning.rules.sources p.later later tables ending
      (later_told held f p.first p.later p.all first) (later_told held g fetch later all second) p.tables
      (subst (λ (m : MappingValue). StopsAtTable later origin.source tables_limit m.rules.sources ending) same stops)

  -- where the trace is read, only the shelf itself ends the run there
  only_shelf_stops_trace : TraceOrFault → (named : Option (List ℕ)) (f : List Fetch) (fetch : Fetch) (trace : Option TraceValue)
      (ending : Ending)
      → AreTold (Some held) f → Shows (Some held) fetch.name fetch.limit fetch.answer
      → ReadsTrace named f trace → StopsAtTrace named fetch ending → IsReadFault ending
  only_shelf_stops_trace apart None f fetch trace ending told shows p stops = absurd stops
  only_shelf_stops_trace apart (Some name) f fetch trace ending told shows p stops =
      only_shelf_stops held RefusesTrace fetch name trace_limit p.1 ending shows
      (given_is held p.0 name trace_limit p.1 (first_told held f p.0 [] p.3 told) p.4)
      (trace_is_not_refused apart p.1 p.2 p.5) stops

  -- where all is read, only the shelf itself fails
  pub only_shelf_fails : OneMapping → MappingOrFault → TableOrFault → TraceOrFault → (command : Command) (f g : List Fetch)
      (inputs : Inputs) (ending : Ending)
      → AreTold (Some held) f → AreTold (Some held) g → Reads command f inputs → FailsFirst command g ending → IsReadFault ending
  only_shelf_fails one sound clean apart command f g inputs ending first second p (inl fails) =
      only_shelf_fails_in_origin one sound clean command p.earlier g inputs.mapping inputs.tables ending
      (earlier_told held f p.earlier p.last p.all first) second p.read fails
  only_shelf_fails one sound clean apart command f g inputs ending first second p
      (inr (earlier, fetch, mapping, tables, all, read, stops)) =
      only_shelf_stops_trace apart (trace_of command) p.last fetch inputs.trace ending (last_told held f p.earlier p.last p.all first)
      (first_told held (fetch ∷ []) fetch [] refl (last_told held g earlier (fetch ∷ []) all second)) p.trace stops
