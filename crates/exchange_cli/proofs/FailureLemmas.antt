-- Something is the first failure in one way only, faults of the shelf apart.
use Rattle.std.proofs.Common.{◌≡◌, ℕ, ◌-◌, List, [], ◌∷◌, ◌++◌, refl, sym, ap, ◌∙◌, subst, inl, inr}
use Rattle.std.specs.declared.option.Option.{Option}
use Rattle.std.specs.declared.option.Option.TheVariants.{None, Some}
use Rattle.std.specs.FinMap.{get}
use Rattle.shelf_core.specs.Held.{Held}
use Rattle.shelf_core.specs.Fetching.{Shows, fetched_of}
use Rattle.shelf_core.specs.declared.shelf.Fetched.TheVariants as fetched
use Rattle.rule_core.specs.declared.rules.Relation.{Relation}
use Rattle.decl_text.specs.declared.fault.MappingFault.{MappingFault}
use Rattle.mapping_core.specs.Mapping.{Meaning as MappingValue}
use Rattle.mapping_core.specs.Reading.{IsFirstFault as IsMappingFault}
use Rattle.temporal_csv.specs.Table.{IsFirstFault as IsTableFault}
use Rattle.temporal_csv.specs.declared.fault.TableFault.{TableFault}
use Rattle.failure_trace.specs.declared.fault.TraceFault.{TraceFault}
use Rattle.failure_trace.specs.TraceText.{Fails}
use Rattle.exchange_cli.specs.Words.{Command, origin_of, trace_of}
use Rattle.exchange_cli.specs.Names.{table_name}
use Rattle.exchange_cli.specs.Work.{Fetch, AreTold, StopsAt, StopsAtTable, StopsAtTrace, RefusesMapping, RefusesTable, RefusesTrace, FailsInOrigin, FailsFirst, mapping_limit, tables_limit, trace_limit}
use Rattle.exchange_cli.specs.declared.ending.Ending.{Ending}
use Rattle.exchange_cli.specs.declared.ending.Ending.TheVariants.{Missing, TooLong, Mapping, Table, Trace, Read}
use Rattle.exchange_cli.proofs.ReadLemmas.{OneMapping, MappingOrFault, TableOrFault, IsReadFault, one_bytes, first_told, later_told, earlier_told, last_told, answer_is, given_is, only_shelf_stops, only_shelf_fails_in_origin, mapping_is_not_refused, table_is_not_refused, one_mapping_read, same_size}

-- a text has one first fault
abbrev pub OneMappingFault : Type 0
OneMappingFault = (bytes : List ℕ) (a b : MappingFault) → IsMappingFault bytes a → IsMappingFault bytes b → a ≡ b

-- a table has one first fault
abbrev pub OneTableFault : Type 0
OneTableFault = (columns : List (List ℕ)) (bytes : List ℕ) (a b : TableFault)
    → IsTableFault columns bytes a → IsTableFault columns bytes b → a ≡ b

-- a trace's text has one first fault
abbrev pub OneTraceFault : Type 0
OneTraceFault = (text : List ℕ) (a b : TraceFault) → Fails text a → Fails text b → a ≡ b

-- bytes are refused in one way
abbrev pub IsOneRefusal : (List ℕ → Ending → Type 0) → Type 0
IsOneRefusal HasFault = (bytes : List ℕ) (a b : Ending) → HasFault bytes a → HasFault bytes b → a ≡ b

one_fault_of_mapping : OneMappingFault → IsOneRefusal RefusesMapping
one_fault_of_mapping one bytes (Mapping a) (Mapping b) p q = ap Mapping (one bytes a b p q)
one_fault_of_mapping one bytes (Mapping a) other p q = absurd q
one_fault_of_mapping one bytes other b p q = absurd p

one_fault_of_table : OneTableFault → (prefix : List ℕ) (relation : Relation) → IsOneRefusal (RefusesTable prefix relation)
one_fault_of_table one prefix relation bytes (Table a first) (Table b second) p q =
    let names : a ≡ b = p.0 ∙ sym q.0 in
    let faults : first ≡ second = one relation.columns bytes first second p.1 q.1 in
    λ i. Table (names i) (faults i)
one_fault_of_table one prefix relation bytes (Table a first) other p q = absurd q
one_fault_of_table one prefix relation bytes other b p q = absurd p

one_fault_of_trace : OneTraceFault → IsOneRefusal RefusesTrace
one_fault_of_trace one bytes (Trace a) (Trace b) p q = let same : a ≡ b = one bytes a b p q in λ i. Trace (same i)
one_fault_of_trace one bytes (Trace a) other p q = absurd q
one_fault_of_trace one bytes other b p q = absurd p

-- at one fetch

module _ (held : Held) (HasFault : List ℕ → Ending → Type 0) (one : IsOneRefusal HasFault) (f g : Fetch) (name : List ℕ) (limit : ℕ)
    (first : Shows (Some held) f.name f.limit f.answer) (second : Shows (Some held) g.name g.limit g.answer) where
  missing_one : (about : List ℕ) (b : Ending) → StopsAt f name limit HasFault (Missing about) → StopsAt g name limit HasFault b
      → ¬ IsReadFault b → Missing about ≡ b
  missing_one about (Missing other) p q sure = ap Missing (p.stops.0 ∙ p.named ∙ sym q.named ∙ sym q.stops.0)
  missing_one about (TooLong other) p q sure =
      let here = answer_is held f name limit fetched.Missing first p.named p.limited p.stops.1 in
      let there = answer_is held g name limit fetched.TooLong second q.named q.limited q.stops.1 in
      let same = here ∙ sym there in
      absurd cc
  missing_one about (Read other) p q sure = absurd (sure (other, refl))
  missing_one about b p q sure =
      let here = answer_is held f name limit fetched.Missing first p.named p.limited p.stops.1 in
      let there = answer_is held g name limit (fetched.Bytes q.stops.0) second q.named q.limited q.stops.1 in
      let same = here ∙ sym there in
      absurd cc

  too_long_one : (about : List ℕ) (b : Ending) → StopsAt f name limit HasFault (TooLong about) → StopsAt g name limit HasFault b
      → ¬ IsReadFault b → TooLong about ≡ b
  too_long_one about (Missing other) p q sure =
      let here = answer_is held f name limit fetched.TooLong first p.named p.limited p.stops.1 in
      let there = answer_is held g name limit fetched.Missing second q.named q.limited q.stops.1 in
      let same = here ∙ sym there in
      absurd cc
  too_long_one about (TooLong other) p q sure = ap TooLong (p.stops.0 ∙ p.named ∙ sym q.named ∙ sym q.stops.0)
  too_long_one about (Read other) p q sure = absurd (sure (other, refl))
  too_long_one about b p q sure =
      let here = answer_is held f name limit fetched.TooLong first p.named p.limited p.stops.1 in
      let there = answer_is held g name limit (fetched.Bytes q.stops.0) second q.named q.limited q.stops.1 in
      let same = here ∙ sym there in
      absurd cc

  -- bytes that have a fault
  faulty_one : (bytes : List ℕ) (a b : Ending) → fetched.Bytes bytes ≡ fetched_of (get held name) limit → HasFault bytes a
      → StopsAt g name limit HasFault b → ¬ IsReadFault b → a ≡ b
  faulty_one bytes a (Missing other) is faulty q sure =
      absurd (let there = answer_is held g name limit fetched.Missing second q.named q.limited q.stops.1 in let same = is ∙ sym there in cc)
  faulty_one bytes a (TooLong other) is faulty q sure =
      absurd (let there = answer_is held g name limit fetched.TooLong second q.named q.limited q.stops.1 in let same = is ∙ sym there in cc)
  faulty_one bytes a (Read other) is faulty q sure = absurd (sure (other, refl))
  faulty_one bytes a b is faulty q sure =
      let there = answer_is held g name limit (fetched.Bytes q.stops.0) second q.named q.limited q.stops.1 in
      one bytes a b faulty
      (subst (λ x. HasFault x b) (one_bytes (fetched_of (get held name) limit) q.stops.0 bytes there is) q.stops.2)

  pub one_stop : (a b : Ending) → StopsAt f name limit HasFault a → StopsAt g name limit HasFault b
      → ¬ IsReadFault a → ¬ IsReadFault b → a ≡ b
  one_stop (Missing about) b p q sure certain = missing_one about b p q certain
  one_stop (TooLong about) b p q sure certain = too_long_one about b p q certain
  one_stop (Read about) b p q sure certain = absurd (sure (about, refl))
  one_stop a b p q sure certain =
      faulty_one p.stops.0 a b (answer_is held f name limit (fetched.Bytes p.stops.0) first p.named p.limited p.stops.1) p.stops.2 q certain

-- among the tables, and in all

module _ (one_mapping : OneMapping) (one_fault : OneMappingFault) (sound : MappingOrFault) (one_table_fault : OneTableFault)
    (clean : TableOrFault) (one_trace_fault : OneTraceFault) (held : Held) where
  one_table_stop : (prefix : List ℕ) (left : ℕ) (relations : List Relation) (f g : List Fetch) (a b : Ending)
      → AreTold (Some held) f → AreTold (Some held) g
      → StopsAtTable f prefix left relations a → StopsAtTable g prefix left relations b → ¬ IsReadFault a → ¬ IsReadFault b → a ≡ b
  one_table_stop prefix left [] f g a b first second p q sure certain = absurd p
  one_table_stop prefix left (r ∷ rs) f g a b first second (x, xs, all, inl here) (y, ys, every, inl there) sure certain =
      one_stop held (RefusesTable prefix r) (one_fault_of_table one_table_fault prefix r) x y (table_name prefix r.name) left
      (first_told held f x xs all first) (first_told held g y ys every second) a b here.1 there.1 sure certain
  one_table_stop prefix left (r ∷ rs) f g a b first second (x, xs, all, inl here)
      (y, ys, every, inr (size, facts, read, more)) sure certain =
      absurd (sure (only_shelf_stops held (RefusesTable prefix r) x (table_name prefix r.name) left read.0 a
      (first_told held f x xs all first)
      (given_is held y (table_name prefix r.name) left read.0 (first_told held g y ys every second) read.1)
      (table_is_not_refused clean prefix r read.0 facts read.3) here.1))
  one_table_stop prefix left (r ∷ rs) f g a b first second (x, xs, all, inr (size, facts, read, more))
      (y, ys, every, inl there) sure certain =
      absurd (certain (only_shelf_stops held (RefusesTable prefix r) y (table_name prefix r.name) left read.0 b
      (first_told held g y ys every second)
      (given_is held x (table_name prefix r.name) left read.0 (first_told held f x xs all first) read.1)
      (table_is_not_refused clean prefix r read.0 facts read.3) there.1))
  one_table_stop prefix left (r ∷ rs) f g a b first second (x, xs, all, inr (size, facts, read, more))
      (y, ys, every, inr (other, others, same, rest)) sure certain =
      let sizes = same_size held x y prefix r left size other facts others (first_told held f x xs all first)
      (first_told held g y ys every second) read same in
      one_table_stop prefix (left - size) rs xs ys a b (later_told held f x xs all first) (later_told held g y ys every second) more
      (subst (λ n. StopsAtTable ys prefix (left - n) rs b) sizes rest) sure certain

  -- at the mapping and the tables
  one_refusal_in_origin : (command : Command) (f g : List Fetch) (a b : Ending) → AreTold (Some held) f → AreTold (Some held) g
      → FailsInOrigin command f a → FailsInOrigin command g b → ¬ IsReadFault a → ¬ IsReadFault b → a ≡ b
  one_refusal_in_origin command f g a b first second (x, xs, all, inl here) (y, ys, every, inl there) sure certain =
      one_stop held RefusesMapping (one_fault_of_mapping one_fault) x y (origin_of command).mapping
      mapping_limit (first_told held f x xs all first) (first_told held g y ys every second) a b here.1 there.1 sure certain
  one_refusal_in_origin command f g a b first second (x, xs, all, inl here) (y, ys, every, inr (mapping, read, stops)) sure certain =
      absurd (sure (only_shelf_stops held RefusesMapping x (origin_of command).mapping mapping_limit read.0 a
      (first_told held f x xs all first)
      (given_is held y (origin_of command).mapping mapping_limit read.0 (first_told held g y ys every second) read.1)
      (mapping_is_not_refused sound read.0 mapping read.2) here.1))
  one_refusal_in_origin command f g a b first second (x, xs, all, inr (mapping, read, stops)) (y, ys, every, inl there) sure certain =
      absurd (certain (only_shelf_stops held RefusesMapping y (origin_of command).mapping mapping_limit read.0 b
      (first_told held g y ys every second)
      (given_is held x (origin_of command).mapping mapping_limit read.0 (first_told held f x xs all first) read.1)
      (mapping_is_not_refused sound read.0 mapping read.2) there.1))
  one_refusal_in_origin command f g a b first second (x, xs, all, inr (mapping, read, stops))
      (y, ys, every, inr (other, same, rest)) sure certain =
      let mappings = one_mapping_read held one_mapping y x (origin_of command) other mapping (first_told held g y ys every second)
      (first_told held f x xs all first) same read in
      one_table_stop (origin_of command).source tables_limit mapping.rules.sources xs ys a b (later_told held f x xs all first)
      (later_told held g y ys every second) stops
      (subst (λ (m : MappingValue). StopsAtTable ys (origin_of command).source tables_limit m.rules.sources b) mappings rest) sure certain

  -- at the trace
  one_trace_stop : (named : Option (List ℕ)) (x y : Fetch) (a b : Ending) → Shows (Some held) x.name x.limit x.answer
      → Shows (Some held) y.name y.limit y.answer
      → StopsAtTrace named x a → StopsAtTrace named y b → ¬ IsReadFault a → ¬ IsReadFault b → a ≡ b
  one_trace_stop None x y a b first second p q sure certain = absurd p
  one_trace_stop (Some name) x y a b first second p q sure certain =
      one_stop held RefusesTrace (one_fault_of_trace one_trace_fault) x y name trace_limit first second a b p q sure certain

  -- the last of fetches that are told
  end_told : (fetches earlier : List Fetch) (fetch : Fetch) → fetches ≡ earlier ++ fetch ∷ [] → AreTold (Some held) fetches
      → Shows (Some held) fetch.name fetch.limit fetch.answer
  end_told fetches earlier fetch all told =
      first_told held (fetch ∷ []) fetch [] refl (last_told held fetches earlier (fetch ∷ []) all told)

  -- two first failures that are no faults of the shelf are one
  pub one_first_refusal : (command : Command) (f g : List Fetch) (a b : Ending) → AreTold (Some held) f → AreTold (Some held) g
      → FailsFirst command f a → FailsFirst command g b → ¬ IsReadFault a → ¬ IsReadFault b → a ≡ b
  one_first_refusal command f g a b first second (inl p) (inl q) sure certain =
      one_refusal_in_origin command f g a b first second p q sure certain
  one_first_refusal command f g a b first second (inl p) (inr (earlier, fetch, mapping, tables, all, read, stops)) sure certain =
      absurd (sure (only_shelf_fails_in_origin held one_mapping sound clean command earlier f mapping tables a
      (earlier_told held g earlier (fetch ∷ []) all second) first read p))
  one_first_refusal command f g a b first second (inr (earlier, fetch, mapping, tables, all, read, stops)) (inl q) sure certain =
      absurd (certain (only_shelf_fails_in_origin held one_mapping sound clean command earlier g mapping tables b
      (earlier_told held f earlier (fetch ∷ []) all first) second read q))
  one_first_refusal command f g a b first second (inr (earlier, fetch, mapping, tables, all, read, stops))
      (inr (before, last, meaning, facts, whole, reads, ends)) sure certain =
      one_trace_stop (trace_of command) fetch last a b (end_told f earlier fetch all first) (end_told g before last whole second) stops ends
      sure certain
