-- How the steps of a run make its ending.
use Rattle.std.proofs.Common.{ℕ, ◌-◌, ◌≤◌, List, [], ◌∷◌, refl, inl, inr}
use Rattle.std.specs.Prelude.{⊤}
use Rattle.std.specs.declared.option.Option.{Option}
use Rattle.std.specs.declared.option.Option.TheVariants.{None, Some}
use Rattle.shelf_core.specs.Held.{Held}
use Rattle.shelf_core.proofs.FaultLemmas.{then_rises}
use Rattle.rule_core.specs.declared.rules.Relation.{Relation}
use Rattle.exchange_cli.specs.Words.{Command, Spells, origin_of, trace_of}
use Rattle.exchange_cli.specs.Work.{Fetch, Stops, StopsAtTable, StopsAtTrace, RefusesMapping, RefusesTable, FailsFirst, tables_limit}
use Rattle.exchange_cli.specs.Run.{Device, moment, Delivers, IsMadeFor, Causes}
use Rattle.exchange_cli.specs.Steps.{Keeps, StopsEarly}
use Rattle.exchange_cli.specs.declared.product.Product.{Product}
use Rattle.exchange_cli.specs.declared.ending.Ending.{Ending}
use Rattle.exchange_cli.specs.declared.ending.Ending.TheVariants.{Done, Words, Missing, TooLong, Mapping, Table, Trace, Read, Write, Output, Memory}

-- an ending that a fetch or the reading of what it gave may have
CanFail : Ending → Type 0
CanFail (Missing name) = ⊤
CanFail (TooLong name) = ⊤
CanFail (Mapping fault) = ⊤
CanFail (Table name fault) = ⊤
CanFail (Trace fault) = ⊤
CanFail (Read name) = ⊤
CanFail other = ⊥

mapping_can_fail : (fetch : Fetch) (ending : Ending) → Stops fetch RefusesMapping ending → CanFail ending
unfolding CanFail
mapping_can_fail fetch (Missing name) stops = tt
mapping_can_fail fetch (TooLong name) stops = tt
mapping_can_fail fetch (Mapping fault) stops = tt
mapping_can_fail fetch (Read name) stops = tt
mapping_can_fail fetch other stops = absurd stops.2

table_can_fail : (prefix : List ℕ) (relation : Relation) (fetch : Fetch) (ending : Ending)
    → Stops fetch (RefusesTable prefix relation) ending → CanFail ending
unfolding CanFail
table_can_fail prefix relation fetch (Missing name) stops = tt
table_can_fail prefix relation fetch (TooLong name) stops = tt
table_can_fail prefix relation fetch (Table name fault) stops = tt
table_can_fail prefix relation fetch (Read name) stops = tt
table_can_fail prefix relation fetch other stops = absurd stops.2

tables_can_fail : (fetches : List Fetch) (prefix : List ℕ) (left : ℕ) (relations : List Relation) (ending : Ending)
    → StopsAtTable fetches prefix left relations ending → CanFail ending
tables_can_fail fetches prefix left [] ending stops = absurd stops
tables_can_fail fetches prefix left (r ∷ rs) ending (fetch, later, all, inl here) = table_can_fail prefix r fetch ending here.1.stops
tables_can_fail fetches prefix left (r ∷ rs) ending (fetch, later, all, inr (size, facts, read, more)) =
    tables_can_fail later prefix (left - size) rs ending more

trace_can_fail : (named : Option (List ℕ)) (fetch : Fetch) (ending : Ending) → StopsAtTrace named fetch ending → CanFail ending
unfolding CanFail
trace_can_fail None fetch ending stops = absurd stops
trace_can_fail (Some name) fetch (Missing about) stops = tt
trace_can_fail (Some name) fetch (TooLong about) stops = tt
trace_can_fail (Some name) fetch (Trace fault) stops = tt
trace_can_fail (Some name) fetch (Read about) stops = tt
trace_can_fail (Some name) fetch other stops = absurd stops.stops.2

can_fail : (command : Command) (fetches : List Fetch) (ending : Ending) → FailsFirst command fetches ending → CanFail ending
can_fail command fetches ending (inl (fetch, later, all, inl here)) = mapping_can_fail fetch ending here.1.stops
can_fail command fetches ending (inl (fetch, later, all, inr (mapping, read, stops))) =
    tables_can_fail later (origin_of command).source tables_limit mapping.rules.sources ending stops
can_fail command fetches ending (inr (earlier, fetch, mapping, tables, all, read, stops)) =
    trace_can_fail (trace_of command) fetch ending stops

-- a run that stops before the first store ends so
pub stops_early : (words : List (List ℕ)) (before after : Device Held) (out : Device (List ℕ)) (command : Command) (ending : Ending)
    → Spells words command → Keeps before after → StopsEarly before after command ending
    → Causes words (moment before out) (moment after out) ending
unfolding CanFail
stops_early words before after out command ending spelled keeps (inl memory) = rw memory (command, spelled, (keeps.same, refl))
stops_early words before after out command (Missing name) spelled keeps (inr (fetches, told, fails, counted)) =
    ((command, spelled, fetches, told, fails), (keeps.same, refl))
stops_early words before after out command (TooLong name) spelled keeps (inr (fetches, told, fails, counted)) =
    ((command, spelled, fetches, told, fails), (keeps.same, refl))
stops_early words before after out command (Mapping fault) spelled keeps (inr (fetches, told, fails, counted)) =
    ((command, spelled, fetches, told, fails), (keeps.same, refl))
stops_early words before after out command (Table name fault) spelled keeps (inr (fetches, told, fails, counted)) =
    ((command, spelled, fetches, told, fails), (keeps.same, refl))
stops_early words before after out command (Trace fault) spelled keeps (inr (fetches, told, fails, counted)) =
    ((command, spelled, fetches, told, fails), (keeps.same, refl))
stops_early words before after out command (Read name) spelled keeps (inr (fetches, told, fails, counted)) =
    ((command, spelled, fetches, told, fails), (keeps.same, refl), counted name refl)
stops_early words before after out command Memory spelled keeps (inr stops) = (command, spelled, (keeps.same, refl))
stops_early words before after out command (Done finding) spelled keeps (inr stops) =
    absurd (can_fail command stops.0 (Done finding) stops.2)
stops_early words before after out command Words spelled keeps (inr stops) = absurd (can_fail command stops.0 Words stops.2)
stops_early words before after out command (Write name) spelled keeps (inr stops) = absurd (can_fail command stops.0 (Write name) stops.2)
stops_early words before after out command Output spelled keeps (inr stops) = absurd (can_fail command stops.0 Output stops.2)

-- a product that is delivered after the reading is delivered by the run
pub finishes : (words : List (List ℕ)) (before middle after : Device Held) (out printed : Device (List ℕ)) (product : Product)
    (ending : Ending)
    → IsMadeFor words (moment before out) product → Keeps before middle → middle.faults ≤ after.faults
    → Delivers (moment middle out) (moment after printed) product ending → Causes words (moment before out) (moment after printed) ending
finishes words before middle after out printed product (Done finding) made keeps later done = (product, made, rw keeps.same at done)
finishes words before middle after out printed product (Write name) made keeps later done =
    (product, made, ((rw keeps.same at done.0), done.1, then_rises before.faults middle.faults after.faults keeps.later later done.2))
finishes words before middle after out printed product Output made keeps later done =
    (product, made, (rw keeps.same at done.0, done.1, done.2))
finishes words before middle after out printed product other made keeps later done = absurd done
