-- What contracts see of a shelf and of a sink in memory, and what their calls do.
use Rattle.std.specs.Prelude.{◌≡◌, ℕ, ◌+◌, ◌-◌, ◌<◌, ◌⊎◌, List, [], ◌∷◌, ◌++◌, length, min, Contains, refl}
use Rattle.std.specs.Coded.{Coded, code_by, coded×, coded_ℕ, coded_list}
use Rattle.std.specs.FinMap.{insert}
use Rattle.shelf_core.specs.Faults.{last_count}
use Rattle.shelf_core.specs.Held.{Held, held_code}

-- how many calls were made, the numbers of those that are to fail, and how many have failed
pub record Calls : Type 0 where
  pub count : ℕ
  pub listed : List ℕ
  pub faults : ℕ

-- how many entries and bytes can still be stored
pub record Room : Type 0 where
  pub entries : ℕ
  pub bytes : ℕ

-- a shelf in memory
pub record ShelfState : Type 0 where
  pub entries : Held
  pub calls : Calls
  pub spare : Room

-- a sink in memory
pub record SinkState : Type 0 where
  pub text : List ℕ
  pub calls : Calls
  pub spare : ℕ

-- the records are stored as the pairs of their fields
abbrev pub calls_code : Coded Calls
calls_code =
    code_by (ℕ × (List ℕ × ℕ)) (coded× coded_ℕ (coded× (coded_list coded_ℕ) coded_ℕ))
    (λ c. (c.count, (c.listed, c.faults))) (λ p. record { count = p.0; listed = p.1.0; faults = p.1.1 }) (λ _. refl)

abbrev pub room_code : Coded Room
room_code =
    code_by (ℕ × ℕ) (coded× coded_ℕ coded_ℕ) (λ r. (r.entries, r.bytes)) (λ p. record { entries = p.0; bytes = p.1 }) (λ _. refl)

abbrev pub shelf_code : Coded ShelfState
shelf_code =
    code_by (Held × (Calls × Room)) (coded× held_code (coded× calls_code room_code))
    (λ s. (s.entries, (s.calls, s.spare))) (λ p. record { entries = p.0; calls = p.1.0; spare = p.1.1 }) (λ _. refl)

-- no call was made, and none is to fail
abbrev pub no_calls : Calls
no_calls = record { count = 0; listed = []; faults = 0 }

-- nothing can be stored
abbrev pub no_room : Room
no_room = record { entries = 0; bytes = 0 }

-- a count that goes up by one, until its last value
abbrev pub next_count : ℕ → ℕ
next_count count = min (count + 1) last_count

-- the next call is to fail
abbrev pub IsNextListed : Calls → Type 0
IsNextListed calls = Contains calls.listed (next_count calls.count)

-- one more call is to fail
abbrev pub with_listed : Calls → ℕ → Calls
with_listed calls call = record calls { listed = calls.listed ++ call ∷ [] }

-- one more call was made
abbrev pub counted : Calls → Calls
counted calls = record calls { count = next_count calls.count }

-- one more call was made, and it failed
abbrev pub failed : Calls → Calls
failed calls = record calls { count = next_count calls.count; faults = next_count calls.faults }

-- an entry of those bytes needs more than is spare
abbrev pub IsFull : ShelfState → List ℕ → List ℕ → Type 0
IsFull shelf name bytes = (shelf.spare.entries ≡ 0) ⊎ (shelf.spare.bytes < length name + length bytes)

-- the room that is left after an entry
abbrev pub room_left : Room → List ℕ → List ℕ → Room
room_left room name bytes = record { entries = room.entries - 1; bytes = room.bytes - (length name + length bytes) }

-- the shelf after a call that was counted, and nothing else
abbrev pub shelf_counted : ShelfState → ShelfState
shelf_counted shelf = record shelf { calls = counted shelf.calls }

-- the shelf after a call that failed
abbrev pub shelf_failed : ShelfState → ShelfState
shelf_failed shelf = record shelf { calls = failed shelf.calls }

-- the shelf after a store that went well
abbrev pub stored : ShelfState → List ℕ → List ℕ → ShelfState
stored shelf name bytes = record {
  entries = insert shelf.entries name bytes;
  calls = counted shelf.calls;
  spare = room_left shelf.spare name bytes;
}

-- the sink after a call that failed
abbrev pub sink_failed : SinkState → SinkState
sink_failed sink = record sink { calls = failed sink.calls }

-- the sink after a call of `put` that went well
abbrev pub given : SinkState → List ℕ → SinkState
given sink bytes = record {
  text = sink.text ++ bytes;
  calls = counted sink.calls;
  spare = sink.spare - length bytes;
}
