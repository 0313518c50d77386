-- How a `MemoryShelf` lays out its entries. No public clause cites this module.
use Rattle.std.specs.Prelude.{ℕ, ◌+◌, ◌≤◌, List, map, length, slice_range, refl}
use Rattle.std.specs.Coded.{Coded, code_by, coded×}
use Rattle.std.specs.FinMap.{from_entries}
use Rattle.shelf_core.specs.declared.entry_log.Place.{Place}
use Rattle.shelf_core.specs.Held.{Held, held_code}
use Rattle.shelf_core.specs.InMemory.{Room, room_code}

-- the entries, and the room for more that takes no memory
pub record Entries : Type 0 where
  pub held : Held
  pub room : Room

-- the pair of its fields stands for it
abbrev pub entries_code : Coded Entries
entries_code =
    code_by (Held × Room) (coded× held_code room_code) (λ e. (e.held, e.room)) (λ p. record { held = p.0; room = p.1 }) (λ _. refl)

-- the name and the bytes that stand at a place of the text
abbrev pub entry_at : List ℕ → Place → List ℕ × List ℕ
entry_at text place = (slice_range text place.start place.middle, slice_range text place.middle place.end)

-- the entries at the places, of which the first was stored last
abbrev pub entries_at : List ℕ → List Place → Held
entries_at text places = from_entries (map (entry_at text) places)

-- the name and the bytes of a place stand in order, within a text of that length
pub record IsInText (size : ℕ) (place : Place) : Type 0 where
  pub name : place.start ≤ place.middle
  pub bytes : place.middle ≤ place.end
  pub whole : place.end ≤ size

-- an entry of those bytes fits the room
pub record Fits (room : Room) (name bytes : List ℕ) : Type 0 where
  pub one_more : 1 ≤ room.entries
  pub size : length name + length bytes ≤ room.bytes
