-- Where the entries of a list stand by their keys. No public clause cites this module.
use Rattle.std.specs.Prelude.{◌≡◌, ℕ, ◌*◌, ◌/◌, ◌%◌, ◌^◌, ◌<◌, ◌≤◌, List, Some, length, slice_get}
use Rattle.body_match.specs.declared.lookup.Entry.{Entry}
use Rattle.body_match.specs.declared.directory.Stretch.{Stretch}

-- which of so many stretches is that of a key
abbrev pub stretch_place : ℕ → ℕ → ℕ
stretch_place count key = (key / 2 ^ 32 * count) % 2 ^ 64 / 2 ^ 32

-- the stretch has the place
pub record IsWithin (stretch : Stretch) (at : ℕ) : Type 0 where
  pub from : stretch.first ≤ at
  pub before : at < stretch.end

-- the first entries stand within the stretches of their keys
abbrev pub AreDirected : List Entry → List Stretch → ℕ → Type 0
AreDirected entries stretches first = (at : ℕ) (entry : Entry) (stretch : Stretch) → at < first → slice_get entries at ≡ Some entry
    → slice_get stretches (stretch_place (length stretches) entry.key) ≡ Some stretch → IsWithin stretch at

-- the stretch of the key has one more place, and each has what it had
pub record Directs (key at : ℕ) (old new : List Stretch) : Type 0 where
  pub size : length new ≡ length old
  pub kept : (place k : ℕ) (before stretch : Stretch) → slice_get old place ≡ Some before → slice_get new place ≡ Some stretch
      → IsWithin before k → IsWithin stretch k
  pub more : (stretch : Stretch) → slice_get new (stretch_place (length new) key) ≡ Some stretch → IsWithin stretch at
