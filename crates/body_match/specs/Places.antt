-- Where variables occur first. No public clause cites this module.
use Rattle.std.specs.Prelude.{◌≡◌, ℕ, ◌<◌, ◌≤◌, List, Some, Contains, length, slice_get}
use Rattle.rule_core.specs.declared.rules.Arg.TheVariants.{Var}
use Rattle.rule_core.specs.declared.rules.Atom.{Atom}
use Rattle.rule_core.specs.Validity.{occurrences}
use Rattle.body_match.specs.declared.places.Place.{Place}

-- the place is one of the variable, in the first atom that has it
pub record IsFirstPlace (body : List Atom) (v : ℕ) (place : Place) : Type 0 where
  pub there : (atom : Atom) × (slice_get body place.atom ≡ Some atom) × (slice_get atom.args place.column ≡ Some (Var v))
  pub first : (k : ℕ) (atom : Atom) → slice_get body k ≡ Some atom → Contains atom.args (Var v) → place.atom ≤ k

-- a place for each of the first variables
pub record AreFirstPlaces (body : List Atom) (vars : ℕ) (places : List Place) : Type 0 where
  pub size : length places ≡ vars
  pub each : (v : ℕ) (place : Place) → slice_get places v ≡ Some place → IsFirstPlace body v place

-- each variable that occurs is one of the first
abbrev pub OccurBelow : ℕ → List Atom → Type 0
OccurBelow vars body = (v : ℕ) → Contains (occurrences body) v → v < vars
