-- Those of the stretch so far that are sought are there.
use Rattle.std.proofs.Common.{◌≡◌, ℕ, ◌<◌, ◌≤◌, Some, slice_get, Contains}
use Rattle.body_match.specs.declared.lookup.Entry.{Entry}
use Rattle.body_match.specs.Lookup.{IsSought, Keeps}
use Rattle.body_match.proofs.lookup.Lookup.gather_stretch.Given as goal

abbrev pub invariant-loop-at : goal.invariant-loop-at
invariant-loop-at l = record {
  kept : Keeps l.fn.rows.items l.rows.items;
  sought : (at : ℕ) (entry : Entry) → l.fn.stretch.first ≤ at → at < l.at → slice_get l.self.entries at ≡ Some entry → IsSought l.probe entry
      → Contains l.rows.items entry.row;
}
