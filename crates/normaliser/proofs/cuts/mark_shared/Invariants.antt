-- The groups so far that have a further place.
use Rattle.std.proofs.Common.{◌≡◌, ◌↔◌, ◌<◌, ℕ, true, false, length, slice_index_or}
use Rattle.normaliser.proofs.CutLemmas.{IsSharedBelow}
use Rattle.normaliser.proofs.cuts.mark_shared.Given as goal

abbrev pub invariant-loop-place : goal.invariant-loop-place
invariant-loop-place l = record {
  size : length l.shared ≡ length l.places;
  each : (group : ℕ) → group < length l.places → (slice_index_or l.shared group false ≡ true) ↔ IsSharedBelow l.places l.place group;
}
