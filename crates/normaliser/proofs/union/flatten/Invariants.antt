-- The parents so far are labels, and the labels are the same.
use Rattle.std.proofs.Common.{◌≡◌, ℕ, ◌<◌, length, slice_index}
use Rattle.normaliser.specs.Labels.{AreParents, labels_of}
use Rattle.normaliser.proofs.union.flatten.Given as goal

abbrev pub invariant-loop-place : goal.invariant-loop-place
invariant-loop-place l = record {
  fit : AreParents l.parents;
  size : length l.parents ≡ length l.initial.parents;
  labels : labels_of l.parents ≡ labels_of l.initial.parents;
  done : (k : ℕ) → k < l.place → slice_index l.parents k ≡ slice_index (labels_of l.initial.parents) k;
}
