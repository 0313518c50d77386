-- The label of the place so far is that of the place; other parents so far, and no other labels.
use Rattle.std.proofs.Common.{◌≡◌, ◌<◌, length, slice_index}
use Rattle.normaliser.specs.Labels.{AreParents, labels_of}
use Rattle.normaliser.proofs.union.root.Given as goal

abbrev pub invariant-loop-parents : goal.invariant-loop-parents
invariant-loop-parents l = record {
  fit : AreParents l.parents;
  size : length l.parents ≡ length l.initial.parents;
  within : l.at < length l.initial.parents;
  labels : labels_of l.parents ≡ labels_of l.initial.parents;
  alike : slice_index (labels_of l.initial.parents) l.at ≡ slice_index (labels_of l.initial.parents) l.place;
}

abbrev pub decreases-loop-parents : goal.decreases-loop-parents
decreases-loop-parents l = l.at
