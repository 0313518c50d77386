-- The places so far are united.
use Rattle.std.proofs.Common.{◌≡◌, length, take}
use Rattle.normaliser.specs.Labels.{AreParents, Unites, labels_of}
use Rattle.normaliser.proofs.union.unite.Given as goal

abbrev pub invariant-loop-other : goal.invariant-loop-other
invariant-loop-other l = record {
  fit : AreParents l.parents;
  size : length l.parents ≡ length l.initial.parents;
  unites : Unites (take l.other l.places) (labels_of l.initial.parents) (labels_of l.parents);
}
