-- What is left of the candidates, and the firings that the others make up.
use Rattle.std.proofs.Common.{◌≡◌, length}
use Rattle.tgd_chase.proofs.MergeLemmas.{AreMergedSoFar}
use Rattle.tgd_chase.proofs.merging.merge.Given as goal

abbrev pub invariant-loop-candidate : goal.invariant-loop-candidate
invariant-loop-candidate l = record {
  size : l.candidate-iterator.rest.len ≡ length l.candidate-iterator.rest.items;
  merged : AreMergedSoFar l.firings.items l.candidate-iterator.rest.items l.fn.candidates.items;
}
