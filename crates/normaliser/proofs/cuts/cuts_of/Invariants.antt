-- The cuts so far are those of the facts so far.
use Rattle.std.proofs.Common.{◌↔◌, Contains}
use Rattle.normaliser.specs.declared.cuts.Cut.{Cut}
use Rattle.normaliser.specs.Cuts.{AreWithinLimit}
use Rattle.normaliser.proofs.CutLemmas.{IsCutBelow}
use Rattle.normaliser.proofs.cuts.cuts_of.Given as goal

abbrev pub invariant-loop-place : goal.invariant-loop-place
invariant-loop-place l = record {
  each : (c : Cut) → Contains l.cuts.items c ↔ IsCutBelow l.facts l.places l.place c;
  limit : AreWithinLimit l.cuts.items;
}
