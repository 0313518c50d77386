-- A part for each egd so far.
use Rattle.std.proofs.Common.{[], take}
use Rattle.egd_chase.specs.Search.{AreParts}
use Rattle.egd_chase.proofs.search.parts_of.Given as goal

abbrev pub invariant-loop-egd : goal.invariant-loop-egd
invariant-loop-egd l = AreParts [] (take l.egd-index l.egds) l.parts.items
