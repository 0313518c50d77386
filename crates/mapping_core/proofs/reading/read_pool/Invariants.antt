use Rattle.std.proofs.Common.{length, ◌-◌}
use Rattle.mapping_core.specs.Steps.{Gathers}
use Rattle.mapping_core.proofs.reading.read_pool.Given as goal

abbrev pub invariant-loop-token : goal.invariant-loop-token
invariant-loop-token l = Gathers l.bytes l.texts l.from

abbrev pub decreases-loop-token : goal.decreases-loop-token
decreases-loop-token l = length l.bytes - l.from
