use Rattle.std.proofs.Common.{◌≤◌, ◌-◌, length}
use Rattle.mapping_core.specs.Steps.{ReadsTo}
use Rattle.mapping_core.proofs.reading.read_lines.Given as goal

abbrev pub invariant-loop-rules : goal.invariant-loop-rules
invariant-loop-rules l = record { within : l.from ≤ length l.bytes; reads : ReadsTo l.bytes l.pool l.from l.rules }

abbrev pub decreases-loop-rules : goal.decreases-loop-rules
decreases-loop-rules l = length l.bytes - l.from
