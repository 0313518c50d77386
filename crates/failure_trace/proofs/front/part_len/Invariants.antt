use Rattle.std.proofs.Common.{length, ◌-◌, ◌≤◌, ◌≢◌, All, take}
use Rattle.failure_trace.proofs.front.part_len.Given as goal

abbrev pub invariant-loop-len : goal.invariant-loop-len
invariant-loop-len l = record { within : l.len ≤ length l.bytes; front : All (λ b. b ≢ 32) (take l.len l.bytes) }

abbrev pub decreases-loop-len : goal.decreases-loop-len
decreases-loop-len l = length l.bytes - l.len
