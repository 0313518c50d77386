use Rattle.std.proofs.Common.{length, ◌-◌, ◌≤◌, All, IsTrue, take}
use Rattle.decl_text.specs.Tokens.{is_name_byte}
use Rattle.decl_text.proofs.scan.name_len.Given as goal

abbrev pub invariant-loop-len : goal.invariant-loop-len
invariant-loop-len l = record { within : l.len ≤ length l.bytes; front : All (λ b. IsTrue (is_name_byte b)) (take l.len l.bytes) }

abbrev pub decreases-loop-len : goal.decreases-loop-len
decreases-loop-len l = length l.bytes - l.len
