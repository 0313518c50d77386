use Rattle.std.proofs.Common.{ℕ, List, length, ◌-◌}
use Rattle.decl_text.proofs.InsideLemmas.{Inside}
use Rattle.decl_text.proofs.scan.quoted_front.Given as goal

abbrev pub invariant-loop-c : goal.invariant-loop-c
invariant-loop-c l = (characters : List ℕ) × Inside characters l.bytes l.len

abbrev pub decreases-loop-c : goal.decreases-loop-c
decreases-loop-c l = length l.bytes - l.len
