use Rattle.std.proofs.Common.{◌≡◌, ◌++◌, decimal}
use Rattle.time_line.proofs.text.EndText.prepend_number.Given as goal

abbrev pub invariant-loop-rest : goal.invariant-loop-rest
invariant-loop-rest l = decimal l.rest ++ l.self ≡ decimal l.fn.number ++ l.fn.self

abbrev pub decreases-loop-rest : goal.decreases-loop-rest
decreases-loop-rest l = l.rest
