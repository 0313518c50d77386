use Rattle.std.proofs.Common.{◌≡◌, ◌≤◌, take}
use Rattle.time_line.specs.Numeral.{value_of}
use Rattle.time_line.proofs.text.magnitude_of.Given as goal

abbrev pub invariant-loop-digit : goal.invariant-loop-digit
invariant-loop-digit l = (l.value ≡ value_of (take l.digit-index l.digits)) × (l.value ≤ l.limit)
