use Rattle.std.proofs.Common.{◌≡◌, ℕ, ◌≤◌, ℤ, pos, negsuc, unsigned_abs, Some, length, decimal, length-append, FitsSigned, w64, ap, ◌∙◌, rules, arith}
use Rattle.std.specs.Int.{cast_signed, cast_unsigned}
use Rattle.std.proofs.lemmas.Fmt.{length-decimal-le}
use Rattle.std.proofs.lemmas.Int.{ints, to_z-of_z}
use Rattle.time_line.specs.Span.{IsWithinInstants}
use Rattle.time_line.proofs.text.write_end.Goals as goal

-- an instant has 16 digits at most
length-decimal_instant : (z : ℤ) (n : ℕ) → IsWithinInstants (Some z) → n ≡ unsigned_abs z → length (decimal n) ≤ 16
length-decimal_instant (pos k) n h e = length-decimal-le 16 n (omega arith) (omega (arith, ints)) (omega (arith, ints))
length-decimal_instant (negsuc k) n h e =
    length-decimal-le 16 n (omega arith) (omega (arith, ints)) (omega (arith, ints))

-- the same, of what `unsigned_abs` gives
short : (z : ℤ) (n : ℕ) → IsWithinInstants (Some z) → FitsSigned w64 z
    → n ≡ unsigned_abs (cast_signed w64 (cast_unsigned w64 z)) → length (decimal n) ≤ 16
short z n h fits e = length-decimal_instant z n h (e ∙ ap unsigned_abs (to_z-of_z w64 z fits))

pub prepend_number-requires : goal.prepend_number-requires
prepend_number-requires c =
    let within : IsWithinInstants (Some c.in-Some.end) = rw c.in-Some.is at c.requires in
    let digits = short c.in-Some.end c.unsigned_abs.result within (search rules) c.unsigned_abs.ensures.value in
    omega (arith, digits, ap length c.new-text.ensures)

pub prepend-requires : goal.prepend-requires
prepend-requires c =
    let within : IsWithinInstants (Some c.in-Some.end) = rw c.in-Some.is at c.requires in
    let digits = short c.in-Some.end c.unsigned_abs.result within (search rules) c.unsigned_abs.ensures.value in
    let none = ap length c.new-text.ensures in
    let written = ap length c.prepend_number.ensures in
    omega (arith, digits, none, written, length-append (decimal c.unsigned_abs.result) c.new-text.result)
