use Rattle.std.proofs.Common.{◌+◌, ◌*◌, ◌-◌, arith}
use Rattle.std.proofs.lemmas.List.Sums.{fold_more}
use Rattle.time_line.proofs.NumeralLemmas.{value_of-take-le}
use Rattle.time_line.proofs.text.magnitude_of.Goals as goal

pub returns-in_default : goal.returns-in_default
returns-in_default c = λ h.
    let ds = c.args.digits.now in
    let i = c.loop-digit.digit-index in
    let more = fold_more (λ n d. 10 * n + (d - 48)) 0 ds i 0 (omega arith) in
    c.in_default.ensures (omega (arith, more, value_of-take-le (i + 1) ds, h, c.loop-digit.invariant.0))
