use Rattle.std.proofs.Common.{◌<◌, ◌-◌, length, sym, ◌∙◌, arith}
use Rattle.std.proofs.lemmas.Option.{slice_get_within, get_or_from_slice_get}
use Rattle.exchange_engine.proofs.UnknownLemmas.{ascending_more}
use Rattle.exchange_engine.proofs.unknowns.last_to.Goals as goal

pub returns-in-Some-clause-less : goal.returns-in-Some-clause-less
returns-in-Some-clause-less c = λ less order.
    let unknowns = c.args.unknowns.now in
    let last = c.in-Some.last.now in
    let k = length unknowns - 1 in
    let within : k < length unknowns = slice_get_within unknowns k last (sym c.in-Some.ensures.value) in
    ascending_more unknowns last c.args.unknown.now k (omega (arith, within))
    (get_or_from_slice_get unknowns k last last (sym c.in-Some.ensures.value)) (sym c.cmp.ensures ∙ less) order
