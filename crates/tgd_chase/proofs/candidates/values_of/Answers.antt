use Rattle.std.proofs.Common.{◌≡◌, Some, get_or, slice_get, refl}
use Rattle.std.proofs.lemmas.Option.{slice_get_read}
use Rattle.tgd_chase.proofs.CandidateLemmas.{values_more}
use Rattle.tgd_chase.proofs.candidates.values_of.Goals as goal

pub loop-variable-preserved : goal.loop-variable-preserved
loop-variable-preserved c = λ all.
    let variables = c.args.variables.now in
    let index = c.loop-variable.variable-index in
    let read : slice_get c.args.binding.now (get_or variables index 0) ≡ Some c.in-Some.value.now =
    slice_get_read c.args.binding.now _ (get_or variables index 0) c.in-Some.value.now refl c.in-Some.ensures.lookup.3.0
    c.in-Some.ensures.lookup.1 in
    values_more c.args.binding.now variables index c.loop-variable.values _ c.in-Some.value.now 0 c.loop-variable-test.true read
    c.in_ok-push.ensures.ok (c.loop-variable.invariant all)
