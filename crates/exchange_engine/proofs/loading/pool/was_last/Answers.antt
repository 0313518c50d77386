use Rattle.std.proofs.Common.{◌-◌, arith}
use Rattle.exchange_engine.specs.Gathered.{texts_of}
use Rattle.exchange_engine.proofs.GatheredLemmas.{stands_before}
use Rattle.exchange_engine.proofs.loading.pool.was_last.Goals as goal

pub returns-then-place-gt0 : goal.returns-then-place-gt0
returns-then-place-gt0 c = λ same.
    let place = c.args.place in
    stands_before (texts_of c.args.found.now) place (place - 1) c.args.text.now (c.is_at.ensures same) (omega (arith, c.if-place-gt0.true))
