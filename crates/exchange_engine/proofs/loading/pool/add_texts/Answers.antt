use Rattle.std.proofs.Common.{arith}
use Rattle.exchange_engine.proofs.GatheredLemmas.{Gains-text, Gains-texts}
use Rattle.exchange_engine.proofs.loading.pool.add_texts.Goals as goal

pub loop-at-preserved : goal.loop-at-preserved
loop-at-preserved c =
    Gains-text c.args.gathered.now c.loop-at.gathered c.add.new.self c.args.texts.now c.loop-at.at c.text.result.now
    c.text.ensures c.loop-at.invariant c.in_ok-add.ensures

pub returns : goal.returns
returns c =
    Gains-texts c.args.gathered.now c.loop-at.gathered c.args.texts.now c.loop-at.at (omega arith) c.loop-at.invariant
