-- The texts so far are found.
use Rattle.std.proofs.Common.{Contains, take}
use Rattle.exchange_engine.specs.Gathered.{Gains}
use Rattle.exchange_engine.proofs.loading.pool.add_texts.Given as goal

abbrev pub invariant-loop-at : goal.invariant-loop-at
invariant-loop-at l = Gains l.fn.gathered l.gathered (Contains (take l.at l.texts)) l.at
