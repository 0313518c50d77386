-- The texts so far are added.
use Rattle.std.proofs.Common.{take, Contains}
use Rattle.exchange_engine.specs.Gathered.{Gains, texts_of}
use Rattle.exchange_engine.proofs.loading.pool.add_found.Given as goal

abbrev pub invariant-loop-place : goal.invariant-loop-place
invariant-loop-place l = Gains l.fn.builder l.builder (Contains (take l.place (texts_of l.found))) l.place
