-- The cells so far have their numbers.
use Rattle.std.proofs.Common.{◌≡◌, ◌<◌, All, length, map, take}
use Rattle.exchange_engine.specs.Loading.{text_in}
use Rattle.exchange_engine.proofs.loading.facts.numbers_of.Given as goal

abbrev pub invariant-loop-cell : goal.invariant-loop-cell
invariant-loop-cell l = record {
  reads : map (text_in l.pool) l.ids ≡ take l.cell-index l.cells;
  within : All (λ c. c.0 < length l.pool) l.ids;
}
