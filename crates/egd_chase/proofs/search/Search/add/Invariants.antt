-- The parts so far have taken the rows in.
use Rattle.std.proofs.Common.{◌≡◌}
use Rattle.egd_chase.proofs.IndexLemmas.{HaveTakenBelow}
use Rattle.egd_chase.proofs.search.Search.add.Given as goal

abbrev pub invariant-loop-at : goal.invariant-loop-at
invariant-loop-at g l = record {
  taken : HaveTakenBelow l.store.rows l.rows l.initial.self.parts.items l.self.parts.items l.at;
  limit : l.self.limit ≡ l.initial.self.limit;
}
