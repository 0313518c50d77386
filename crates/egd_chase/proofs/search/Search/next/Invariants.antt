-- The parts are for what they were for, and the egds so far have no match with unequal sides.
use Rattle.std.proofs.Common.{◌≡◌, List, length}
use Rattle.rule_core.specs.declared.rules.Egd.{Egd}
use Rattle.egd_chase.specs.Search.{AreParts}
use Rattle.egd_chase.proofs.IndexLemmas.{NoneBelow}
use Rattle.egd_chase.proofs.search.Search.next.Given as goal

abbrev pub invariant-loop-at : goal.invariant-loop-at
invariant-loop-at g l = record {
  limit : l.self.limit ≡ l.initial.self.limit;
  size : length l.self.parts.items ≡ length l.initial.self.parts.items;
  parts : (egds : List Egd) → AreParts l.store.rows egds l.initial.self.parts.items → AreParts l.store.rows egds l.self.parts.items;
  none : (egds : List Egd) → AreParts l.store.rows egds l.initial.self.parts.items → NoneBelow l.store.rows egds l.at;
}
