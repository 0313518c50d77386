-- The part is for what it was for.
use Rattle.std.proofs.Common.{◌-◌, length}
use Rattle.rule_core.specs.declared.rules.Egd.{Egd}
use Rattle.egd_chase.specs.Search.{IsPartFor}
use Rattle.egd_chase.proofs.search.Part.next.Given as goal

abbrev pub invariant-loop-self : goal.invariant-loop-self
invariant-loop-self g l = (egd : Egd) → IsPartFor l.store.rows egd l.initial.self → IsPartFor l.store.rows egd l.self

abbrev pub decreases-loop-self : goal.decreases-loop-self
decreases-loop-self g l = length l.self.waiting.items - l.self.next
