-- What is read so far is copied.
use Rattle.std.proofs.Common.{◌≡◌, take}
use Rattle.rule_core.proofs.rebase.same_relations.Given as goal

abbrev pub invariant-loop-relation : goal.invariant-loop-relation
invariant-loop-relation l = l.copies ≡ take l.relation-index l.relations
