-- The visitor was given all matches whose next row is one of those so far.
use Rattle.std.proofs.Common.{◌≡◌, ◌-◌, ◌*◌, true, length}
use Rattle.body_match.specs.Search.{IsFindable, Gives}
use Rattle.body_match.proofs.GiveLemmas.{IsListedBetween}
use Rattle.body_match.proofs.search.+walk.Given as goal

abbrev pub decreases-extend : goal.decreases-extend
decreases-extend g l = 2 * (length l.search.now.body - length l.walk.now.chosen.items)

abbrev pub decreases-extend_by : goal.decreases-extend_by
decreases-extend_by g l = 2 * (length l.search.now.body - length l.walk.now.chosen.items) - 1

abbrev pub invariant-extend-loop-at : goal.invariant-extend-loop-at
invariant-extend-loop-at g l = record {
  chosen : l.walk.chosen.items ≡ l.fn.walk.chosen.items;
  next : l.walk.next.items ≡ l.initial.walk.next.items;
  gives : Gives g.V.Visitor.takes
      (IsListedBetween l.search l.fn.walk.chosen.items l.initial.walk.next.items (length l.fn.walk.next.items) l.at)
      (IsFindable l.search) l.fn.visitor l.visitor true;
}
