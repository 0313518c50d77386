-- Those that are no longer left are put back.
use Rattle.std.proofs.Common.{vec_len}
use Rattle.body_match.proofs.UsingLemmas.{ArePutBack}
use Rattle.body_match.proofs.using.add_back.Given as goal

abbrev pub invariant-loop-ordered : goal.invariant-loop-ordered
invariant-loop-ordered l = ArePutBack l.order l.initial.left.items l.left.items l.initial.list.items l.list.items

abbrev pub decreases-loop-ordered : goal.decreases-loop-ordered
decreases-loop-ordered l = vec_len l.left
