-- What the rows so far have in common.
use Rattle.std.proofs.Common.{take}
use Rattle.body_match.specs.Search.{IsPartial}
use Rattle.body_match.proofs.search.span_of.Given as goal

abbrev pub invariant-loop-at : goal.invariant-loop-at
invariant-loop-at g l = IsPartial l.search (take l.at l.rows) l.span
