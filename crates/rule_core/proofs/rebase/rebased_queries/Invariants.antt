-- What is read so far is copied with other numbers.
use Rattle.std.proofs.Common.{◌≡◌, take, map}
use Rattle.rule_core.specs.Rebase.{number_in, renumbered_query}
use Rattle.rule_core.proofs.rebase.rebased_queries.Given as goal

abbrev pub invariant-loop-query : goal.invariant-loop-query
invariant-loop-query l = l.copies ≡ map (renumbered_query (number_in l.ids)) (take l.query-index l.queries)
