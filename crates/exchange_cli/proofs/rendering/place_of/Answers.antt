-- The place of an unknown is the number of those before it.
use Rattle.std.proofs.Common.{◌+◌, sym, ap, rules}
use Rattle.std.specs.Ordering.{is_lt}
use Rattle.std.proofs.lemmas.List.Sorted.{IsPartitionPoint-from_clause}
use Rattle.term_core.specs.Order.{unknown_cmp}
use Rattle.certain_answers.proofs.RankLemmas.{lesser_stand_first, count_is_point}
use Rattle.exchange_cli.proofs.rendering.place_of.Goals as goal

pub returns-clause-place : goal.returns-clause-place
returns-clause-place c =
    let nulls = c.args.nulls.now in
    let unknown = c.args.unknown.now in
    let at = c.partition_point.result in
    let point = IsPartitionPoint-from_clause (λ w. is_lt (unknown_cmp w unknown)) nulls at c.partition_point.ensures.partitioned
    (lesser_stand_first unknown_cmp c.unknowns_have_one_order.ensures.total nulls unknown c.requires) (λ a r q k. search rules) in
    ap (λ n. n + 1) (sym (count_is_point (λ w. is_lt (unknown_cmp w unknown)) nulls at c.partition_point.ensures.bound point))
