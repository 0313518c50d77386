use Rattle.std.proofs.lemmas.List.Filters.{dedup_is}
use Rattle.std.proofs.lemmas.List.Kept.{Contains-dedup, Contains-from_dedup, IsStrictlySortedBy-dedup}
use Rattle.std.proofs.lemmas.List.Sorted.{Contains-permutation, IsPermutation-sym}
use Rattle.std.proofs.lemmas.Map.Keys.{Less-from_sorted}
use Rattle.body_match.specs.contracts.found.MatchEq.TheImpl.Laws.{laws-law}
use Rattle.body_match.specs.contracts.found.MatchOrd.TheImpl.Laws.{matches_eq-law}
use Rattle.body_match.proofs.OrderLemmas.{match_cmp-total, equal_same, less_in_order}
use Rattle.body_match.proofs.using.in_order.Goals as goal

pub returns-clause-same : goal.returns-clause-same
returns-clause-same c m =
    let is = dedup_is _ _ _ c.dedup.ensures.filtered in
    let moved = c.sort_unstable.ensures.permutation in
    rw (c.from_vec.ensures, is) (
      λ d. Contains-permutation _ _ m (IsPermutation-sym _ _ moved) (Contains-from_dedup _ _ m d),
      λ d. Contains-dedup laws-law equal_same _ m (Contains-permutation _ _ m moved d),
    )

pub returns-clause-order : goal.returns-clause-order
returns-clause-order c =
    let is = dedup_is _ _ _ c.dedup.ensures.filtered in
    rw (c.from_vec.ensures, is) (λ i j d before within. less_in_order _ _
    (Less-from_sorted _ _ i j d (IsStrictlySortedBy-dedup match_cmp-total matches_eq-law _ c.sort_unstable.ensures.sorted) before within))
