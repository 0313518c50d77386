use Rattle.std.proofs.lemmas.List.Sorted.{IsPermutation-sym}
use Rattle.coalescer.proofs.SweepSteps.{sorted_alike, covers_moved}
use Rattle.std.specs.Cmp.Lexicographic.{slice_cmp}
use Rattle.term_core.specs.Order.{term_cmp}
use Rattle.rule_core.specs.Coalesced.{stamped_cmp}
use Rattle.coalescer.proofs.RowLemmas.{entries_alike}
use Rattle.coalescer.proofs.coalescing.coalesce.Goals as goal

pub sweep-last-requires-clause-sorted : goal.sweep-last-requires-clause-sorted
sweep-last-requires-clause-sorted c = sorted_alike _ (stamped_cmp (slice_cmp term_cmp)) entries_alike _ c.in_ok-sort.ensures.sorted

pub returns-clause-coalesced : goal.returns-clause-coalesced
returns-clause-coalesced c = rw (c.from_vec-2.ensures, c.truncate.ensures.items) c.sweep-last.ensures.coalesced

pub returns-clause-covers : goal.returns-clause-covers
returns-clause-covers c row t =
    rw (c.from_vec-2.ensures, c.truncate.ensures.items, ← c.into_vec-rows.ensures) (
      λ d. covers_moved _ _ (IsPermutation-sym _ _ c.in_ok-sort.ensures.permutation) row t ((c.sweep-last.ensures.covers row t).0 d),
      λ d. (c.sweep-last.ensures.covers row t).1 (covers_moved _ _ c.in_ok-sort.ensures.permutation row t d),
    )
