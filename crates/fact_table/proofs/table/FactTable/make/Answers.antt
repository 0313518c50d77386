use Rattle.std.proofs.Common.{◌≡◌, true, refl, sym, ◌∙◌}
use Rattle.std.specs.declared.cmp.Ordering.{Ordering}
use Rattle.std.specs.declared.cmp.Ordering.TheVariants.{Less, Equal, Greater}
use Rattle.std.specs.Ordering.{is_eq}
use Rattle.std.proofs.lemmas.List.Filters.{dedup_is}
use Rattle.std.proofs.lemmas.List.Kept.{Contains-dedup, Contains-from_dedup, IsStrictlySortedBy-dedup}
use Rattle.std.proofs.lemmas.List.Sorted.{Contains-permutation, IsPermutation-sym}
use Rattle.std.proofs.lemmas.Map.Keys.{Less-from_sorted}
use Rattle.fact_table.specs.contracts.fact.FactEq.TheImpl.Laws.{laws-law}
use Rattle.fact_table.specs.contracts.fact.FactOrd.TheImpl.Laws.{matches_eq-law}
use Rattle.fact_table.specs.Facts.{IsTable}
use Rattle.fact_table.proofs.OrderLemmas.{fact_cmp-total, fact_cmp-IsAntisymmetric}
use Rattle.fact_table.proofs.table.FactTable.make.Goals as goal
use Rattle.fact_table.proofs.table.FactTable.make.Goals.{After-from_vec}

eq_equal : (r : Ordering) → is_eq r ≡ true → r ≡ Equal
eq_equal Less e = absurd cc
eq_equal Equal e = refl
eq_equal Greater e = absurd cc

in_order : (c : After-from_vec) → IsTable c.from_vec.result
in_order c =
    let is = dedup_is _ _ _ c.dedup.ensures.filtered in
    rw (c.from_vec.ensures, is) (λ i j d before within.
    Less-from_sorted _ _ i j d (IsStrictlySortedBy-dedup fact_cmp-total matches_eq-law _ c.sort_unstable.ensures.sorted) before within)

pub invariant_of-result : goal.invariant_of-result
invariant_of-result c = in_order c

pub returns-clause-table : goal.returns-clause-table
returns-clause-table c = in_order c

pub returns-clause-same : goal.returns-clause-same
returns-clause-same c fact =
    let is = dedup_is _ _ _ c.dedup.ensures.filtered in
    let moved = c.sort_unstable.ensures.permutation in
    rw (c.from_vec.ensures, is, ← c.into_vec-facts.ensures) (
      λ d. Contains-permutation _ _ fact (IsPermutation-sym _ _ moved) (Contains-from_dedup _ _ fact d),
      λ d. Contains-dedup laws-law (λ x y e. fact_cmp-IsAntisymmetric x y (eq_equal _ (sym (matches_eq-law x y) ∙ e))) _ fact
          (Contains-permutation _ _ fact moved d),
    )
