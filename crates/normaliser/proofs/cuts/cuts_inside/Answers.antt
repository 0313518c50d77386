use Rattle.std.proofs.Common.{◌≡◌, ◌≤◌, ◌-◌, ◌↔◌, Bool, true, false, List, length, take, drop, sym, subst, rules, Contains}
use Rattle.std.specs.declared.cmp.Ordering.TheVariants.{Less}
use Rattle.std.specs.List.Sorted.{IsPartitionPoint}
use Rattle.std.proofs.lemmas.List.{take_rest}
use Rattle.std.proofs.lemmas.List.Sorted.{IsPartitionPoint-from_clause}
use Rattle.time_line.specs.Span.{IsInside}
use Rattle.normaliser.specs.declared.cuts.Cut.{Cut}
use Rattle.normaliser.specs.Cuts.{cut_cmp, AreInOrder, IsCutAt, ats, is_up_to, is_before, is_up_to_start, is_before_stop}
use Rattle.normaliser.proofs.InsideLemmas.{up_to_below, before_below}
use Rattle.normaliser.proofs.CutLemmas.{order_drop, parted, passes_below, found_in_order, found_each}
use Rattle.normaliser.proofs.cuts.cuts_inside.Goals as goal
use Rattle.normaliser.proofs.cuts.cuts_inside.Goals.{After-partition_point-count}

-- what the two searches found
abbrev rest_of : (c : After-partition_point-count) → take (length c.args.cuts.now - c.partition_point-first.result) (drop c.partition_point-first.result c.args.cuts.now)
    ≡ drop c.partition_point-first.result c.args.cuts.now
rest_of c = take_rest c.args.cuts.now c.partition_point-first.result

low : (c : After-partition_point-count) → IsPartitionPoint (λ x. is_up_to c.args.group c.args.span.now.lo x ≡ true)
    (λ x. is_up_to c.args.group c.args.span.now.lo x ≡ false) c.args.cuts.now c.partition_point-first.result
low c =
    IsPartitionPoint-from_clause (is_up_to c.args.group c.args.span.now.lo) c.args.cuts.now c.partition_point-first.result
    c.partition_point-first.ensures.partitioned
    (parted (λ a b. cut_cmp a b ≡ Less) (is_up_to c.args.group c.args.span.now.lo)
    (passes_below c.args.group (is_up_to_start c.args.span.now.lo) (up_to_below c.args.span.now.lo)) c.args.cuts.now c.requires)
    (λ a r f k. search rules)

high : (c : After-partition_point-count) → IsPartitionPoint (λ x. is_before c.args.group c.args.span.now.hi x ≡ true)
    (λ x. is_before c.args.group c.args.span.now.hi x ≡ false) (drop c.partition_point-first.result c.args.cuts.now) c.partition_point-count.result
high c =
    let from = c.partition_point-first.result in
    let cuts : List Cut = c.args.cuts.now in
    let test : Cut → Bool = is_before c.args.group c.args.span.now.hi in
    let last : IsPartitionPoint (λ x. test x ≡ true) (λ x. test x ≡ false) (take (length cuts - from) (drop from cuts)) c.partition_point-count.result =
    IsPartitionPoint-from_clause test (take (length cuts - from) (drop from cuts)) c.partition_point-count.result
    c.partition_point-count.ensures.partitioned
    (rw (rest_of c) (parted (λ a b. cut_cmp a b ≡ Less) test
    (passes_below c.args.group (is_before_stop c.args.span.now.hi) (before_below c.args.span.now.hi)) (drop from cuts)
    (order_drop (λ a b. cut_cmp a b ≡ Less) cuts from c.requires)))
    (λ a r f k. search rules) in
    subst (λ l. IsPartitionPoint (λ x. test x ≡ true) (λ x. test x ≡ false) l c.partition_point-count.result) (rest_of c) last

size : (c : After-partition_point-count) → c.partition_point-count.result ≤ length (drop c.partition_point-first.result c.args.cuts.now)
size c = subst (λ (l : List Cut). c.partition_point-count.result ≤ length l) (rest_of c) c.partition_point-count.ensures.bound

pub returns-clause-order : goal.returns-clause-order
returns-clause-order c =
    let from = c.partition_point-first.result in
    let count = c.partition_point-count.result in
    subst (λ l. AreInOrder (ats (take count l))) (sym (rest_of c))
    (found_in_order c.args.cuts.now c.requires c.args.group c.args.span.now from count (low c) (high c) (size c))

pub returns-clause-each : goal.returns-clause-each
returns-clause-each c m =
    let from = c.partition_point-first.result in
    let count = c.partition_point-count.result in
    subst (λ l. Contains (ats (take count l)) m ↔ (IsCutAt c.args.cuts.now c.args.group m × IsInside c.args.span.now m)) (sym (rest_of c))
    (found_each c.args.cuts.now c.requires c.args.group c.args.span.now from count (low c) (high c) (size c) m)
