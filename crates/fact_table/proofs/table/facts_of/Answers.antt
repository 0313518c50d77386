use Rattle.std.proofs.Common.{◌≡◌, ◌≤◌, ◌-◌, true, false, List, length, take, drop, sym, subst, rules, Contains}
use Rattle.std.specs.List.Sorted.{IsPartitionPoint}
use Rattle.std.proofs.lemmas.List.{take_rest}
use Rattle.std.proofs.lemmas.List.Sorted.{IsPartitionPoint-from_clause}
use Rattle.fact_table.specs.declared.fact.Fact.{Fact}
use Rattle.fact_table.proofs.OrderLemmas.{is_below, is_here, parted_below, parted_here, kept_has_key, key_is_kept}
use Rattle.fact_table.proofs.table.facts_of.Goals as goal

pub returns : goal.returns
returns c =
    let facts : List Fact = c.args.facts.now in
    let from = c.partition_point-first.result in
    let count = c.partition_point-end.result in
    let relation = c.args.relation in
    let row = c.args.row.now in
    let rest = take_rest facts from in
    let first = IsPartitionPoint-from_clause (is_below relation row) facts from c.partition_point-first.ensures.partitioned
    (parted_below relation row facts c.requires) (λ a r q k. search rules) in
    let here : IsPartitionPoint (λ f. is_here relation row f ≡ true) (λ f. is_here relation row f ≡ false)
    (take (length facts - from) (drop from facts)) count =
    IsPartitionPoint-from_clause (is_here relation row) (take (length facts - from) (drop from facts)) count
    c.partition_point-end.ensures.partitioned
    (rw rest (parted_here relation row facts c.requires from first.1)) (λ a r q k. search rules) in
    let last = subst (λ l. IsPartitionPoint (λ f. is_here relation row f ≡ true) (λ f. is_here relation row f ≡ false) l count) rest here in
    let within = subst (λ (l : List Fact). count ≤ length l) rest c.partition_point-end.ensures.bound in
    λ fact. (
      λ d. kept_has_key relation row facts c.requires from count first last within fact
          (subst (λ l. Contains (take count l) fact) rest d),
      λ d. subst (λ l. Contains (take count l) fact) (sym rest)
          (key_is_kept relation row facts c.requires from count first last within fact d.0 d.1 d.2),
    )
