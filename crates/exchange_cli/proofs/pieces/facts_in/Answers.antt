-- The pieces of a relation are those between two places.
use Rattle.std.proofs.Common.{◌≡◌, ◌≤◌, ◌-◌, true, false, List, length, take, drop, sym, subst, rules}
use Rattle.std.specs.List.Sorted.{IsPartitionPoint}
use Rattle.std.proofs.lemmas.List.{take_rest}
use Rattle.std.proofs.lemmas.List.Sorted.{IsPartitionPoint-from_clause}
use Rattle.fact_table.specs.declared.fact.Fact.{Fact}
use Rattle.exchange_cli.specs.Pieces.{of_relation}
use Rattle.exchange_cli.proofs.CuttingLemmas.{is_before, is_of, parted_before, parted_of, those_between}
use Rattle.exchange_cli.proofs.pieces.facts_in.Goals as goal

pub returns : goal.returns
returns c =
    let pieces : List Fact = c.args.pieces.now in
    let from = c.partition_point-first.result in
    let count = c.partition_point-count.result in
    let relation = c.args.relation in
    let rest = take_rest pieces from in
    let first = IsPartitionPoint-from_clause (is_before relation) pieces from c.partition_point-first.ensures.partitioned
    (parted_before relation pieces c.requires) (λ a r q k. search rules) in
    let here : IsPartitionPoint (λ f. is_of relation f ≡ true) (λ f. is_of relation f ≡ false)
    (take (length pieces - from) (drop from pieces)) count =
    IsPartitionPoint-from_clause (is_of relation) (take (length pieces - from) (drop from pieces)) count
    c.partition_point-count.ensures.partitioned
    (rw rest (parted_of relation pieces c.requires from first)) (λ a r q k. search rules) in
    let last = subst (λ l. IsPartitionPoint (λ f. is_of relation f ≡ true) (λ f. is_of relation f ≡ false) l count) rest here in
    let within = subst (λ (l : List Fact). count ≤ length l) rest c.partition_point-count.ensures.bound in
    subst (λ l. take count l ≡ of_relation relation pieces) (sym rest)
    (those_between relation pieces c.requires from first count within last)
