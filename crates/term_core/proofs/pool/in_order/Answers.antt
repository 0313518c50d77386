use Rattle.std.proofs.Common.{length, string_bytes, ap, arith}
use Rattle.std.specs.Str.{bytes_eq}
use Rattle.std.proofs.lemmas.List.{length-map}
use Rattle.std.proofs.lemmas.Map.Keys.{IsDistinct-IsPermutation}
use Rattle.term_core.proofs.PoolLemmas.{bytes_eq-flips, same_texts, order_from_sorted}
use Rattle.term_core.proofs.pool.in_order.Goals as goal

pub returns-clause-has : goal.returns-clause-has
returns-clause-has c = rw (← c.in_ok-list.ensures.all)
    (λ t. same_texts (λ k. string_bytes k) c.in_ok-list.list.items c.sort_unstable.new.self.items c.sort_unstable.ensures.permutation t)

pub returns-clause-once : goal.returns-clause-once
returns-clause-once c =
    IsDistinct-IsPermutation (λ a b. bytes_eq (string_bytes a) (string_bytes b)) (λ a b. bytes_eq-flips (string_bytes a) (string_bytes b))
    c.in_ok-list.list.items c.sort_unstable.new.self.items c.sort_unstable.ensures.permutation c.in_ok-list.ensures.once

pub returns-clause-pool : goal.returns-clause-pool
returns-clause-pool c = record {
  order = order_from_sorted (λ k. string_bytes k) c.sort_unstable.new.self.items c.sort_unstable.ensures.sorted (returns-clause-once c);
  few = omega (arith, length-map c.sort_unstable.new.self.items (λ k. string_bytes k), c.sort_unstable.ensures.len, ap length c.in_ok-list.ensures.all, c.requires);
}
