use Rattle.std.specs.Ordering.{nat_cmp}
use Rattle.std.specs.Cmp.Lexicographic.{slice_cmp}
use Rattle.std.proofs.lemmas.Cmp.{nat_list_cmp_total, lists_total}
use Rattle.rule_core.specs.Order.{row_cmp}
use Rattle.rule_core.proofs.OrderLemmas.{row_cmp-total}
use Rattle.rule_core.proofs.CoalescedLemmas.{same_coalesced}
use Rattle.rule_core.proofs.laws.two_coalesced_lists_with_one_cover_are_equal.Goals as goal

pub returns : goal.returns
returns c = record {
  terms = λ a b p q h. same_coalesced (row_cmp (slice_cmp nat_cmp)) (row_cmp-total (slice_cmp nat_cmp) nat_list_cmp_total) a b p q
      (λ r t. (h r t).0) (λ r t. (h r t).1);
  texts = λ a b p q h. same_coalesced (slice_cmp (slice_cmp nat_cmp)) (lists_total nat_list_cmp_total) a b p q (λ r t. (h r t).0)
      (λ r t. (h r t).1);
}
