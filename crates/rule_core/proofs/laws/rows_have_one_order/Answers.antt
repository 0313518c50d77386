use Rattle.std.specs.Ordering.{nat_cmp}
use Rattle.std.specs.FinMap.{nat_cmp-IsAntisymmetric, slice_cmp-IsAntisymmetric}
use Rattle.std.specs.Cmp.Lexicographic.{slice_cmp}
use Rattle.std.proofs.lemmas.Cmp.{nat_list_cmp_total}
use Rattle.rule_core.proofs.OrderLemmas.{row_cmp-total, row_cmp-IsAntisymmetric}
use Rattle.rule_core.proofs.laws.rows_have_one_order.Goals as goal

pub returns : goal.returns
returns c = record {
  total = row_cmp-total (slice_cmp nat_cmp) nat_list_cmp_total;
  apart = λ a b e. row_cmp-IsAntisymmetric (slice_cmp nat_cmp) (slice_cmp-IsAntisymmetric nat_cmp-IsAntisymmetric) a b e;
}
