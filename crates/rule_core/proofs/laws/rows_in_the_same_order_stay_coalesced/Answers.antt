use Rattle.std.specs.Ordering.{nat_cmp}
use Rattle.std.specs.FinMap.{slice_cmp-IsAntisymmetric}
use Rattle.std.specs.Cmp.Lexicographic.{slice_cmp}
use Rattle.std.proofs.lemmas.Cmp.{nat_list_cmp_total}
use Rattle.term_core.specs.Order.{term_cmp}
use Rattle.term_core.proofs.OrderLemmas.{term_cmp-IsAntisymmetric}
use Rattle.rule_core.specs.Order.{stored_cmp}
use Rattle.rule_core.proofs.OrderLemmas.{row_cmp-total}
use Rattle.rule_core.proofs.RowOrderLemmas.{told-coalesced}
use Rattle.rule_core.proofs.laws.rows_in_the_same_order_stay_coalesced.Goals as goal

pub returns : goal.returns
returns c = λ told list same good.
    told-coalesced (slice_cmp term_cmp) stored_cmp (slice_cmp-IsAntisymmetric term_cmp-IsAntisymmetric)
    (row_cmp-total (slice_cmp nat_cmp) nat_list_cmp_total) told list same good
