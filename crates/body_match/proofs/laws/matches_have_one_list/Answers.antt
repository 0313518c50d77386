use Rattle.std.specs.declared.cmp.Ordering.{Ordering}
use Rattle.std.specs.Cmp.{IsTotalOrder}
use Rattle.std.specs.Cmp.Lexicographic.{slice_cmp}
use Rattle.std.specs.Ordering.{nat_cmp}
use Rattle.std.proofs.lemmas.Cmp.{on_total, lists_total, nat_cmp_total}
use Rattle.rule_core.proofs.ListLemmas.{same_strict_lists}
use Rattle.body_match.specs.declared.found.Match.{Match}
use Rattle.body_match.proofs.laws.matches_have_one_list.Goals as goal

abbrev rows_cmp : Match → Match → Ordering
rows_cmp a b = slice_cmp nat_cmp a.rows b.rows

rows_cmp-total : IsTotalOrder rows_cmp
rows_cmp-total = on_total (λ (m : Match). m.rows) (lists_total nat_cmp_total)

pub returns : goal.returns
returns c = λ body vars rows a b in_a in_b order_a order_b.
    same_strict_lists rows_cmp rows_cmp-total a b order_a order_b
    (λ m d. (in_b m).1 ((in_a m).0 d)) (λ m d. (in_a m).1 ((in_b m).0 d))
