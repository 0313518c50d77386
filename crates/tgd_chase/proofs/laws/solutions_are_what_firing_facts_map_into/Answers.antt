-- The order of numbers and that of texts tell any two constants apart.
use Rattle.std.proofs.Common.{[]}
use Rattle.std.specs.Ordering.{nat_cmp}
use Rattle.std.specs.FinMap.{nat_cmp-IsAntisymmetric, slice_cmp-IsAntisymmetric}
use Rattle.std.specs.Cmp.Lexicographic.{slice_cmp}
use Rattle.std.proofs.lemmas.Cmp.{nat_list_cmp_total}
use Rattle.term_core.specs.Order.{id_cmp}
use Rattle.term_core.proofs.OrderLemmas.{id_cmp-total, id_cmp-IsAntisymmetric}
use Rattle.tgd_chase.proofs.SolutionLemmas.{solutions_are}
use Rattle.tgd_chase.proofs.laws.solutions_are_what_firing_facts_map_into.Goals as goal

pub returns-clause-numbers : goal.returns-clause-numbers
returns-clause-numbers c = λ rules valid source target ground.
    solutions_are (λ c. c) id_cmp id_cmp-total id_cmp-IsAntisymmetric (record { 0 = 0 }) rules valid source target ground

pub returns-clause-texts : goal.returns-clause-texts
returns-clause-texts c = λ name rules valid source target ground.
    solutions_are name (slice_cmp nat_cmp) nat_list_cmp_total (slice_cmp-IsAntisymmetric nat_cmp-IsAntisymmetric) []
    rules valid source target ground
