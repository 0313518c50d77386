use Rattle.term_core.proofs.OrderLemmas.{unknown_cmp-total, unknown_cmp-IsAntisymmetric}
use Rattle.term_core.proofs.laws.unknowns_have_one_order.Goals as goal

pub returns-clause-total : goal.returns-clause-total
returns-clause-total c = unknown_cmp-total

pub returns-clause-apart : goal.returns-clause-apart
returns-clause-apart c = unknown_cmp-IsAntisymmetric
