use Rattle.term_core.proofs.OrderLemmas.{term_cmp-total, term_cmp-IsAntisymmetric}
use Rattle.term_core.proofs.laws.terms_have_one_order.Goals as goal

pub returns-clause-total : goal.returns-clause-total
returns-clause-total c = term_cmp-total

pub returns-clause-apart : goal.returns-clause-apart
returns-clause-apart c = term_cmp-IsAntisymmetric
