use Rattle.fact_table.proofs.OrderLemmas.{fact_cmp-total, fact_cmp-IsAntisymmetric}
use Rattle.fact_table.proofs.laws.facts_have_one_order.Goals as goal

pub returns-clause-total : goal.returns-clause-total
returns-clause-total c = fact_cmp-total

pub returns-clause-apart : goal.returns-clause-apart
returns-clause-apart c = fact_cmp-IsAntisymmetric
