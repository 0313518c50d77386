use Rattle.rule_core.proofs.HomomorphismLemmas.{universal_from_below}
use Rattle.rule_core.proofs.laws.solutions_below_a_universal_one_are_universal.Goals as goal

pub returns : goal.returns
returns c = λ name rules source least target u s g. universal_from_below name rules source least target u s g
