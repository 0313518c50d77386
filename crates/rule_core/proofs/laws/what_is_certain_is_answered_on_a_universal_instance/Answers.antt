use Rattle.rule_core.proofs.AnswerLemmas.{certain_is_answered}
use Rattle.rule_core.proofs.laws.what_is_certain_is_answered_on_a_universal_instance.Goals as goal

pub returns : goal.returns
returns c = record { numbers = certain_is_answered; texts = certain_is_answered }
