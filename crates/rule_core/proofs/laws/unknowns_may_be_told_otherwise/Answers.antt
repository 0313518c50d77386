use Rattle.rule_core.specs.Laws.{MatchesAreRetold, EgdsAreRetold, AnswersAreRetold}
use Rattle.rule_core.proofs.ToldLemmas.{universal_retold, matches_retold, matches_come_back, same_egd_retold}
use Rattle.rule_core.proofs.AnswerLemmas.{answers_retold}
use Rattle.rule_core.proofs.laws.unknowns_may_be_told_otherwise.Goals as goal

matches : {C : Type 0} → MatchesAreRetold C
matches name binding atoms instance told back apart =
    (matches_retold told back instance apart name binding atoms, matches_come_back told back instance apart name binding atoms)

egds : {C : Type 0} → EgdsAreRetold C
egds name egd instance told back left right apart = same_egd_retold told back instance apart name egd left right

answers : {C : Type 0} → AnswersAreRetold C
answers name query instance told back constants apart = answers_retold told back instance apart name query constants

pub returns : goal.returns
returns c = record {
  universal = λ name rules valid source target told back apart stays universal.
      universal_retold told back target apart source stays name rules valid universal;
  number_matches = matches;
  text_matches = matches;
  number_egds = egds;
  text_egds = egds;
  number_answers = answers;
  text_answers = answers;
}
