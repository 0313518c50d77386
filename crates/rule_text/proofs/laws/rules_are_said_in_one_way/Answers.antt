use Rattle.rule_text.proofs.LexemeLemmas.{rule_says, canonical_says}
use Rattle.rule_text.proofs.laws.rules_are_said_in_one_way.Goals as goal

pub returns-clause-line : goal.returns-clause-line
returns-clause-line c = rule_says

pub returns-clause-canonical : goal.returns-clause-canonical
returns-clause-canonical c = canonical_says
