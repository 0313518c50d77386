use Rattle.rule_text.proofs.ConstantLemmas.{rule_texts, rule_texts_short, rule_constants_known}
use Rattle.rule_text.proofs.laws.constants_are_the_quoted_texts.Goals as goal

pub returns-clause-same : goal.returns-clause-same
returns-clause-same c = rule_texts

pub returns-clause-short : goal.returns-clause-short
returns-clause-short c = rule_texts_short

pub returns-clause-known : goal.returns-clause-known
returns-clause-known c = rule_constants_known
