use Rattle.rule_text.proofs.WrittenLemmas.{rule_written}
use Rattle.rule_text.proofs.laws.rules_are_read_back.Goals as goal

pub returns : goal.returns
returns c before rest rules pool rule valid is utf8 texts = (rule_written rules pool rule valid is utf8 texts).leads before rest tt
