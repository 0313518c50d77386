-- A rule that is added to a mapping, and when a rule is valid for one.
use Rattle.rule_core.specs.Mapping.{RuleSet}
use Rattle.rule_core.specs.Adding.{with_tgd, with_egd, with_query}
use Rattle.rule_core.specs.Validity.{IsTgd, IsEgd, IsQuery}
use Rattle.rule_text.specs.declared.rule.Rule.{Rule}
use Rattle.rule_text.specs.declared.rule.Rule.TheVariants.{Tgd, Egd, Query}

-- the mapping with one more rule as the last of its kind
abbrev pub with_rule : RuleSet → Rule → RuleSet
with_rule rules (Tgd tgd) = with_tgd rules tgd
with_rule rules (Egd egd) = with_egd rules egd
with_rule rules (Query query) = with_query rules query

-- the rule is valid over the relations of the mapping
abbrev pub IsRuleOf : RuleSet → Rule → Type 0
IsRuleOf rules (Tgd tgd) = IsTgd rules.sources rules.targets tgd
IsRuleOf rules (Egd egd) = IsEgd rules.targets egd
IsRuleOf rules (Query query) = IsQuery rules.targets query
