-- A rule's canonical line leads to the rule wherever it stands.
use Rattle.std.proofs.Common.{ℕ, List, All, IsUtf8}
use Rattle.term_core.specs.Pool.{IsPool}
use Rattle.rule_core.specs.Mapping.{RuleSet}
use Rattle.rule_core.specs.Validity.{IsValid}
use Rattle.decl_text.proofs.WrittenLemmas.{Always, Written}
use Rattle.rule_text.specs.declared.rule.Rule.{Rule}
use Rattle.rule_text.specs.declared.rule.Rule.TheVariants.{Tgd, Egd, Query}
use Rattle.rule_text.specs.Adding.{with_rule}
use Rattle.rule_text.specs.Canonical.{rule_text}
use Rattle.rule_text.specs.Constants.{HasTexts}
use Rattle.rule_text.specs.RuleLine.{begins, stated, rule_tests}
use Rattle.rule_text.proofs.AtomLemmas.{IsShortText}
use Rattle.rule_text.proofs.TgdLemmas.{tgd_written}
use Rattle.rule_text.proofs.EgdLemmas.{egd_written}
use Rattle.rule_text.proofs.QueryLemmas.{query_written}

pub rule_written : (rules : RuleSet) (pool : List (List ℕ)) (rule : Rule) → IsValid (with_rule rules rule) → IsPool pool → All IsUtf8 pool
    → HasTexts pool IsShortText rule → Written (rule_tests rules pool) Always begins (rule_text rules pool rule) (stated rule)
rule_written rules pool (Tgd tgd) valid is utf8 texts = tgd_written rules pool tgd valid is utf8 texts.0 texts.1
rule_written rules pool (Egd egd) valid is utf8 texts = egd_written rules pool egd valid is utf8 texts
rule_written rules pool (Query query) valid is utf8 texts = query_written rules pool query valid is utf8 texts
