use Rattle.std.proofs.Common.{true, subst, sym, ◌∙◌}
use Rattle.std.proofs.lemmas.Bool.{true≢false}
use Rattle.std.specs.Prelude.{◌↔◌, IsTrue}
use Rattle.rule_core.specs.Mapping.{RuleSet, rules_of}
use Rattle.rule_core.specs.Adding.{IsNewRuleName}
use Rattle.rule_core.proofs.ValidityLemmas.{new_rule_name}
use Rattle.rule_core.proofs.checked.Rules.is_new_rule_name.Goals as goal

pub returns-then-is_new_tgd_name : goal.returns-then-is_new_tgd_name
returns-then-is_new_tgd_name c =
    let here = c.self.inside in
    let m : RuleSet = rules_of here.sources here.targets here.tgds here.egds here.queries in
    let tgds = rw (c.as_slice.ensures) at c.is_new_tgd_name.ensures in
    let egds = rw (c.as_slice-then-is_new_tgd_name.ensures) at c.is_new_egd_name.ensures in
    let new = new_rule_name m c.args.name.now in
    subst (λ (r : RuleSet). IsTrue c.is_new_egd_name.result ↔ IsNewRuleName r c.args.name.now) c.self.view_is (
      λ t. new.1 (tgds.0 c.if-is_new_tgd_name.true, egds.0 t),
      λ n. egds.1 (new.0 n).1,
    )

pub returns-else-is_new_tgd_name : goal.returns-else-is_new_tgd_name
returns-else-is_new_tgd_name c =
    let here = c.self.inside in
    let m : RuleSet = rules_of here.sources here.targets here.tgds here.egds here.queries in
    let tgds = rw (c.as_slice.ensures) at c.is_new_tgd_name.ensures in
    let new = new_rule_name m c.args.name.now in
    subst (λ (r : RuleSet). IsTrue c.is_new_tgd_name.result ↔ IsNewRuleName r c.args.name.now) c.self.view_is (
      λ t. absurd (true≢false (sym t ∙ c.if-is_new_tgd_name.false)),
      λ n. tgds.1 (new.0 n).0,
    )
