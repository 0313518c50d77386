use Rattle.rule_core.specs.Mapping.{RuleSet, rules_of}
use Rattle.rule_core.specs.Rebase.{number_in}
use Rattle.rule_core.proofs.RebaseLemmas.{renumbered_valid}
use Rattle.rule_core.proofs.checked.Rules.rebase.Goals as goal

pub invariant_of-result : goal.invariant_of-result
invariant_of-result c =
    let here = c.self.inside in
    let m : RuleSet = rules_of here.sources here.targets here.tgds here.egds here.queries in
    rw (
      c.in_ok-same_relations.ensures,
      c.as_slice.ensures,
      c.in_ok-same_relations-2.ensures,
      c.as_slice-2.ensures,
      c.in_ok-rebased_tgds.ensures,
      c.as_slice-3.ensures,
      c.in_ok-rebased_egds.ensures,
      c.as_slice-4.ensures,
      c.in_ok-rebased_queries.ensures,
      c.as_slice-5.ensures,
    ) (renumbered_valid (number_in c.as_slice-ids.result.now) m c.self.invariant)
