use Rattle.rule_core.specs.Firing.{frontier_of}
use Rattle.rule_core.proofs.FiringLemmas.{frontier_is, one_frontier}
use Rattle.rule_core.proofs.laws.a_tgd_has_one_frontier.Goals as goal

pub returns : goal.returns
returns c = record {
  computed = frontier_is;
  only = λ tgd variables h. one_frontier tgd variables (frontier_of tgd) h (frontier_is tgd);
}
