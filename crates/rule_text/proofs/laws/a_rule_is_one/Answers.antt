use Rattle.rule_text.proofs.OutcomeLemmas.{rule_or_first_fault}
use Rattle.rule_text.proofs.OneOutcome.{rule_decided, rule_once, rule_fault_once, rule_or_fault}
use Rattle.rule_text.proofs.laws.a_rule_is_one.Goals as goal

pub returns-clause-decided : goal.returns-clause-decided
returns-clause-decided c = rule_decided

pub returns-clause-one : goal.returns-clause-one
returns-clause-one c = rule_once

pub returns-clause-fault : goal.returns-clause-fault
returns-clause-fault c = rule_fault_once

pub returns-clause-apart : goal.returns-clause-apart
returns-clause-apart c = rule_or_fault

pub returns-clause-either : goal.returns-clause-either
returns-clause-either c = rule_or_first_fault
