use Rattle.mapping_core.proofs.OneMapping.{mapping_once, fault_once, mapping_or_fault}
use Rattle.mapping_core.proofs.OutcomeLemmas.{either}
use Rattle.mapping_core.proofs.laws.a_mapping_is_one.Goals as goal

pub returns-clause-one : goal.returns-clause-one
returns-clause-one c = mapping_once

pub returns-clause-fault : goal.returns-clause-fault
returns-clause-fault c = fault_once

pub returns-clause-apart : goal.returns-clause-apart
returns-clause-apart c = mapping_or_fault

pub returns-clause-either : goal.returns-clause-either
returns-clause-either c = either
