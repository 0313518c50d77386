use Rattle.decl_text.proofs.AtLemmas.{at_once, fault_at_once, at_apart, at_or_fault}
use Rattle.decl_text.proofs.laws.a_place_begins_one_token_or_has_one_fault.Goals as goal

pub returns-clause-token : goal.returns-clause-token
returns-clause-token c = at_once

pub returns-clause-fault : goal.returns-clause-fault
returns-clause-fault c = fault_at_once

pub returns-clause-apart : goal.returns-clause-apart
returns-clause-apart c = at_apart

pub returns-clause-either : goal.returns-clause-either
returns-clause-either c = at_or_fault
