use Rattle.decl_text.proofs.EitherLemmas.{token_or_fault}
use Rattle.decl_text.proofs.NextLemmas.{next_token_once, next_fault_once, next_apart}
use Rattle.decl_text.proofs.laws.one_token_or_one_fault_stands_next.Goals as goal

pub returns-clause-token : goal.returns-clause-token
returns-clause-token c = next_token_once

pub returns-clause-fault : goal.returns-clause-fault
returns-clause-fault c = next_fault_once

pub returns-clause-apart : goal.returns-clause-apart
returns-clause-apart c = next_apart

pub returns-clause-either : goal.returns-clause-either
returns-clause-either c = token_or_fault
