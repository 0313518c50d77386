use Rattle.decl_text.proofs.DeclaredLemmas.{declaration_or_first_fault}
use Rattle.decl_text.proofs.DecidedLemmas.{declaration_decided, declaration_once, declaration_fault_once, declaration_or_fault}
use Rattle.decl_text.proofs.laws.a_declaration_is_one.Goals as goal

pub returns-clause-decided : goal.returns-clause-decided
returns-clause-decided c = declaration_decided

pub returns-clause-one : goal.returns-clause-one
returns-clause-one c = declaration_once

pub returns-clause-fault : goal.returns-clause-fault
returns-clause-fault c = declaration_fault_once

pub returns-clause-apart : goal.returns-clause-apart
returns-clause-apart c = declaration_or_fault

pub returns-clause-either : goal.returns-clause-either
returns-clause-either c = declaration_or_first_fault
