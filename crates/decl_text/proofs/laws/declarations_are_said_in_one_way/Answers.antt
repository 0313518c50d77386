use Rattle.decl_text.proofs.LexemeLemmas.{declaration_says, canonical_says}
use Rattle.decl_text.proofs.laws.declarations_are_said_in_one_way.Goals as goal

pub returns-clause-line : goal.returns-clause-line
returns-clause-line c = declaration_says

pub returns-clause-canonical : goal.returns-clause-canonical
returns-clause-canonical c = canonical_says
