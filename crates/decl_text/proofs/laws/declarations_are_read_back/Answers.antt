use Rattle.decl_text.proofs.PrintedLemmas.{declaration_written}
use Rattle.decl_text.proofs.laws.declarations_are_read_back.Goals as goal

pub returns : goal.returns
returns c before rest rules place relation valid = (declaration_written rules place relation valid).leads before rest tt
