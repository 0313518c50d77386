use Rattle.decl_text.proofs.FitLemmas.{declared_unquoted}
use Rattle.decl_text.proofs.laws.declarations_quote_nothing.Goals as goal

pub returns : goal.returns
returns c = declared_unquoted
