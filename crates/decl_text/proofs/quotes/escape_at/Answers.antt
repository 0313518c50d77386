use Rattle.std.proofs.Common.{refl, arith}
use Rattle.std.proofs.lemmas.Bool.Decides.{nat_tests}
use Rattle.decl_text.proofs.QuoteLemmas.{escape_letter, no_escape_in_nothing}
use Rattle.decl_text.proofs.quotes.escape_at.Goals as goal

pub returns-in_default : goal.returns-in_default
returns-in_default c = (refl, λ d more e. no_escape_in_nothing c.args.rest.now d more (omega arith) e)

pub returns-in_default-letter : goal.returns-in_default-letter
returns-in_default-letter c = (refl, λ d more e. let letter = escape_letter c.args.rest.now d more e in grind (arith, nat_tests))
