use Rattle.decl_text.proofs.NextLemmas.{quoted_token, quoted_read, quoted_printed}
use Rattle.decl_text.proofs.laws.quoted_texts_are_read_back.Goals as goal

pub returns-clause-token : goal.returns-clause-token
returns-clause-token c = quoted_token

pub returns-clause-read : goal.returns-clause-read
returns-clause-read c = quoted_read

pub returns-clause-printed : goal.returns-clause-printed
returns-clause-printed c = quoted_printed
