use Rattle.decl_text.proofs.TestLemmas.{token_says, token_in}
use Rattle.decl_text.proofs.parts.read_token.Goals as goal

pub returns-clause-says : goal.returns-clause-says
returns-clause-says c = token_says c.args.bytes.now c.args.from c.in_ok-next_token.field-0 c.in_ok-next_token.ensures.token

pub returns-clause-within : goal.returns-clause-within
returns-clause-within c = (token_in c.args.bytes.now c.args.from c.in_ok-next_token.field-0 c.requires c.in_ok-next_token.ensures.token).1
