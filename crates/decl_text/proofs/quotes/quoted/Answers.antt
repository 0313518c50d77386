use Rattle.std.proofs.Common.{rules}
use Rattle.decl_text.proofs.ScanLemmas.{token_is_quoted, token_within}
use Rattle.decl_text.proofs.quotes.quoted.Goals as goal

pub slice_bounds-text_of-end : goal.slice_bounds-text_of-end
slice_bounds-text_of-end c =
    let within = token_within c.args.bytes.now c.requires.read.0 c.args.token.now c.requires.read.1 c.requires.kind in
    search (rules, within.1)

pub text_of-requires : goal.text_of-requires
text_of-requires c = token_is_quoted c.args.bytes.now c.requires.read.0 c.args.token.now c.requires.read.1 c.requires.kind
