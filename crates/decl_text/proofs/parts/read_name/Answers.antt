use Rattle.std.proofs.Common.{◌≡◌, rules}
use Rattle.decl_text.specs.declared.token.Kind.TheVariants.{Name}
use Rattle.decl_text.proofs.TestLemmas.{name_is_word}
use Rattle.decl_text.proofs.parts.read_name.Goals as goal

pub word_text-requires : goal.word_text-requires
word_text-requires c =
    let kind : c.in_ok-token.token.kind ≡ Name = search rules in
    name_is_word c.args.bytes.now c.args.from c.in_ok-token.token c.in_ok-token.ensures.token kind
