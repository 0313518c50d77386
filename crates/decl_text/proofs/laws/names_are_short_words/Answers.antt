use Rattle.decl_text.proofs.PassLemmas.{word_is_name}
use Rattle.decl_text.proofs.WrittenLemmas.{word_of_name}
use Rattle.decl_text.proofs.laws.names_are_short_words.Goals as goal

pub returns : goal.returns
returns c text = (
  λ name. (word_of_name text name, name.most, name.word),
  λ word. word_is_name text word.0 word.2 word.1,
)
