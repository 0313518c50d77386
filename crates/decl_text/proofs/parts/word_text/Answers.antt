use Rattle.decl_text.proofs.TestLemmas.{IsWord-IsUtf8}
use Rattle.decl_text.proofs.parts.word_text.Goals as goal

pub unreachable-requires : goal.unreachable-requires
unreachable-requires c = c.in-Err.ensures.cases.0 (IsWord-IsUtf8 c.args.word.now c.requires)
