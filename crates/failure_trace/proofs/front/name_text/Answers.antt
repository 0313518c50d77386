use Rattle.decl_text.proofs.TestLemmas.{IsWord-IsUtf8}
use Rattle.decl_text.proofs.WrittenLemmas.{word_of_name}
use Rattle.failure_trace.proofs.front.name_text.Goals as goal

pub unreachable-requires : goal.unreachable-requires
unreachable-requires c = c.in-Err.ensures.cases.0 (IsWord-IsUtf8 c.args.name.now (word_of_name c.args.name.now c.requires))
