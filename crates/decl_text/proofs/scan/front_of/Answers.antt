use Rattle.decl_text.proofs.LetterLemmas.{letter_of}
use Rattle.decl_text.proofs.ScanLemmas.{IsWord-take}
use Rattle.decl_text.proofs.scan.front_of.Goals as goal

pub returns-then-is_letter-clause-token : goal.returns-then-is_letter-clause-token
returns-then-is_letter-clause-token c =
    (IsWord-take c.args.bytes.now c.name_len.result (letter_of _ (c.is_letter.ensures.0 c.if-is_letter.true)) c.name_len.ensures.name c.name_len.ensures.whole, c.name_len.ensures.whole)
