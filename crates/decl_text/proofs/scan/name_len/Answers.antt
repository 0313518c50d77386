use Rattle.std.proofs.Common.{IsTrue, arith}
use Rattle.std.proofs.lemmas.List.Elements.{All-more}
use Rattle.decl_text.specs.Tokens.{is_name_byte}
use Rattle.decl_text.proofs.LetterLemmas.{name_byte_of}
use Rattle.decl_text.proofs.scan.name_len.Goals as goal

pub loop-len-preserved : goal.loop-len-preserved
loop-len-preserved c = record {
  within = omega arith;
  front = All-more (λ b. IsTrue (is_name_byte b)) c.args.bytes.now c.loop-len.len 0 c.loop-len-test.true c.loop-len.invariant.front
      (name_byte_of _ (c.is_name_byte.ensures.0 c.if-is_name_byte.true));
}
