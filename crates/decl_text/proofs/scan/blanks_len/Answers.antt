use Rattle.std.proofs.Common.{IsTrue, arith, sym, ◌∙◌}
use Rattle.std.proofs.lemmas.List.Elements.{All-more}
use Rattle.decl_text.specs.Tokens.{is_blank}
use Rattle.decl_text.proofs.scan.blanks_len.Goals as goal

pub loop-len-preserved : goal.loop-len-preserved
loop-len-preserved c = record {
  within = omega arith;
  front = All-more (λ b. IsTrue (is_blank b)) c.args.bytes.now c.loop-len.len 0 c.loop-len-test.true c.loop-len.invariant.front
      (sym c.is_blank.ensures ∙ c.if-is_blank.true);
}
