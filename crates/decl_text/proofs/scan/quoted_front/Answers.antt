use Rattle.std.proofs.Common.{◌++◌, ◌∷◌, [], ◌∙◌, sym, arith}
use Rattle.std.proofs.lemmas.List.{take_rest}
use Rattle.decl_text.proofs.QuoteLemmas.{in_quotes_some}
use Rattle.decl_text.proofs.InsideLemmas.{Inside-step, Inside-close}
use Rattle.decl_text.proofs.scan.quoted_front.Goals as goal

pub loop-c-smaller : goal.loop-c-smaller
loop-c-smaller c =
    let some = in_quotes_some c.in-Character.c in
    let next = Inside-step c.loop-c.invariant.0 c.args.bytes.now c.loop-c.len c.in-Character.c c.in-Character.ensures.1.0 c.loop-c.invariant.1
    c.in-Character.ensures.0 (sym (take_rest c.args.bytes.now c.loop-c.len) ∙ c.in-Character.ensures.1.1) in
    omega (arith, next.within)

pub loop-c-preserved : goal.loop-c-preserved
loop-c-preserved c = (
  c.loop-c.invariant.0 ++ c.in-Character.c ∷ [],
  rw c.quoted_len-len.ensures (Inside-step c.loop-c.invariant.0 c.args.bytes.now c.loop-c.len c.in-Character.c c.in-Character.ensures.1.0
      c.loop-c.invariant.1 c.in-Character.ensures.0 (sym (take_rest c.args.bytes.now c.loop-c.len) ∙ c.in-Character.ensures.1.1)),
)

pub returns-in-Close-clause-text : goal.returns-in-Close-clause-text
returns-in-Close-clause-text c =
    Inside-close c.loop-c.invariant.0 c.args.bytes.now c.loop-c.len c.in-Close.ensures.0 c.loop-c.invariant.1
    (sym (take_rest c.args.bytes.now c.loop-c.len) ∙ c.in-Close.ensures.1)
