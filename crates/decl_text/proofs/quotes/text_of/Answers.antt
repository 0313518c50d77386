use Rattle.std.proofs.Common.{◌++◌, ◌∷◌, [], ◌∙◌, sym, subst, arith}
use Rattle.std.proofs.lemmas.List.{take_rest}
use Rattle.decl_text.proofs.QuoteLemmas.{in_quotes_some, Ends, Ends-close, Ends-stop}
use Rattle.decl_text.proofs.InsideLemmas.{Inside-start, Inside-step, Inside-whole, text_more}
use Rattle.decl_text.proofs.quotes.text_of.Goals as goal

pub loop-c-smaller : goal.loop-c-smaller
loop-c-smaller c =
    let some = in_quotes_some c.in-Character.c in
    let next = Inside-step c.loop-c.invariant.0 c.args.quoted.now c.loop-c.len c.in-Character.c c.in-Character.ensures.1.0 c.loop-c.invariant.1
    c.in-Character.ensures.0 (sym (take_rest c.args.quoted.now c.loop-c.len) ∙ c.in-Character.ensures.1.1) in
    omega (arith, next.within)

pub loop-c-init : goal.loop-c-init
loop-c-init c = ([], Inside-start c.args.quoted.now _ c.requires.1.1.bytes_are, c.in_ok-text.ensures)

pub loop-c-preserved : goal.loop-c-preserved
loop-c-preserved c = (
  c.loop-c.invariant.0 ++ c.in-Character.c ∷ [],
  rw c.quoted_len-len.ensures (Inside-step c.loop-c.invariant.0 c.args.quoted.now c.loop-c.len c.in-Character.c c.in-Character.ensures.1.0
      c.loop-c.invariant.1 c.in-Character.ensures.0 (sym (take_rest c.args.quoted.now c.loop-c.len) ∙ c.in-Character.ensures.1.1)),
  c.in_ok-push_char-in-Character.ensures ∙ text_more c.loop-c.invariant.0 c.loop-c.text c.in-Character.c c.loop-c.invariant.2,
)

pub returns-in-Close : goal.returns-in-Close
returns-in-Close c =
    Inside-whole c.loop-c.invariant.0 c.args.quoted.now c.loop-c.len c.loop-c.text c.requires.0 c.loop-c.invariant.1
    (subst Ends (sym c.in-Close.ensures.1 ∙ take_rest c.args.quoted.now c.loop-c.len) (Ends-close c.in-Close.ensures.0)) c.requires.1 c.loop-c.invariant.2

pub returns-in-Stop : goal.returns-in-Stop
returns-in-Stop c =
    Inside-whole c.loop-c.invariant.0 c.args.quoted.now c.loop-c.len c.loop-c.text c.requires.0 c.loop-c.invariant.1
    (subst Ends (take_rest c.args.quoted.now c.loop-c.len) (Ends-stop _ _ c.in-Stop.ensures)) c.requires.1 c.loop-c.invariant.2
