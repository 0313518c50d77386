use Rattle.std.proofs.Common.{◌≡◌, Err, rules}
use Rattle.decl_text.specs.Declaration.{begins, declaration_tests}
use Rattle.decl_text.proofs.TestLemmas.{Fails-own}
use Rattle.decl_text.proofs.DeclarationLemmas.{IfFault-later, declaration_wants, source_goes, target_goes, side_fails}
use Rattle.decl_text.proofs.declaration.read_side.Goals as goal

pub returns-in_err-token-clause-fault : goal.returns-in_err-token-clause-fault
returns-in_err-token-clause-fault c set =
    let answer : c.from_residual.result ≡ Err c.in_err-token.field-0.0 = search rules in
    rw answer (IfFault-later c.in_err-token.field-0.0 _ _ (Fails-own (declaration_tests set) c.args.bytes.now c.args.from begins (declaration_wants set begins tt))
    c.in_err-token.ensures.fault)

pub returns-then-is_word-clause-side : goal.returns-then-is_word-clause-side
returns-then-is_word-clause-side c set =
    let says = c.in_ok-token.ensures.says in
    source_goes set c.args.bytes.now c.args.from c.in_ok-token.token says.0 says.1
    ((c.is_word.ensures c.args.from says.0 says.1).0 c.if-is_word.true)

pub returns-then-is_word-2-clause-side : goal.returns-then-is_word-2-clause-side
returns-then-is_word-2-clause-side c set =
    let says = c.in_ok-token.ensures.says in
    target_goes set c.args.bytes.now c.args.from c.in_ok-token.token says.0 says.1
    (λ word. let yes_ = (c.is_word.ensures c.args.from says.0 says.1).1 word in cc)
    ((c.is_word-2.ensures c.args.from says.0 says.1).0 c.if-is_word-2.true)

pub returns-clause-fault : goal.returns-clause-fault
returns-clause-fault c set =
    let says = c.in_ok-token.ensures.says in
    rw c.fault_at.ensures (side_fails set c.args.bytes.now c.args.from c.in_ok-token.token says.0 says.1
    (λ word. let yes_ = (c.is_word.ensures c.args.from says.0 says.1).1 word in cc)
    (λ word. let yes_ = (c.is_word-2.ensures c.args.from says.0 says.1).1 word in cc))
