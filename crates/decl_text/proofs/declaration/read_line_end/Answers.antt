use Rattle.std.proofs.Common.{◌≡◌, Err, ⊎_elim, rules}
use Rattle.decl_text.specs.Declaration.{wants_line_end, declaration_tests}
use Rattle.decl_text.proofs.TestLemmas.{Fails-own}
use Rattle.decl_text.proofs.DeclarationLemmas.{IfFault-later, declaration_wants, line_ends, line_goes_on}
use Rattle.decl_text.proofs.declaration.read_line_end.Goals as goal

pub returns-in_err-token-clause-fault : goal.returns-in_err-token-clause-fault
returns-in_err-token-clause-fault c set place relation =
    let answer : c.from_residual.result ≡ Err c.in_err-token.field-0.0 = search rules in
    rw answer (IfFault-later c.in_err-token.field-0.0 _ _
    (Fails-own (declaration_tests set) c.args.bytes.now c.args.from (wants_line_end place relation)
    (declaration_wants set (wants_line_end place relation) tt)) c.in_err-token.ensures.fault)

pub returns-in-LineEnd-clause-end : goal.returns-in-LineEnd-clause-end
returns-in-LineEnd-clause-end c set place relation =
    let says = c.in_ok-token.ensures.says in
    line_ends set c.args.bytes.now c.args.from place relation c.in_ok-token.token says.0 says.1 c.in-LineEnd.is

pub returns-in_default : goal.returns-in_default
returns-in_default c =
    let says = c.in_ok-token.ensures.says in
    record {
      end = λ set place relation. tt;
      within = tt;
      fault = λ set place relation. rw c.fault_at.ensures (line_goes_on set c.args.bytes.now c.args.from place relation c.in_ok-token.token
          says.0 says.1 (⊎_elim c.in_default.not-LineEnd c.in_default.not-Finish));
    }
