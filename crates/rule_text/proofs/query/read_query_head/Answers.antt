use Rattle.std.proofs.Common.{◌≡◌, Err, ap, ◌∙◌, rules}
use Rattle.decl_text.proofs.DeclarationLemmas.{IfFault-later}
use Rattle.rule_text.proofs.WantedLemmas.{rule_wants}
use Rattle.std.specs.Prelude.{◌≢◌}
use Rattle.std.proofs.lemmas.Result.{IfOk-weaker}
use Rattle.decl_text.specs.declared.token.Kind.TheVariants.{RightParen}
use Rattle.decl_text.specs.declared.token.Token.{Token}
use Rattle.decl_text.specs.Tokens.{IsNextToken}
use Rattle.decl_text.proofs.NextLemmas.{next_token_once}
use Rattle.decl_text.proofs.TestLemmas.{Fails-own}
use Rattle.rule_text.specs.RuleLine.{wants_head, rule_tests}
use Rattle.rule_text.proofs.LineLemmas.{fault_weaker}
use Rattle.rule_text.proofs.QuerySteps.{head_is_empty, head_goes, head_fails}
use Rattle.rule_text.proofs.query.read_query_head.Goals as goal

pub returns-in_err-token-clause-fault : goal.returns-in_err-token-clause-fault
returns-in_err-token-clause-fault c set pool name =
    let answer : c.from_residual.result ≡ Err c.in_err-token.field-0.0 = search rules in
    rw answer (IfFault-later c.in_err-token.field-0.0 _ _ (Fails-own (rule_tests set pool) c.args.bytes.now c.args.from (wants_head name) (rule_wants set pool (wants_head name) tt))
    c.in_err-token.ensures.fault)

pub returns-then-eq-clause-head : goal.returns-then-eq-clause-head
returns-then-eq-clause-head c set pool name =
    let says = c.in_ok-token.ensures.says in
    let kind : c.in_ok-token.token.kind ≡ RightParen = search rules in
    rw c.new-names.ensures (head_is_empty set pool c.args.bytes.now c.args.from name c.in_ok-token.token says.0 says.1 kind)

pub returns-clause-head : goal.returns-clause-head
returns-clause-head c set pool name =
    let kind : c.in_ok-token.token.kind ≢ RightParen = search rules in
    let other : (token : Token) → IsNextToken c.args.bytes.now c.args.from token → token.kind ≢ RightParen =
    λ token next paren. kind (ap (λ (t : Token). t.kind)
    (next_token_once c.args.bytes.now c.args.from c.in_ok-token.token token c.in_ok-token.ensures.token next) ∙ paren) in
    IfOk-weaker c.read_head_variables.result _ _
    (λ read. head_goes set pool c.args.bytes.now c.args.from name other read.end read.names) (c.read_head_variables.ensures.head set pool name)

pub returns-clause-fault : goal.returns-clause-fault
returns-clause-fault c set pool name =
    let kind : c.in_ok-token.token.kind ≢ RightParen = search rules in
    let other : (token : Token) → IsNextToken c.args.bytes.now c.args.from token → token.kind ≢ RightParen =
    λ token next paren. kind (ap (λ (t : Token). t.kind)
    (next_token_once c.args.bytes.now c.args.from c.in_ok-token.token token c.in_ok-token.ensures.token next) ∙ paren) in
    fault_weaker c.read_head_variables.result _ _ (head_fails set pool c.args.bytes.now c.args.from name other)
    (c.read_head_variables.ensures.fault set pool name)
