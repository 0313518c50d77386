use Rattle.std.proofs.Common.{◌≡◌, Err, sym, subst, ap, ◌∙◌, rules}
use Rattle.decl_text.proofs.DeclarationLemmas.{IfFault-later}
use Rattle.rule_text.proofs.WantedLemmas.{rule_wants}
use Rattle.std.specs.Prelude.{◌≢◌}
use Rattle.decl_text.specs.declared.fault.MappingFault.{MappingFault}
use Rattle.decl_text.specs.declared.token.Kind.TheVariants.{Quoted}
use Rattle.decl_text.specs.declared.token.Token.{Token}
use Rattle.decl_text.specs.Tests.{Fails}
use Rattle.decl_text.proofs.TestLemmas.{Fails-own}
use Rattle.decl_text.proofs.NextLemmas.{next_token_once}
use Rattle.rule_text.specs.Frames.{said_of}
use Rattle.rule_text.specs.RuleLine.{wants_argument, rule_tests}
use Rattle.rule_text.proofs.AtomSteps.{constant_goes, constant_too_long}
use Rattle.rule_text.proofs.arguments.read_argument.Goals as goal

pub returns-in_err-token-clause-fault : goal.returns-in_err-token-clause-fault
returns-in_err-token-clause-fault c set atoms atom =
    let answer : c.from_residual.result ≡ Err c.in_err-token.field-0.0 = search rules in
    rw answer (IfFault-later c.in_err-token.field-0.0 _ _
    (λ fault own frame same. Fails-own (rule_tests set c.args.pool.now) c.args.bytes.now c.args.from
    (wants_argument frame (said_of c.args.vars atoms) atom) (rule_wants set c.args.pool.now (wants_argument frame (said_of c.args.vars atoms) atom) tt) fault own) c.in_err-token.ensures.fault)

pub read_variable-requires-clause-other : goal.read_variable-requires-clause-other
read_variable-requires-clause-other c token next =
    let other : c.in_ok-token.token.kind ≢ Quoted = search rules in
    let one = next_token_once c.args.bytes.now c.args.from c.in_ok-token.token token c.in_ok-token.ensures.token next in
    λ kind. other (ap (λ (t : Token). t.kind) one ∙ kind)

pub returns-then-ne-clause-argument : goal.returns-then-ne-clause-argument
returns-then-ne-clause-argument c set atoms atom = c.read_variable.ensures.variable set c.args.pool.now atoms atom

pub returns-then-ne-clause-fault : goal.returns-then-ne-clause-fault
returns-then-ne-clause-fault c set atoms atom = c.read_variable.ensures.fault set c.args.pool.now atoms atom

pub returns-in_err-constant-clause-fault : goal.returns-in_err-constant-clause-fault
returns-in_err-constant-clause-fault c set atoms atom =
    let answer : c.from_residual-in_err-constant.result ≡ Err c.in_err-constant.field-0.0 = search rules in
    rw answer (IfFault-later c.in_err-constant.field-0.0 _ _
    (λ fault long frame same. subst (λ (f : MappingFault). Fails (rule_tests set c.args.pool.now) c.args.bytes.now c.args.from
    (wants_argument frame (said_of c.args.vars atoms) atom) f) (sym long.3)
    (constant_too_long set c.args.pool.now c.args.bytes.now frame c.args.from (said_of c.args.vars atoms) atom c.in_ok-token.token long.0
    (record { next = c.in_ok-token.ensures.token; says = long.1 }) long.2)) c.in_err-constant.ensures.fault)

pub returns-clause-argument : goal.returns-clause-argument
returns-clause-argument c set atoms atom frame same =
    let it = c.in_ok-constant.ensures.constant in
    constant_goes set c.args.pool.now c.args.bytes.now frame c.args.from (said_of c.args.vars atoms) atom c.in_ok-token.token it.0
    c.in_ok-constant.constant.0 (record { next = c.in_ok-token.ensures.token; says = it.1 }) it.2 it.3
