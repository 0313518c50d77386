use Rattle.std.proofs.Common.{◌≡◌, ◌<◌, [], length, Err, sym, subst, rules, arith}
use Rattle.decl_text.proofs.DeclarationLemmas.{IfFault-later}
use Rattle.rule_text.proofs.WantedLemmas.{rule_wants}
use Rattle.decl_text.specs.declared.fault.Code.{Code}
use Rattle.decl_text.specs.Tests.{Fails}
use Rattle.decl_text.proofs.TestLemmas.{Fails-own}
use Rattle.rule_text.specs.Frames.{said_of}
use Rattle.rule_text.specs.RuleLine.{wants_argument, wants_comma, after_atom, with_atom, rule_tests}
use Rattle.rule_text.proofs.LineLemmas.{LeadsIn-join, FailsIn-later, known_in}
use Rattle.rule_text.proofs.AtomSteps.{opened, one_more, comma_goes, atom_ends, arguments_too_many, arguments_too_few, comma_fails}
use Rattle.rule_text.proofs.arguments.read_arguments.Goals as goal

pub read_argument-requires-clause-known : goal.read_argument-requires-clause-known
read_argument-requires-clause-known c =
    known_in (record { sources = []; targets = []; tgds = []; egds = []; queries = [] }) c.args.pool.now c.args.bytes.now c.args.part c.args.from
    (λ f. wants_argument f (said_of c.args.vars []) (opened 0 c.args.width [])) c.loop-args.from
    (λ f. wants_argument f (said_of c.loop-args.vars []) (opened 0 c.args.width c.loop-args.args))
    (c.loop-args.invariant.leads (record { sources = []; targets = []; tgds = []; egds = []; queries = [] }) [] 0) c.requires.known

pub returns-in_err-read-clause-fault : goal.returns-in_err-read-clause-fault
returns-in_err-read-clause-fault c set atoms number =
    let answer : c.from_residual.result ≡ Err c.in_err-read.field-0.0 = search rules in
    rw answer (IfFault-later c.in_err-read.field-0.0 _ _
    (λ fault. FailsIn-later set c.args.pool.now c.args.bytes.now c.args.part c.args.from
    (λ f. wants_argument f (said_of c.args.vars atoms) (opened number c.args.width [])) c.loop-args.from
    (λ f. wants_argument f (said_of c.loop-args.vars atoms) (opened number c.args.width c.loop-args.args)) fault
    (c.loop-args.invariant.leads set atoms number))
    (c.in_err-read.ensures.fault set atoms (opened number c.args.width c.loop-args.args)))

pub returns-in_err-token-clause-fault : goal.returns-in_err-token-clause-fault
returns-in_err-token-clause-fault c set atoms number =
    let answer : c.from_residual-in_err-token.result ≡ Err c.in_err-token.field-0.0 = search rules in
    let so_far = one_more set c.args.pool.now c.args.bytes.now c.args.part c.args.from c.loop-args.from c.in_ok-read.read.end c.args.vars
    c.loop-args.vars c.in_ok-read.read.vars atoms number c.args.width c.loop-args.args c.push.new.self c.in_ok-read.read.arg
    c.in_ok-push.ensures.ok (c.loop-args.invariant.leads set atoms number)
    (c.in_ok-read.ensures.argument set atoms (opened number c.args.width c.loop-args.args)) in
    rw answer (IfFault-later c.in_err-token.field-0.0 _ _
    (λ fault own. FailsIn-later set c.args.pool.now c.args.bytes.now c.args.part c.args.from
    (λ f. wants_argument f (said_of c.args.vars atoms) (opened number c.args.width [])) c.in_ok-read.read.end
    (λ f. wants_comma f (said_of c.in_ok-read.read.vars atoms) (opened number c.args.width c.push.new.self)) fault so_far
    (λ frame same. Fails-own (rule_tests set c.args.pool.now) c.args.bytes.now c.in_ok-read.read.end
    (wants_comma frame (said_of c.in_ok-read.read.vars atoms) (opened number c.args.width c.push.new.self)) (rule_wants set c.args.pool.now (wants_comma frame (said_of c.in_ok-read.read.vars atoms) (opened number c.args.width c.push.new.self)) tt) fault own))
    c.in_err-token.ensures.fault)

pub returns-in-RightParen-2-clause-arguments : goal.returns-in-RightParen-2-clause-arguments
returns-in-RightParen-2-clause-arguments c set atoms number =
    let says = c.in_ok-token.ensures.says in
    let so_far = one_more set c.args.pool.now c.args.bytes.now c.args.part c.args.from c.loop-args.from c.in_ok-read.read.end c.args.vars
    c.loop-args.vars c.in_ok-read.read.vars atoms number c.args.width c.loop-args.args c.push.new.self c.in_ok-read.read.arg
    c.in_ok-push.ensures.ok (c.loop-args.invariant.leads set atoms number)
    (c.in_ok-read.ensures.argument set atoms (opened number c.args.width c.loop-args.args)) in
    let full : length c.push.new.self ≡ c.args.width = search rules in
    LeadsIn-join set c.args.pool.now c.args.bytes.now c.args.part c.args.from
    (λ f. wants_argument f (said_of c.args.vars atoms) (opened number c.args.width [])) c.in_ok-read.read.end
    (λ f. wants_comma f (said_of c.in_ok-read.read.vars atoms) (opened number c.args.width c.push.new.self)) c.in_ok-token.token.end
    (λ f. after_atom f (with_atom (said_of c.in_ok-read.read.vars atoms) (opened number c.args.width c.push.new.self))) so_far
    (λ frame same. atom_ends set c.args.pool.now c.args.bytes.now frame c.in_ok-read.read.end (said_of c.in_ok-read.read.vars atoms)
    (opened number c.args.width c.push.new.self) c.in_ok-token.token says.0 says.1 c.in-RightParen-2.is full)

pub returns-in_default-clause-fault : goal.returns-in_default-clause-fault
returns-in_default-clause-fault c set atoms number =
    let says = c.in_ok-token.ensures.says in
    let so_far = one_more set c.args.pool.now c.args.bytes.now c.args.part c.args.from c.loop-args.from c.in_ok-read.read.end c.args.vars
    c.loop-args.vars c.in_ok-read.read.vars atoms number c.args.width c.loop-args.args c.push.new.self c.in_ok-read.read.arg
    c.in_ok-push.ensures.ok (c.loop-args.invariant.leads set atoms number)
    (c.in_ok-read.ensures.argument set atoms (opened number c.args.width c.loop-args.args)) in
    rw c.fault_at-in_default.ensures (FailsIn-later set c.args.pool.now c.args.bytes.now c.args.part c.args.from
    (λ f. wants_argument f (said_of c.args.vars atoms) (opened number c.args.width [])) c.in_ok-read.read.end
    (λ f. wants_comma f (said_of c.in_ok-read.read.vars atoms) (opened number c.args.width c.push.new.self)) _ so_far
    (λ frame same. subst (λ (code : Code). Fails (rule_tests set c.args.pool.now) c.args.bytes.now c.in_ok-read.read.end
    (wants_comma frame (said_of c.in_ok-read.read.vars atoms) (opened number c.args.width c.push.new.self))
    (record { code = code; place = c.in_ok-token.token.start })) (sym (c.wrong.ensures frame same))
    (comma_fails set c.args.pool.now c.args.bytes.now frame c.in_ok-read.read.end (said_of c.in_ok-read.read.vars atoms)
    (opened number c.args.width c.push.new.self) c.in_ok-token.token says.0 says.1 c.in_default.not-Comma c.in_default.not-RightParen)))

pub returns-in-Comma-clause-fault : goal.returns-in-Comma-clause-fault
returns-in-Comma-clause-fault c set atoms number =
    let says = c.in_ok-token.ensures.says in
    let so_far = one_more set c.args.pool.now c.args.bytes.now c.args.part c.args.from c.loop-args.from c.in_ok-read.read.end c.args.vars
    c.loop-args.vars c.in_ok-read.read.vars atoms number c.args.width c.loop-args.args c.push.new.self c.in_ok-read.read.arg
    c.in_ok-push.ensures.ok (c.loop-args.invariant.leads set atoms number)
    (c.in_ok-read.ensures.argument set atoms (opened number c.args.width c.loop-args.args)) in
    let full : ¬ (length c.push.new.self < c.args.width) = λ less. omega arith in
    rw c.fault_at.ensures (FailsIn-later set c.args.pool.now c.args.bytes.now c.args.part c.args.from
    (λ f. wants_argument f (said_of c.args.vars atoms) (opened number c.args.width [])) c.in_ok-read.read.end
    (λ f. wants_comma f (said_of c.in_ok-read.read.vars atoms) (opened number c.args.width c.push.new.self)) _ so_far
    (λ frame same. arguments_too_many set c.args.pool.now c.args.bytes.now frame c.in_ok-read.read.end (said_of c.in_ok-read.read.vars atoms)
    (opened number c.args.width c.push.new.self) c.in_ok-token.token says.0 says.1 c.in-Comma.is full))

pub returns-in-RightParen-clause-fault : goal.returns-in-RightParen-clause-fault
returns-in-RightParen-clause-fault c set atoms number =
    let says = c.in_ok-token.ensures.says in
    let so_far = one_more set c.args.pool.now c.args.bytes.now c.args.part c.args.from c.loop-args.from c.in_ok-read.read.end c.args.vars
    c.loop-args.vars c.in_ok-read.read.vars atoms number c.args.width c.loop-args.args c.push.new.self c.in_ok-read.read.arg
    c.in_ok-push.ensures.ok (c.loop-args.invariant.leads set atoms number)
    (c.in_ok-read.ensures.argument set atoms (opened number c.args.width c.loop-args.args)) in
    let few : ¬ (length c.push.new.self ≡ c.args.width) = λ same. search rules in
    rw c.fault_at-in-RightParen.ensures (FailsIn-later set c.args.pool.now c.args.bytes.now c.args.part c.args.from
    (λ f. wants_argument f (said_of c.args.vars atoms) (opened number c.args.width [])) c.in_ok-read.read.end
    (λ f. wants_comma f (said_of c.in_ok-read.read.vars atoms) (opened number c.args.width c.push.new.self)) _ so_far
    (λ frame same. arguments_too_few set c.args.pool.now c.args.bytes.now frame c.in_ok-read.read.end (said_of c.in_ok-read.read.vars atoms)
    (opened number c.args.width c.push.new.self) c.in_ok-token.token says.0 says.1 c.in-RightParen.is few))

pub loop-args-preserved : goal.loop-args-preserved
loop-args-preserved c = record {
  within = c.in_ok-token.ensures.within;
  leads = λ set atoms number.
      let says = c.in_ok-token.ensures.says in
      let so_far = one_more set c.args.pool.now c.args.bytes.now c.args.part c.args.from c.loop-args.from c.in_ok-read.read.end c.args.vars
      c.loop-args.vars c.in_ok-read.read.vars atoms number c.args.width c.loop-args.args c.push.new.self c.in_ok-read.read.arg
      c.in_ok-push.ensures.ok (c.loop-args.invariant.leads set atoms number)
      (c.in_ok-read.ensures.argument set atoms (opened number c.args.width c.loop-args.args)) in
      let few : length c.push.new.self < c.args.width = omega arith in
      LeadsIn-join set c.args.pool.now c.args.bytes.now c.args.part c.args.from
      (λ f. wants_argument f (said_of c.args.vars atoms) (opened number c.args.width [])) c.in_ok-read.read.end
      (λ f. wants_comma f (said_of c.in_ok-read.read.vars atoms) (opened number c.args.width c.push.new.self)) c.in_ok-token.token.end
      (λ f. wants_argument f (said_of c.in_ok-read.read.vars atoms) (opened number c.args.width c.push.new.self)) so_far
      (λ frame same. comma_goes set c.args.pool.now c.args.bytes.now frame c.in_ok-read.read.end (said_of c.in_ok-read.read.vars atoms)
      (opened number c.args.width c.push.new.self) c.in_ok-token.token says.0 says.1 c.in-Comma.is few);
}
