use Rattle.std.proofs.Common.{◌≡◌, [], Err, ap, ◌∙◌, rules}
use Rattle.decl_text.proofs.DeclarationLemmas.{IfFault-later}
use Rattle.rule_text.proofs.WantedLemmas.{rule_wants}
use Rattle.std.specs.Prelude.{◌≢◌}
use Rattle.decl_text.specs.declared.token.Kind.TheVariants.{Comma}
use Rattle.decl_text.specs.declared.token.Token.{Token}
use Rattle.decl_text.proofs.NextLemmas.{next_token_once}
use Rattle.decl_text.proofs.TestLemmas.{Fails-own}
use Rattle.rule_text.specs.Frames.{said_of}
use Rattle.rule_text.specs.RuleLine.{wants_atom, after_atom, rule_tests}
use Rattle.rule_text.proofs.LineLemmas.{LeadsIn-join, FailsIn-later, known_in}
use Rattle.rule_text.proofs.AtomSteps.{next_atom}
use Rattle.rule_text.proofs.atoms.read_atoms.Goals as goal

pub read_atom-requires-clause-known : goal.read_atom-requires-clause-known
read_atom-requires-clause-known c =
    known_in c.args.rules.now c.args.pool.now c.args.bytes.now c.args.part c.args.from (λ f. wants_atom f (said_of c.args.vars [])) c.loop-read.read.end
    (λ f. wants_atom f (said_of c.loop-read.read.vars c.loop-read.read.list)) c.loop-read.invariant.leads c.requires.known

pub returns-in_err-read-clause-fault : goal.returns-in_err-read-clause-fault
returns-in_err-read-clause-fault c =
    let answer : c.from_residual.result ≡ Err c.in_err-read.field-0.0 = search rules in
    rw answer (IfFault-later c.in_err-read.field-0.0 _ _
    (λ fault. FailsIn-later c.args.rules.now c.args.pool.now c.args.bytes.now c.args.part c.args.from (λ f. wants_atom f (said_of c.args.vars [])) c.loop-read.read.end
    (λ f. wants_atom f (said_of c.loop-read.read.vars c.loop-read.read.list)) fault c.loop-read.invariant.leads) c.in_err-read.ensures.fault)

pub returns-in_err-token-clause-fault : goal.returns-in_err-token-clause-fault
returns-in_err-token-clause-fault c =
    let answer : c.from_residual-in_err-token.result ≡ Err c.in_err-token.field-0.0 = search rules in
    let so_far = LeadsIn-join c.args.rules.now c.args.pool.now c.args.bytes.now c.args.part c.args.from (λ f. wants_atom f (said_of c.args.vars [])) c.loop-read.read.end
    (λ f. wants_atom f (said_of c.loop-read.read.vars c.loop-read.read.list)) c.in_ok-read.read.end (λ f. after_atom f (said_of c.in_ok-read.read.vars c.in_ok-read.read.list))
    c.loop-read.invariant.leads c.in_ok-read.ensures.atom in
    rw answer (IfFault-later c.in_err-token.field-0.0 _ _
    (λ fault own. FailsIn-later c.args.rules.now c.args.pool.now c.args.bytes.now c.args.part c.args.from (λ f. wants_atom f (said_of c.args.vars []))
    c.in_ok-read.read.end (λ f. after_atom f (said_of c.in_ok-read.read.vars c.in_ok-read.read.list)) fault so_far
    (λ frame same. Fails-own (rule_tests c.args.rules.now c.args.pool.now) c.args.bytes.now c.in_ok-read.read.end
    (after_atom frame (said_of c.in_ok-read.read.vars c.in_ok-read.read.list)) (rule_wants c.args.rules.now c.args.pool.now (after_atom frame (said_of c.in_ok-read.read.vars c.in_ok-read.read.list)) tt) fault own)) c.in_err-token.ensures.fault)

pub returns-then-ne-clause-atoms : goal.returns-then-ne-clause-atoms
returns-then-ne-clause-atoms c =
    LeadsIn-join c.args.rules.now c.args.pool.now c.args.bytes.now c.args.part c.args.from (λ f. wants_atom f (said_of c.args.vars [])) c.loop-read.read.end
    (λ f. wants_atom f (said_of c.loop-read.read.vars c.loop-read.read.list)) c.in_ok-read.read.end (λ f. after_atom f (said_of c.in_ok-read.read.vars c.in_ok-read.read.list))
    c.loop-read.invariant.leads c.in_ok-read.ensures.atom

pub returns-then-ne-clause-last : goal.returns-then-ne-clause-last
returns-then-ne-clause-last c token next =
    let other : c.in_ok-token.token.kind ≢ Comma = search rules in
    let one = next_token_once c.args.bytes.now c.in_ok-read.read.end c.in_ok-token.token token c.in_ok-token.ensures.token next in
    λ kind. other (ap (λ (t : Token). t.kind) one ∙ kind)

pub loop-read-preserved : goal.loop-read-preserved
loop-read-preserved c =
    let says = c.in_ok-token.ensures.says in
    let comma : c.in_ok-token.token.kind ≡ Comma = search rules in
    let so_far = LeadsIn-join c.args.rules.now c.args.pool.now c.args.bytes.now c.args.part c.args.from (λ f. wants_atom f (said_of c.args.vars [])) c.loop-read.read.end
    (λ f. wants_atom f (said_of c.loop-read.read.vars c.loop-read.read.list)) c.in_ok-read.read.end (λ f. after_atom f (said_of c.in_ok-read.read.vars c.in_ok-read.read.list))
    c.loop-read.invariant.leads c.in_ok-read.ensures.atom in
    record {
      within = c.in_ok-token.ensures.within;
      leads = LeadsIn-join c.args.rules.now c.args.pool.now c.args.bytes.now c.args.part c.args.from (λ f. wants_atom f (said_of c.args.vars []))
          c.in_ok-read.read.end (λ f. after_atom f (said_of c.in_ok-read.read.vars c.in_ok-read.read.list))
          c.in_ok-token.token.end (λ f. wants_atom f (said_of c.in_ok-read.read.vars c.in_ok-read.read.list)) so_far
          (λ frame same. next_atom c.args.rules.now c.args.pool.now c.args.bytes.now frame c.in_ok-read.read.end
          (said_of c.in_ok-read.read.vars c.in_ok-read.read.list) c.in_ok-token.token says.0 says.1 comma);
    }
