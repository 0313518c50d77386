use Rattle.std.proofs.Common.{◌≡◌, List, [], Err, sym, subst, rules}
use Rattle.rule_core.specs.declared.rules.Atom.{Atom}
use Rattle.decl_text.proofs.DeclarationLemmas.{IfFault-later}
use Rattle.rule_text.specs.Frames.{said_of, LeadsIn}
use Rattle.rule_text.specs.RuleLine.{wants_atom, wants_parenthesis, wants_argument, after_atom, with_atom}
use Rattle.rule_text.proofs.LineLemmas.{LeadsIn-join, FailsIn-later, known_in}
use Rattle.rule_text.proofs.AtomSteps.{opened, atom_opens, parenthesis_fails}
use Rattle.rule_text.proofs.atoms.read_atom.Goals as goal

pub returns-in_err-opened-clause-fault : goal.returns-in_err-opened-clause-fault
returns-in_err-opened-clause-fault c =
    let answer : c.from_residual.result ≡ Err c.in_err-opened.field-0.0 = search rules in
    rw answer (IfFault-later c.in_err-opened.field-0.0 _ _ (λ fault fails. fails)
    (c.in_err-opened.ensures.fault c.args.pool.now (said_of c.args.said.vars c.args.said.list) (sym c.len.ensures)))

pub returns-in_err-after-clause-fault : goal.returns-in_err-after-clause-fault
returns-in_err-after-clause-fault c =
    let answer : c.from_residual-in_err-after.result ≡ Err c.in_err-after.field-0.0 = search rules in
    rw answer (IfFault-later c.in_err-after.field-0.0 _ _
    (λ fault fails. FailsIn-later c.args.rules.now c.args.pool.now c.args.bytes.now c.args.part c.args.said.end (λ f. wants_atom f (said_of c.args.said.vars c.args.said.list))
    c.in_ok-opened.opened.end (λ f. wants_parenthesis f (said_of c.args.said.vars c.args.said.list) (opened c.in_ok-opened.opened.relation c.in_ok-opened.opened.width [])) fault
    (c.in_ok-opened.ensures.relation c.args.pool.now (said_of c.args.said.vars c.args.said.list) (sym c.len.ensures))
    (λ frame same. parenthesis_fails c.args.rules.now c.args.pool.now c.args.bytes.now frame c.in_ok-opened.opened.end
    (said_of c.args.said.vars c.args.said.list) (opened c.in_ok-opened.opened.relation c.in_ok-opened.opened.width []) c.wrong.result fault (c.wrong.ensures frame same) fails)) c.in_err-after.ensures.fault)

pub read_arguments-requires-clause-known : goal.read_arguments-requires-clause-known
read_arguments-requires-clause-known c =
    let opens = atom_opens c.args.rules.now c.args.pool.now c.args.bytes.now c.args.part c.args.said.end c.in_ok-opened.opened.end c.in_ok-after.after
    (said_of c.args.said.vars c.args.said.list) c.in_ok-opened.opened.relation c.in_ok-opened.opened.width
    (c.in_ok-opened.ensures.relation c.args.pool.now (said_of c.args.said.vars c.args.said.list) (sym c.len.ensures)) c.in_ok-after.ensures.sign in
    known_in c.args.rules.now c.args.pool.now c.args.bytes.now c.args.part c.args.said.end (λ f. wants_atom f (said_of c.args.said.vars c.args.said.list)) c.in_ok-after.after
    (λ f. wants_argument f (said_of c.args.said.vars c.args.said.list) (opened c.in_ok-opened.opened.relation c.in_ok-opened.opened.width [])) opens c.requires.known

pub returns-in_err-read-clause-fault : goal.returns-in_err-read-clause-fault
returns-in_err-read-clause-fault c =
    let answer : c.from_residual-in_err-read.result ≡ Err c.in_err-read.field-0.0 = search rules in
    let opens = atom_opens c.args.rules.now c.args.pool.now c.args.bytes.now c.args.part c.args.said.end c.in_ok-opened.opened.end c.in_ok-after.after
    (said_of c.args.said.vars c.args.said.list) c.in_ok-opened.opened.relation c.in_ok-opened.opened.width
    (c.in_ok-opened.ensures.relation c.args.pool.now (said_of c.args.said.vars c.args.said.list) (sym c.len.ensures)) c.in_ok-after.ensures.sign in
    rw answer (IfFault-later c.in_err-read.field-0.0 _ _
    (λ fault. FailsIn-later c.args.rules.now c.args.pool.now c.args.bytes.now c.args.part c.args.said.end (λ f. wants_atom f (said_of c.args.said.vars c.args.said.list))
    c.in_ok-after.after (λ f. wants_argument f (said_of c.args.said.vars c.args.said.list) (opened c.in_ok-opened.opened.relation c.in_ok-opened.opened.width [])) fault opens)
    (c.in_err-read.ensures.fault c.args.rules.now c.args.said.list c.in_ok-opened.opened.relation))

pub returns-clause-atom : goal.returns-clause-atom
returns-clause-atom c =
    let opens = atom_opens c.args.rules.now c.args.pool.now c.args.bytes.now c.args.part c.args.said.end c.in_ok-opened.opened.end c.in_ok-after.after
    (said_of c.args.said.vars c.args.said.list) c.in_ok-opened.opened.relation c.in_ok-opened.opened.width
    (c.in_ok-opened.ensures.relation c.args.pool.now (said_of c.args.said.vars c.args.said.list) (sym c.len.ensures)) c.in_ok-after.ensures.sign in
    subst (λ (list : List Atom). LeadsIn c.args.rules.now c.args.pool.now c.args.bytes.now c.args.part c.args.said.end (λ f. wants_atom f (said_of c.args.said.vars c.args.said.list))
    c.in_ok-read.read.end (λ f. after_atom f (said_of c.in_ok-read.read.vars list))) (sym c.in_ok-push.ensures.ok)
    (LeadsIn-join c.args.rules.now c.args.pool.now c.args.bytes.now c.args.part c.args.said.end (λ f. wants_atom f (said_of c.args.said.vars c.args.said.list))
    c.in_ok-after.after (λ f. wants_argument f (said_of c.args.said.vars c.args.said.list) (opened c.in_ok-opened.opened.relation c.in_ok-opened.opened.width [])) c.in_ok-read.read.end
    (λ f. after_atom f (with_atom (said_of c.in_ok-read.read.vars c.args.said.list)
    (opened c.in_ok-opened.opened.relation c.in_ok-opened.opened.width c.in_ok-read.read.args))) opens
    (c.in_ok-read.ensures.arguments c.args.rules.now c.args.said.list c.in_ok-opened.opened.relation))
