use Rattle.std.proofs.Common.{◌≡◌, ℕ, List, [], Err, sym, subst, rules}
use Rattle.decl_text.proofs.DeclarationLemmas.{IfFault-later}
use Rattle.rule_text.specs.Behind.{IsBody, behind_arrow}
use Rattle.rule_text.specs.Frames.{said_of, LeadsIn, FailsIn}
use Rattle.rule_text.specs.RuleLine.{wants_colon, wants_atom, after_atom}
use Rattle.rule_text.proofs.LineLemmas.{LeadsIn-join, FailsIn-later, known_in}
use Rattle.rule_text.proofs.RuleLemmas.{colon_goes, colon_fails, arrow_goes, arrow_fails}
use Rattle.rule_text.proofs.atoms.read_body.Goals as goal

pub returns-in_err-after-clause-fault : goal.returns-in_err-after-clause-fault
returns-in_err-after-clause-fault c =
    let answer : c.from_residual.result ≡ Err c.in_err-after.field-0.0 = search rules in
    rw answer (IfFault-later c.in_err-after.field-0.0 _ _
    (λ fault fails frame same. colon_fails c.args.rules.now c.args.pool.now c.args.bytes.now c.args.from frame c.wrong.result fault
    (c.wrong.ensures frame same) fails) c.in_err-after.ensures.fault)

pub read_atoms-requires-clause-known : goal.read_atoms-requires-clause-known
read_atoms-requires-clause-known c =
    let colon : LeadsIn c.args.rules.now c.args.pool.now c.args.bytes.now c.args.part c.args.from wants_colon c.in_ok-after.after (λ f. wants_atom f (said_of [] [])) =
    λ frame same. colon_goes c.args.rules.now c.args.pool.now c.args.bytes.now c.args.from frame c.in_ok-after.after c.in_ok-after.ensures.sign in
    known_in c.args.rules.now c.args.pool.now c.args.bytes.now c.args.part c.args.from wants_colon c.in_ok-after.after
    (λ f. wants_atom f (said_of [] [])) colon c.requires.known

pub returns-in_err-read-clause-fault : goal.returns-in_err-read-clause-fault
returns-in_err-read-clause-fault c =
    let answer : c.from_residual-in_err-read.result ≡ Err c.in_err-read.field-0.0 = search rules in
    let colon : LeadsIn c.args.rules.now c.args.pool.now c.args.bytes.now c.args.part c.args.from wants_colon c.in_ok-after.after (λ f. wants_atom f (said_of [] [])) =
    λ frame same. colon_goes c.args.rules.now c.args.pool.now c.args.bytes.now c.args.from frame c.in_ok-after.after c.in_ok-after.ensures.sign in
    rw answer (IfFault-later c.in_err-read.field-0.0 _ _
    (λ fault fails. FailsIn-later c.args.rules.now c.args.pool.now c.args.bytes.now c.args.part c.args.from wants_colon c.in_ok-after.after
    (λ f. wants_atom f (said_of [] [])) fault colon
    (subst (λ (v : List (List ℕ)). FailsIn c.args.rules.now c.args.pool.now c.args.bytes.now c.args.part c.in_ok-after.after
    (λ f. wants_atom f (said_of v [])) fault) c.new-vars.ensures fails)) c.in_err-read.ensures.fault)

pub returns-in_err-end-clause-fault : goal.returns-in_err-end-clause-fault
returns-in_err-end-clause-fault c =
    let answer : c.from_residual-in_err-end.result ≡ Err c.in_err-end.field-0.0 = search rules in
    let colon : LeadsIn c.args.rules.now c.args.pool.now c.args.bytes.now c.args.part c.args.from wants_colon c.in_ok-after.after (λ f. wants_atom f (said_of [] [])) =
    λ frame same. colon_goes c.args.rules.now c.args.pool.now c.args.bytes.now c.args.from frame c.in_ok-after.after c.in_ok-after.ensures.sign in
    let atoms = subst (λ (v : List (List ℕ)). LeadsIn c.args.rules.now c.args.pool.now c.args.bytes.now c.args.part c.in_ok-after.after (λ f. wants_atom f (said_of v []))
    c.in_ok-read.read.end (λ f. after_atom f (said_of c.in_ok-read.read.vars c.in_ok-read.read.list))) c.new-vars.ensures c.in_ok-read.ensures.atoms in
    let so_far = LeadsIn-join c.args.rules.now c.args.pool.now c.args.bytes.now c.args.part c.args.from wants_colon c.in_ok-after.after
    (λ f. wants_atom f (said_of [] [])) c.in_ok-read.read.end (λ f. after_atom f (said_of c.in_ok-read.read.vars c.in_ok-read.read.list)) colon atoms in
    rw answer (IfFault-later c.in_err-end.field-0.0 _ _
    (λ fault fails. FailsIn-later c.args.rules.now c.args.pool.now c.args.bytes.now c.args.part c.args.from wants_colon c.in_ok-read.read.end
    (λ f. after_atom f (said_of c.in_ok-read.read.vars c.in_ok-read.read.list)) fault so_far
    (λ frame same. arrow_fails c.args.rules.now c.args.pool.now c.args.bytes.now c.in_ok-read.read.end frame
    (said_of c.in_ok-read.read.vars c.in_ok-read.read.list) c.wrong-2.result fault (subst IsBody (sym same) c.requires.body)
    c.in_ok-read.ensures.last (c.wrong-2.ensures frame same) fails)) c.in_err-end.ensures.fault)

pub returns-clause-body : goal.returns-clause-body
returns-clause-body c =
    let colon : LeadsIn c.args.rules.now c.args.pool.now c.args.bytes.now c.args.part c.args.from wants_colon c.in_ok-after.after (λ f. wants_atom f (said_of [] [])) =
    λ frame same. colon_goes c.args.rules.now c.args.pool.now c.args.bytes.now c.args.from frame c.in_ok-after.after c.in_ok-after.ensures.sign in
    let atoms = subst (λ (v : List (List ℕ)). LeadsIn c.args.rules.now c.args.pool.now c.args.bytes.now c.args.part c.in_ok-after.after (λ f. wants_atom f (said_of v []))
    c.in_ok-read.read.end (λ f. after_atom f (said_of c.in_ok-read.read.vars c.in_ok-read.read.list))) c.new-vars.ensures c.in_ok-read.ensures.atoms in
    let so_far = LeadsIn-join c.args.rules.now c.args.pool.now c.args.bytes.now c.args.part c.args.from wants_colon c.in_ok-after.after
    (λ f. wants_atom f (said_of [] [])) c.in_ok-read.read.end (λ f. after_atom f (said_of c.in_ok-read.read.vars c.in_ok-read.read.list)) colon atoms in
    LeadsIn-join c.args.rules.now c.args.pool.now c.args.bytes.now c.args.part c.args.from wants_colon c.in_ok-read.read.end
    (λ f. after_atom f (said_of c.in_ok-read.read.vars c.in_ok-read.read.list)) c.in_ok-end.end
    (λ f. behind_arrow f (said_of c.in_ok-read.read.vars c.in_ok-read.read.list)) so_far
    (λ frame same. arrow_goes c.args.rules.now c.args.pool.now c.args.bytes.now c.in_ok-read.read.end frame
    (said_of c.in_ok-read.read.vars c.in_ok-read.read.list) c.in_ok-end.end (subst IsBody (sym same) c.requires.body) c.in_ok-end.ensures.sign)
