use Rattle.std.proofs.Common.{◌≡◌, length, Err, refl, rules}
use Rattle.decl_text.proofs.TestLemmas.{Leads-join, Fails-later}
use Rattle.decl_text.proofs.DeclarationLemmas.{IfFault-later}
use Rattle.rule_text.specs.Frames.{said_of}
use Rattle.rule_text.specs.RuleLine.{body_of_tgd, head_of_tgd, wants_tgd_name, wants_colon, after_arrow, after_atom, stated, rule_tests}
use Rattle.rule_text.specs.declared.rule.Rule.TheVariants.{Tgd}
use Rattle.rule_text.proofs.LineLemmas.{known_later}
use Rattle.rule_text.proofs.RuleLemmas.{tgd_ends, tgd_goes_on}
use Rattle.rule_text.proofs.tgd.read_tgd.Goals as goal

pub returns-in_err-name-clause-fault : goal.returns-in_err-name-clause-fault
returns-in_err-name-clause-fault c =
    let answer : c.from_residual.result ≡ Err c.in_err-name.field-0.0 = search rules in
    rw answer (IfFault-later c.in_err-name.field-0.0 _ _ (λ fault fails. fails) (c.in_err-name.ensures.fault c.args.pool.now))

pub read_body-requires-clause-known : goal.read_body-requires-clause-known
read_body-requires-clause-known c =
    known_later (rule_tests c.args.rules.now c.args.pool.now) c.args.bytes.now c.args.pool.now c.args.from wants_tgd_name c.in_ok-name.name.token.end (wants_colon (body_of_tgd c.in_ok-name.name.text))
    (c.in_ok-name.ensures.name c.args.pool.now) c.requires.known

pub returns-in_err-body-clause-fault : goal.returns-in_err-body-clause-fault
returns-in_err-body-clause-fault c =
    let answer : c.from_residual-in_err-body.result ≡ Err c.in_err-body.field-0.0 = search rules in
    rw answer (IfFault-later c.in_err-body.field-0.0 _ _
    (λ fault fails. Fails-later (rule_tests c.args.rules.now c.args.pool.now) c.args.bytes.now c.args.from wants_tgd_name c.in_ok-name.name.token.end (wants_colon (body_of_tgd c.in_ok-name.name.text)) fault
    (c.in_ok-name.ensures.name c.args.pool.now) (fails (body_of_tgd c.in_ok-name.name.text) refl)) c.in_err-body.ensures.fault)

pub read_head-requires-clause-known : goal.read_head-requires-clause-known
read_head-requires-clause-known c =
    let body = Leads-join (rule_tests c.args.rules.now c.args.pool.now) c.args.bytes.now c.args.from wants_tgd_name c.in_ok-name.name.token.end (wants_colon (body_of_tgd c.in_ok-name.name.text))
    c.in_ok-body.body.end (after_arrow c.in_ok-name.name.text (said_of c.in_ok-body.body.vars c.in_ok-body.body.list))
    (c.in_ok-name.ensures.name c.args.pool.now) (c.in_ok-body.ensures.body (body_of_tgd c.in_ok-name.name.text) refl) in
    known_later (rule_tests c.args.rules.now c.args.pool.now) c.args.bytes.now c.args.pool.now c.args.from wants_tgd_name c.in_ok-body.body.end (after_arrow c.in_ok-name.name.text (said_of c.in_ok-body.body.vars c.in_ok-body.body.list)) body c.requires.known

pub returns-in_err-head-clause-fault : goal.returns-in_err-head-clause-fault
returns-in_err-head-clause-fault c =
    let answer : c.from_residual-in_err-head.result ≡ Err c.in_err-head.field-0.0 = search rules in
    let body = Leads-join (rule_tests c.args.rules.now c.args.pool.now) c.args.bytes.now c.args.from wants_tgd_name c.in_ok-name.name.token.end (wants_colon (body_of_tgd c.in_ok-name.name.text))
    c.in_ok-body.body.end (after_arrow c.in_ok-name.name.text (said_of c.in_ok-body.body.vars c.in_ok-body.body.list))
    (c.in_ok-name.ensures.name c.args.pool.now) (c.in_ok-body.ensures.body (body_of_tgd c.in_ok-name.name.text) refl) in
    rw answer (IfFault-later c.in_err-head.field-0.0 _ _
    (λ fault. Fails-later (rule_tests c.args.rules.now c.args.pool.now) c.args.bytes.now c.args.from wants_tgd_name c.in_ok-body.body.end (after_arrow c.in_ok-name.name.text (said_of c.in_ok-body.body.vars c.in_ok-body.body.list)) fault body)
    (c.in_err-head.ensures.fault c.in_ok-name.name.text c.in_ok-body.body.list))

pub returns-in_err-end-clause-fault : goal.returns-in_err-end-clause-fault
returns-in_err-end-clause-fault c =
    let answer : c.from_residual-in_err-end.result ≡ Err c.in_err-end.field-0.0 = search rules in
    let body = Leads-join (rule_tests c.args.rules.now c.args.pool.now) c.args.bytes.now c.args.from wants_tgd_name c.in_ok-name.name.token.end (wants_colon (body_of_tgd c.in_ok-name.name.text))
    c.in_ok-body.body.end (after_arrow c.in_ok-name.name.text (said_of c.in_ok-body.body.vars c.in_ok-body.body.list))
    (c.in_ok-name.ensures.name c.args.pool.now) (c.in_ok-body.ensures.body (body_of_tgd c.in_ok-name.name.text) refl) in
    let head = Leads-join (rule_tests c.args.rules.now c.args.pool.now) c.args.bytes.now c.args.from wants_tgd_name c.in_ok-body.body.end (after_arrow c.in_ok-name.name.text (said_of c.in_ok-body.body.vars c.in_ok-body.body.list))
    c.in_ok-head.head.end (after_atom (head_of_tgd c.in_ok-name.name.text c.in_ok-body.body.list (length c.in_ok-body.body.vars)) (said_of c.in_ok-head.head.vars c.in_ok-head.head.list))
    body (c.in_ok-head.ensures.head c.in_ok-name.name.text c.in_ok-body.body.list) in
    rw answer (IfFault-later c.in_err-end.field-0.0 _ _
    (λ fault fails. Fails-later (rule_tests c.args.rules.now c.args.pool.now) c.args.bytes.now c.args.from wants_tgd_name c.in_ok-head.head.end (after_atom (head_of_tgd c.in_ok-name.name.text c.in_ok-body.body.list (length c.in_ok-body.body.vars)) (said_of c.in_ok-head.head.vars c.in_ok-head.head.list)) fault head
    (tgd_goes_on c.args.rules.now c.args.pool.now c.args.bytes.now c.in_ok-head.head.end c.in_ok-name.name.text c.in_ok-body.body.list (length c.in_ok-body.body.vars) (said_of c.in_ok-head.head.vars c.in_ok-head.head.list) fault
    c.in_ok-head.ensures.last fails)) c.in_err-end.ensures.fault)

pub returns-clause-tgd : goal.returns-clause-tgd
returns-clause-tgd c =
    let body = Leads-join (rule_tests c.args.rules.now c.args.pool.now) c.args.bytes.now c.args.from wants_tgd_name c.in_ok-name.name.token.end (wants_colon (body_of_tgd c.in_ok-name.name.text))
    c.in_ok-body.body.end (after_arrow c.in_ok-name.name.text (said_of c.in_ok-body.body.vars c.in_ok-body.body.list))
    (c.in_ok-name.ensures.name c.args.pool.now) (c.in_ok-body.ensures.body (body_of_tgd c.in_ok-name.name.text) refl) in
    let head = Leads-join (rule_tests c.args.rules.now c.args.pool.now) c.args.bytes.now c.args.from wants_tgd_name c.in_ok-body.body.end (after_arrow c.in_ok-name.name.text (said_of c.in_ok-body.body.vars c.in_ok-body.body.list))
    c.in_ok-head.head.end (after_atom (head_of_tgd c.in_ok-name.name.text c.in_ok-body.body.list (length c.in_ok-body.body.vars)) (said_of c.in_ok-head.head.vars c.in_ok-head.head.list))
    body (c.in_ok-head.ensures.head c.in_ok-name.name.text c.in_ok-body.body.list) in
    rw (c.into_items.ensures, c.len-body_vars.ensures) (Leads-join (rule_tests c.args.rules.now c.args.pool.now) c.args.bytes.now c.args.from wants_tgd_name c.in_ok-head.head.end (after_atom (head_of_tgd c.in_ok-name.name.text c.in_ok-body.body.list (length c.in_ok-body.body.vars)) (said_of c.in_ok-head.head.vars c.in_ok-head.head.list))
    c.in_ok-end.end (stated (Tgd (record {
      name = c.in_ok-name.name.text;
      vars = c.in_ok-head.head.vars;
      body_vars = length c.in_ok-body.body.vars;
      body = c.in_ok-body.body.list;
      head = c.in_ok-head.head.list;
    }))) head
    (tgd_ends c.args.rules.now c.args.pool.now c.args.bytes.now c.in_ok-head.head.end c.in_ok-name.name.text c.in_ok-body.body.list (length c.in_ok-body.body.vars) (said_of c.in_ok-head.head.vars c.in_ok-head.head.list)
    c.in_ok-end.end c.in_ok-end.ensures.end))
