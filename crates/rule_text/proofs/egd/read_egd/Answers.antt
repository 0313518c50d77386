use Rattle.std.proofs.Common.{◌≡◌, Err, refl, rules}
use Rattle.decl_text.proofs.TestLemmas.{Leads-join, Fails-later}
use Rattle.decl_text.proofs.DeclarationLemmas.{IfFault-later}
use Rattle.rule_text.specs.Frames.{said_of}
use Rattle.rule_text.specs.RuleLine.{body_of_egd, wants_egd_name, wants_colon, wants_left, wants_equals, wants_right, wants_line_end, stated, rule_tests}
use Rattle.rule_text.proofs.LineLemmas.{known_later}
use Rattle.rule_text.proofs.RuleLemmas.{egd_of, left_goes, left_fails, equals_goes, equals_fails, right_goes, right_fails, egd_ends, egd_goes_on}
use Rattle.rule_text.proofs.egd.read_egd.Goals as goal

pub returns-in_err-name-clause-fault : goal.returns-in_err-name-clause-fault
returns-in_err-name-clause-fault c =
    let answer : c.from_residual.result ≡ Err c.in_err-name.field-0.0 = search rules in
    rw answer (IfFault-later c.in_err-name.field-0.0 _ _ (λ fault fails. fails) (c.in_err-name.ensures.fault c.args.pool.now))

pub read_body-requires-clause-known : goal.read_body-requires-clause-known
read_body-requires-clause-known c =
    known_later (rule_tests c.args.rules.now c.args.pool.now) c.args.bytes.now c.args.pool.now c.args.from wants_egd_name c.in_ok-name.name.token.end (wants_colon (body_of_egd c.in_ok-name.name.text))
    (c.in_ok-name.ensures.name c.args.pool.now) c.requires.known

pub returns-in_err-body-clause-fault : goal.returns-in_err-body-clause-fault
returns-in_err-body-clause-fault c =
    let answer : c.from_residual-in_err-body.result ≡ Err c.in_err-body.field-0.0 = search rules in
    rw answer (IfFault-later c.in_err-body.field-0.0 _ _
    (λ fault fails. Fails-later (rule_tests c.args.rules.now c.args.pool.now) c.args.bytes.now c.args.from wants_egd_name c.in_ok-name.name.token.end (wants_colon (body_of_egd c.in_ok-name.name.text)) fault
    (c.in_ok-name.ensures.name c.args.pool.now) (fails (body_of_egd c.in_ok-name.name.text) refl)) c.in_err-body.ensures.fault)

pub returns-in_err-left-clause-fault : goal.returns-in_err-left-clause-fault
returns-in_err-left-clause-fault c =
    let answer : c.from_residual-in_err-left.result ≡ Err c.in_err-left.field-0.0 = search rules in
    let body = Leads-join (rule_tests c.args.rules.now c.args.pool.now) c.args.bytes.now c.args.from wants_egd_name c.in_ok-name.name.token.end (wants_colon (body_of_egd c.in_ok-name.name.text))
    c.in_ok-body.body.end (wants_left c.in_ok-name.name.text (said_of c.in_ok-body.body.vars c.in_ok-body.body.list)) (c.in_ok-name.ensures.name c.args.pool.now)
    (c.in_ok-body.ensures.body (body_of_egd c.in_ok-name.name.text) refl) in
    rw answer (IfFault-later c.in_err-left.field-0.0 _ _
    (λ fault fails. Fails-later (rule_tests c.args.rules.now c.args.pool.now) c.args.bytes.now c.args.from wants_egd_name c.in_ok-body.body.end (wants_left c.in_ok-name.name.text (said_of c.in_ok-body.body.vars c.in_ok-body.body.list)) fault body
    (left_fails c.args.rules.now c.args.pool.now c.args.bytes.now c.in_ok-body.body.end c.in_ok-name.name.text (said_of c.in_ok-body.body.vars c.in_ok-body.body.list) fault fails)) c.in_err-left.ensures.fault)

pub returns-in_err-equals-clause-fault : goal.returns-in_err-equals-clause-fault
returns-in_err-equals-clause-fault c =
    let answer : c.from_residual-in_err-equals.result ≡ Err c.in_err-equals.field-0.0 = search rules in
    let body = Leads-join (rule_tests c.args.rules.now c.args.pool.now) c.args.bytes.now c.args.from wants_egd_name c.in_ok-name.name.token.end (wants_colon (body_of_egd c.in_ok-name.name.text))
    c.in_ok-body.body.end (wants_left c.in_ok-name.name.text (said_of c.in_ok-body.body.vars c.in_ok-body.body.list)) (c.in_ok-name.ensures.name c.args.pool.now)
    (c.in_ok-body.ensures.body (body_of_egd c.in_ok-name.name.text) refl) in
    let left = Leads-join (rule_tests c.args.rules.now c.args.pool.now) c.args.bytes.now c.args.from wants_egd_name c.in_ok-body.body.end (wants_left c.in_ok-name.name.text (said_of c.in_ok-body.body.vars c.in_ok-body.body.list))
    c.in_ok-left.left.end (wants_equals c.in_ok-name.name.text (said_of c.in_ok-body.body.vars c.in_ok-body.body.list) c.in_ok-left.left.variable) body
    (left_goes c.args.rules.now c.args.pool.now c.args.bytes.now c.in_ok-body.body.end c.in_ok-name.name.text (said_of c.in_ok-body.body.vars c.in_ok-body.body.list) c.in_ok-left.left.variable c.in_ok-left.left.end c.in_ok-left.ensures.side) in
    rw answer (IfFault-later c.in_err-equals.field-0.0 _ _
    (λ fault fails. Fails-later (rule_tests c.args.rules.now c.args.pool.now) c.args.bytes.now c.args.from wants_egd_name c.in_ok-left.left.end (wants_equals c.in_ok-name.name.text (said_of c.in_ok-body.body.vars c.in_ok-body.body.list) c.in_ok-left.left.variable) fault left
    (equals_fails c.args.rules.now c.args.pool.now c.args.bytes.now c.in_ok-left.left.end c.in_ok-name.name.text (said_of c.in_ok-body.body.vars c.in_ok-body.body.list) c.in_ok-left.left.variable fault fails)) c.in_err-equals.ensures.fault)

pub returns-in_err-right-clause-fault : goal.returns-in_err-right-clause-fault
returns-in_err-right-clause-fault c =
    let answer : c.from_residual-in_err-right.result ≡ Err c.in_err-right.field-0.0 = search rules in
    let body = Leads-join (rule_tests c.args.rules.now c.args.pool.now) c.args.bytes.now c.args.from wants_egd_name c.in_ok-name.name.token.end (wants_colon (body_of_egd c.in_ok-name.name.text))
    c.in_ok-body.body.end (wants_left c.in_ok-name.name.text (said_of c.in_ok-body.body.vars c.in_ok-body.body.list)) (c.in_ok-name.ensures.name c.args.pool.now)
    (c.in_ok-body.ensures.body (body_of_egd c.in_ok-name.name.text) refl) in
    let left = Leads-join (rule_tests c.args.rules.now c.args.pool.now) c.args.bytes.now c.args.from wants_egd_name c.in_ok-body.body.end (wants_left c.in_ok-name.name.text (said_of c.in_ok-body.body.vars c.in_ok-body.body.list))
    c.in_ok-left.left.end (wants_equals c.in_ok-name.name.text (said_of c.in_ok-body.body.vars c.in_ok-body.body.list) c.in_ok-left.left.variable) body
    (left_goes c.args.rules.now c.args.pool.now c.args.bytes.now c.in_ok-body.body.end c.in_ok-name.name.text (said_of c.in_ok-body.body.vars c.in_ok-body.body.list) c.in_ok-left.left.variable c.in_ok-left.left.end c.in_ok-left.ensures.side) in
    let equals = Leads-join (rule_tests c.args.rules.now c.args.pool.now) c.args.bytes.now c.args.from wants_egd_name c.in_ok-left.left.end (wants_equals c.in_ok-name.name.text (said_of c.in_ok-body.body.vars c.in_ok-body.body.list) c.in_ok-left.left.variable)
    c.in_ok-equals.equals (wants_right c.in_ok-name.name.text (said_of c.in_ok-body.body.vars c.in_ok-body.body.list) c.in_ok-left.left.variable) left
    (equals_goes c.args.rules.now c.args.pool.now c.args.bytes.now c.in_ok-left.left.end c.in_ok-name.name.text (said_of c.in_ok-body.body.vars c.in_ok-body.body.list) c.in_ok-left.left.variable c.in_ok-equals.equals c.in_ok-equals.ensures.sign) in
    rw answer (IfFault-later c.in_err-right.field-0.0 _ _
    (λ fault fails. Fails-later (rule_tests c.args.rules.now c.args.pool.now) c.args.bytes.now c.args.from wants_egd_name c.in_ok-equals.equals (wants_right c.in_ok-name.name.text (said_of c.in_ok-body.body.vars c.in_ok-body.body.list) c.in_ok-left.left.variable) fault equals
    (right_fails c.args.rules.now c.args.pool.now c.args.bytes.now c.in_ok-equals.equals c.in_ok-name.name.text (said_of c.in_ok-body.body.vars c.in_ok-body.body.list) c.in_ok-left.left.variable fault fails)) c.in_err-right.ensures.fault)

pub returns-in_err-end-clause-fault : goal.returns-in_err-end-clause-fault
returns-in_err-end-clause-fault c =
    let answer : c.from_residual-in_err-end.result ≡ Err c.in_err-end.field-0.0 = search rules in
    let body = Leads-join (rule_tests c.args.rules.now c.args.pool.now) c.args.bytes.now c.args.from wants_egd_name c.in_ok-name.name.token.end (wants_colon (body_of_egd c.in_ok-name.name.text))
    c.in_ok-body.body.end (wants_left c.in_ok-name.name.text (said_of c.in_ok-body.body.vars c.in_ok-body.body.list)) (c.in_ok-name.ensures.name c.args.pool.now)
    (c.in_ok-body.ensures.body (body_of_egd c.in_ok-name.name.text) refl) in
    let left = Leads-join (rule_tests c.args.rules.now c.args.pool.now) c.args.bytes.now c.args.from wants_egd_name c.in_ok-body.body.end (wants_left c.in_ok-name.name.text (said_of c.in_ok-body.body.vars c.in_ok-body.body.list))
    c.in_ok-left.left.end (wants_equals c.in_ok-name.name.text (said_of c.in_ok-body.body.vars c.in_ok-body.body.list) c.in_ok-left.left.variable) body
    (left_goes c.args.rules.now c.args.pool.now c.args.bytes.now c.in_ok-body.body.end c.in_ok-name.name.text (said_of c.in_ok-body.body.vars c.in_ok-body.body.list) c.in_ok-left.left.variable c.in_ok-left.left.end c.in_ok-left.ensures.side) in
    let equals = Leads-join (rule_tests c.args.rules.now c.args.pool.now) c.args.bytes.now c.args.from wants_egd_name c.in_ok-left.left.end (wants_equals c.in_ok-name.name.text (said_of c.in_ok-body.body.vars c.in_ok-body.body.list) c.in_ok-left.left.variable)
    c.in_ok-equals.equals (wants_right c.in_ok-name.name.text (said_of c.in_ok-body.body.vars c.in_ok-body.body.list) c.in_ok-left.left.variable) left
    (equals_goes c.args.rules.now c.args.pool.now c.args.bytes.now c.in_ok-left.left.end c.in_ok-name.name.text (said_of c.in_ok-body.body.vars c.in_ok-body.body.list) c.in_ok-left.left.variable c.in_ok-equals.equals c.in_ok-equals.ensures.sign) in
    let right = Leads-join (rule_tests c.args.rules.now c.args.pool.now) c.args.bytes.now c.args.from wants_egd_name c.in_ok-equals.equals (wants_right c.in_ok-name.name.text (said_of c.in_ok-body.body.vars c.in_ok-body.body.list) c.in_ok-left.left.variable)
    c.in_ok-right.right.end (wants_line_end (egd_of c.in_ok-name.name.text (said_of c.in_ok-body.body.vars c.in_ok-body.body.list) c.in_ok-left.left.variable c.in_ok-right.right.variable)) equals
    (right_goes c.args.rules.now c.args.pool.now c.args.bytes.now c.in_ok-equals.equals c.in_ok-name.name.text (said_of c.in_ok-body.body.vars c.in_ok-body.body.list) c.in_ok-left.left.variable c.in_ok-right.right.variable c.in_ok-right.right.end c.in_ok-right.ensures.side) in
    rw answer (IfFault-later c.in_err-end.field-0.0 _ _
    (λ fault fails. Fails-later (rule_tests c.args.rules.now c.args.pool.now) c.args.bytes.now c.args.from wants_egd_name c.in_ok-right.right.end (wants_line_end (egd_of c.in_ok-name.name.text (said_of c.in_ok-body.body.vars c.in_ok-body.body.list) c.in_ok-left.left.variable c.in_ok-right.right.variable)) fault right
    (egd_goes_on c.args.rules.now c.args.pool.now c.args.bytes.now c.in_ok-right.right.end (egd_of c.in_ok-name.name.text (said_of c.in_ok-body.body.vars c.in_ok-body.body.list) c.in_ok-left.left.variable c.in_ok-right.right.variable) fault fails)) c.in_err-end.ensures.fault)

pub returns-clause-egd : goal.returns-clause-egd
returns-clause-egd c =
    let body = Leads-join (rule_tests c.args.rules.now c.args.pool.now) c.args.bytes.now c.args.from wants_egd_name c.in_ok-name.name.token.end (wants_colon (body_of_egd c.in_ok-name.name.text))
    c.in_ok-body.body.end (wants_left c.in_ok-name.name.text (said_of c.in_ok-body.body.vars c.in_ok-body.body.list)) (c.in_ok-name.ensures.name c.args.pool.now)
    (c.in_ok-body.ensures.body (body_of_egd c.in_ok-name.name.text) refl) in
    let left = Leads-join (rule_tests c.args.rules.now c.args.pool.now) c.args.bytes.now c.args.from wants_egd_name c.in_ok-body.body.end (wants_left c.in_ok-name.name.text (said_of c.in_ok-body.body.vars c.in_ok-body.body.list))
    c.in_ok-left.left.end (wants_equals c.in_ok-name.name.text (said_of c.in_ok-body.body.vars c.in_ok-body.body.list) c.in_ok-left.left.variable) body
    (left_goes c.args.rules.now c.args.pool.now c.args.bytes.now c.in_ok-body.body.end c.in_ok-name.name.text (said_of c.in_ok-body.body.vars c.in_ok-body.body.list) c.in_ok-left.left.variable c.in_ok-left.left.end c.in_ok-left.ensures.side) in
    let equals = Leads-join (rule_tests c.args.rules.now c.args.pool.now) c.args.bytes.now c.args.from wants_egd_name c.in_ok-left.left.end (wants_equals c.in_ok-name.name.text (said_of c.in_ok-body.body.vars c.in_ok-body.body.list) c.in_ok-left.left.variable)
    c.in_ok-equals.equals (wants_right c.in_ok-name.name.text (said_of c.in_ok-body.body.vars c.in_ok-body.body.list) c.in_ok-left.left.variable) left
    (equals_goes c.args.rules.now c.args.pool.now c.args.bytes.now c.in_ok-left.left.end c.in_ok-name.name.text (said_of c.in_ok-body.body.vars c.in_ok-body.body.list) c.in_ok-left.left.variable c.in_ok-equals.equals c.in_ok-equals.ensures.sign) in
    let right = Leads-join (rule_tests c.args.rules.now c.args.pool.now) c.args.bytes.now c.args.from wants_egd_name c.in_ok-equals.equals (wants_right c.in_ok-name.name.text (said_of c.in_ok-body.body.vars c.in_ok-body.body.list) c.in_ok-left.left.variable)
    c.in_ok-right.right.end (wants_line_end (egd_of c.in_ok-name.name.text (said_of c.in_ok-body.body.vars c.in_ok-body.body.list) c.in_ok-left.left.variable c.in_ok-right.right.variable)) equals
    (right_goes c.args.rules.now c.args.pool.now c.args.bytes.now c.in_ok-equals.equals c.in_ok-name.name.text (said_of c.in_ok-body.body.vars c.in_ok-body.body.list) c.in_ok-left.left.variable c.in_ok-right.right.variable c.in_ok-right.right.end c.in_ok-right.ensures.side) in
    rw c.into_items.ensures (Leads-join (rule_tests c.args.rules.now c.args.pool.now) c.args.bytes.now c.args.from wants_egd_name c.in_ok-right.right.end (wants_line_end (egd_of c.in_ok-name.name.text (said_of c.in_ok-body.body.vars c.in_ok-body.body.list) c.in_ok-left.left.variable c.in_ok-right.right.variable))
    c.in_ok-end.end (stated (egd_of c.in_ok-name.name.text (said_of c.in_ok-body.body.vars c.in_ok-body.body.list) c.in_ok-left.left.variable c.in_ok-right.right.variable)) right
    (egd_ends c.args.rules.now c.args.pool.now c.args.bytes.now c.in_ok-right.right.end (egd_of c.in_ok-name.name.text (said_of c.in_ok-body.body.vars c.in_ok-body.body.list) c.in_ok-left.left.variable c.in_ok-right.right.variable)
    c.in_ok-end.end c.in_ok-end.ensures.end))
