use Rattle.std.proofs.Common.{◌≡◌, [], Err, refl, rules}
use Rattle.decl_text.proofs.TestLemmas.{Leads-join, Fails-later}
use Rattle.decl_text.proofs.DeclarationLemmas.{IfFault-later}
use Rattle.rule_text.specs.RuleLine.{disjunct_of, nothing_said, wants_query_name, wants_head_parenthesis, wants_head, wants_colon, wants_atom, stated, rule_tests}
use Rattle.rule_text.proofs.LineLemmas.{known_later}
use Rattle.rule_text.proofs.RuleLemmas.{colon_goes, colon_fails}
use Rattle.rule_text.proofs.QuerySteps.{query_of, head_opens, head_opens_not}
use Rattle.rule_text.proofs.query.read_query.Goals as goal

pub returns-in_err-name-clause-fault : goal.returns-in_err-name-clause-fault
returns-in_err-name-clause-fault c =
    let answer : c.from_residual.result ≡ Err c.in_err-name.field-0.0 = search rules in
    rw answer (IfFault-later c.in_err-name.field-0.0 _ _ (λ fault fails. fails) (c.in_err-name.ensures.fault c.args.pool.now))

pub returns-in_err-after-clause-fault : goal.returns-in_err-after-clause-fault
returns-in_err-after-clause-fault c =
    let answer : c.from_residual-in_err-after.result ≡ Err c.in_err-after.field-0.0 = search rules in
    rw answer (IfFault-later c.in_err-after.field-0.0 _ _
    (λ fault fails. Fails-later (rule_tests c.args.rules.now c.args.pool.now) c.args.bytes.now c.args.from wants_query_name c.in_ok-name.name.token.end (wants_head_parenthesis c.in_ok-name.name.text) fault
    (c.in_ok-name.ensures.name c.args.pool.now) (head_opens_not c.args.rules.now c.args.pool.now c.args.bytes.now c.in_ok-name.name.token.end c.in_ok-name.name.text fault fails)) c.in_err-after.ensures.fault)

pub returns-in_err-head-clause-fault : goal.returns-in_err-head-clause-fault
returns-in_err-head-clause-fault c =
    let answer : c.from_residual-in_err-head.result ≡ Err c.in_err-head.field-0.0 = search rules in
    let opens = Leads-join (rule_tests c.args.rules.now c.args.pool.now) c.args.bytes.now c.args.from wants_query_name c.in_ok-name.name.token.end (wants_head_parenthesis c.in_ok-name.name.text)
    c.in_ok-after.after (wants_head c.in_ok-name.name.text) (c.in_ok-name.ensures.name c.args.pool.now)
    (head_opens c.args.rules.now c.args.pool.now c.args.bytes.now c.in_ok-name.name.token.end c.in_ok-name.name.text c.in_ok-after.after c.in_ok-after.ensures.sign) in
    rw answer (IfFault-later c.in_err-head.field-0.0 _ _
    (λ fault. Fails-later (rule_tests c.args.rules.now c.args.pool.now) c.args.bytes.now c.args.from wants_query_name c.in_ok-after.after (wants_head c.in_ok-name.name.text) fault opens)
    (c.in_err-head.ensures.fault c.args.rules.now c.args.pool.now c.in_ok-name.name.text))

pub returns-in_err-colon-clause-fault : goal.returns-in_err-colon-clause-fault
returns-in_err-colon-clause-fault c =
    let answer : c.from_residual-in_err-colon.result ≡ Err c.in_err-colon.field-0.0 = search rules in
    let opens = Leads-join (rule_tests c.args.rules.now c.args.pool.now) c.args.bytes.now c.args.from wants_query_name c.in_ok-name.name.token.end (wants_head_parenthesis c.in_ok-name.name.text)
    c.in_ok-after.after (wants_head c.in_ok-name.name.text) (c.in_ok-name.ensures.name c.args.pool.now)
    (head_opens c.args.rules.now c.args.pool.now c.args.bytes.now c.in_ok-name.name.token.end c.in_ok-name.name.text c.in_ok-after.after c.in_ok-after.ensures.sign) in
    let head = Leads-join (rule_tests c.args.rules.now c.args.pool.now) c.args.bytes.now c.args.from wants_query_name c.in_ok-after.after (wants_head c.in_ok-name.name.text)
    c.in_ok-head.head.end (wants_colon (disjunct_of c.in_ok-name.name.text c.in_ok-head.head.names [])) opens
    (c.in_ok-head.ensures.head c.args.rules.now c.args.pool.now c.in_ok-name.name.text) in
    rw answer (IfFault-later c.in_err-colon.field-0.0 _ _
    (λ fault fails. Fails-later (rule_tests c.args.rules.now c.args.pool.now) c.args.bytes.now c.args.from wants_query_name c.in_ok-head.head.end (wants_colon (disjunct_of c.in_ok-name.name.text c.in_ok-head.head.names [])) fault head
    (colon_fails c.args.rules.now c.args.pool.now c.args.bytes.now c.in_ok-head.head.end (disjunct_of c.in_ok-name.name.text c.in_ok-head.head.names []) _ fault refl fails)) c.in_err-colon.ensures.fault)

pub read_disjuncts-requires-clause-known : goal.read_disjuncts-requires-clause-known
read_disjuncts-requires-clause-known c =
    let opens = Leads-join (rule_tests c.args.rules.now c.args.pool.now) c.args.bytes.now c.args.from wants_query_name c.in_ok-name.name.token.end (wants_head_parenthesis c.in_ok-name.name.text)
    c.in_ok-after.after (wants_head c.in_ok-name.name.text) (c.in_ok-name.ensures.name c.args.pool.now)
    (head_opens c.args.rules.now c.args.pool.now c.args.bytes.now c.in_ok-name.name.token.end c.in_ok-name.name.text c.in_ok-after.after c.in_ok-after.ensures.sign) in
    let head = Leads-join (rule_tests c.args.rules.now c.args.pool.now) c.args.bytes.now c.args.from wants_query_name c.in_ok-after.after (wants_head c.in_ok-name.name.text)
    c.in_ok-head.head.end (wants_colon (disjunct_of c.in_ok-name.name.text c.in_ok-head.head.names [])) opens
    (c.in_ok-head.ensures.head c.args.rules.now c.args.pool.now c.in_ok-name.name.text) in
    let colon = Leads-join (rule_tests c.args.rules.now c.args.pool.now) c.args.bytes.now c.args.from wants_query_name c.in_ok-head.head.end (wants_colon (disjunct_of c.in_ok-name.name.text c.in_ok-head.head.names []))
    c.in_ok-colon.colon (wants_atom (disjunct_of c.in_ok-name.name.text c.in_ok-head.head.names []) nothing_said) head
    (colon_goes c.args.rules.now c.args.pool.now c.args.bytes.now c.in_ok-head.head.end (disjunct_of c.in_ok-name.name.text c.in_ok-head.head.names []) c.in_ok-colon.colon c.in_ok-colon.ensures.sign) in
    known_later (rule_tests c.args.rules.now c.args.pool.now) c.args.bytes.now c.args.pool.now c.args.from wants_query_name c.in_ok-colon.colon (wants_atom (disjunct_of c.in_ok-name.name.text c.in_ok-head.head.names []) nothing_said) colon c.requires.known

pub returns-in_err-read-clause-fault : goal.returns-in_err-read-clause-fault
returns-in_err-read-clause-fault c =
    let answer : c.from_residual-in_err-read.result ≡ Err c.in_err-read.field-0.0 = search rules in
    let opens = Leads-join (rule_tests c.args.rules.now c.args.pool.now) c.args.bytes.now c.args.from wants_query_name c.in_ok-name.name.token.end (wants_head_parenthesis c.in_ok-name.name.text)
    c.in_ok-after.after (wants_head c.in_ok-name.name.text) (c.in_ok-name.ensures.name c.args.pool.now)
    (head_opens c.args.rules.now c.args.pool.now c.args.bytes.now c.in_ok-name.name.token.end c.in_ok-name.name.text c.in_ok-after.after c.in_ok-after.ensures.sign) in
    let head = Leads-join (rule_tests c.args.rules.now c.args.pool.now) c.args.bytes.now c.args.from wants_query_name c.in_ok-after.after (wants_head c.in_ok-name.name.text)
    c.in_ok-head.head.end (wants_colon (disjunct_of c.in_ok-name.name.text c.in_ok-head.head.names [])) opens
    (c.in_ok-head.ensures.head c.args.rules.now c.args.pool.now c.in_ok-name.name.text) in
    let colon = Leads-join (rule_tests c.args.rules.now c.args.pool.now) c.args.bytes.now c.args.from wants_query_name c.in_ok-head.head.end (wants_colon (disjunct_of c.in_ok-name.name.text c.in_ok-head.head.names []))
    c.in_ok-colon.colon (wants_atom (disjunct_of c.in_ok-name.name.text c.in_ok-head.head.names []) nothing_said) head
    (colon_goes c.args.rules.now c.args.pool.now c.args.bytes.now c.in_ok-head.head.end (disjunct_of c.in_ok-name.name.text c.in_ok-head.head.names []) c.in_ok-colon.colon c.in_ok-colon.ensures.sign) in
    rw answer (IfFault-later c.in_err-read.field-0.0 _ _
    (λ fault. Fails-later (rule_tests c.args.rules.now c.args.pool.now) c.args.bytes.now c.args.from wants_query_name c.in_ok-colon.colon (wants_atom (disjunct_of c.in_ok-name.name.text c.in_ok-head.head.names []) nothing_said) fault colon)
    (c.in_err-read.ensures.fault c.in_ok-name.name.text))

pub returns-clause-query : goal.returns-clause-query
returns-clause-query c =
    let opens = Leads-join (rule_tests c.args.rules.now c.args.pool.now) c.args.bytes.now c.args.from wants_query_name c.in_ok-name.name.token.end (wants_head_parenthesis c.in_ok-name.name.text)
    c.in_ok-after.after (wants_head c.in_ok-name.name.text) (c.in_ok-name.ensures.name c.args.pool.now)
    (head_opens c.args.rules.now c.args.pool.now c.args.bytes.now c.in_ok-name.name.token.end c.in_ok-name.name.text c.in_ok-after.after c.in_ok-after.ensures.sign) in
    let head = Leads-join (rule_tests c.args.rules.now c.args.pool.now) c.args.bytes.now c.args.from wants_query_name c.in_ok-after.after (wants_head c.in_ok-name.name.text)
    c.in_ok-head.head.end (wants_colon (disjunct_of c.in_ok-name.name.text c.in_ok-head.head.names [])) opens
    (c.in_ok-head.ensures.head c.args.rules.now c.args.pool.now c.in_ok-name.name.text) in
    let colon = Leads-join (rule_tests c.args.rules.now c.args.pool.now) c.args.bytes.now c.args.from wants_query_name c.in_ok-head.head.end (wants_colon (disjunct_of c.in_ok-name.name.text c.in_ok-head.head.names []))
    c.in_ok-colon.colon (wants_atom (disjunct_of c.in_ok-name.name.text c.in_ok-head.head.names []) nothing_said) head
    (colon_goes c.args.rules.now c.args.pool.now c.args.bytes.now c.in_ok-head.head.end (disjunct_of c.in_ok-name.name.text c.in_ok-head.head.names []) c.in_ok-colon.colon c.in_ok-colon.ensures.sign) in
    Leads-join (rule_tests c.args.rules.now c.args.pool.now) c.args.bytes.now c.args.from wants_query_name c.in_ok-colon.colon (wants_atom (disjunct_of c.in_ok-name.name.text c.in_ok-head.head.names []) nothing_said)
    c.in_ok-read.read.end (stated (query_of c.in_ok-name.name.text c.in_ok-head.head.names c.in_ok-read.read.branches)) colon
    (c.in_ok-read.ensures.disjuncts c.in_ok-name.name.text)
