use Rattle.std.proofs.Common.{◌≡◌, Err, rules}
use Rattle.decl_text.proofs.DeclarationLemmas.{IfFault-later}
use Rattle.rule_text.proofs.WantedLemmas.{rule_wants}
use Rattle.decl_text.proofs.TestLemmas.{Leads-join, Fails-later, Fails-own}
use Rattle.rule_text.specs.RuleLine.{begins, wants_tgd_name, wants_egd_name, wants_query_name, stated, rule_tests}
use Rattle.rule_text.specs.declared.rule.Rule.TheVariants.{Tgd, Egd, Query}
use Rattle.rule_text.proofs.LineLemmas.{known_later}
use Rattle.rule_text.proofs.RuleLemmas.{tgd_begins, egd_begins, query_begins, nothing_begins}
use Rattle.rule_text.proofs.reading.read_line.Goals as goal

pub returns-in_err-token-clause-fault : goal.returns-in_err-token-clause-fault
returns-in_err-token-clause-fault c =
    let answer : c.from_residual.result ≡ Err c.in_err-token.field-0.0 = search rules in
    rw answer (IfFault-later c.in_err-token.field-0.0 _ _ (Fails-own (rule_tests c.args.rules.now c.args.pool.now) c.args.bytes.now c.args.from begins (rule_wants c.args.rules.now c.args.pool.now begins tt)) c.in_err-token.ensures.fault)

pub read_tgd-requires-clause-known : goal.read_tgd-requires-clause-known
read_tgd-requires-clause-known c =
    let says = c.in_ok-token.ensures.says in
    known_later (rule_tests c.args.rules.now c.args.pool.now) c.args.bytes.now c.args.pool.now c.args.from begins c.in_ok-token.token.end
    wants_tgd_name (tgd_begins c.args.rules.now c.args.pool.now c.args.bytes.now c.args.from c.in_ok-token.token says.0 says.1
    ((c.is_word.ensures c.args.from says.0 says.1).0 c.if-is_word.true)) c.requires.known

pub returns-in_err-tgd-clause-fault : goal.returns-in_err-tgd-clause-fault
returns-in_err-tgd-clause-fault c =
    let answer : c.from_residual-in_err-tgd.result ≡ Err c.in_err-tgd.field-0.0 = search rules in
    let says = c.in_ok-token.ensures.says in
    rw answer (IfFault-later c.in_err-tgd.field-0.0 _ _
    (λ fault. Fails-later (rule_tests c.args.rules.now c.args.pool.now) c.args.bytes.now c.args.from begins c.in_ok-token.token.end wants_tgd_name fault
    (tgd_begins c.args.rules.now c.args.pool.now c.args.bytes.now c.args.from c.in_ok-token.token says.0 says.1
    ((c.is_word.ensures c.args.from says.0 says.1).0 c.if-is_word.true))) c.in_err-tgd.ensures.fault)

pub returns-then-is_word-clause-states : goal.returns-then-is_word-clause-states
returns-then-is_word-clause-states c =
    let says = c.in_ok-token.ensures.says in
    Leads-join (rule_tests c.args.rules.now c.args.pool.now) c.args.bytes.now c.args.from begins c.in_ok-token.token.end wants_tgd_name
    c.in_ok-tgd.end (stated (Tgd c.in_ok-tgd.tgd))
    (tgd_begins c.args.rules.now c.args.pool.now c.args.bytes.now c.args.from c.in_ok-token.token says.0 says.1
    ((c.is_word.ensures c.args.from says.0 says.1).0 c.if-is_word.true)) c.in_ok-tgd.ensures.tgd

pub read_egd-requires-clause-known : goal.read_egd-requires-clause-known
read_egd-requires-clause-known c =
    let says = c.in_ok-token.ensures.says in
    known_later (rule_tests c.args.rules.now c.args.pool.now) c.args.bytes.now c.args.pool.now c.args.from begins c.in_ok-token.token.end
    wants_egd_name (egd_begins c.args.rules.now c.args.pool.now c.args.bytes.now c.args.from c.in_ok-token.token says.0 says.1
    (λ word. let yes_ = (c.is_word.ensures c.args.from says.0 says.1).1 word in cc)
    ((c.is_word-2.ensures c.args.from says.0 says.1).0 c.if-is_word-2.true)) c.requires.known

pub returns-in_err-egd-clause-fault : goal.returns-in_err-egd-clause-fault
returns-in_err-egd-clause-fault c =
    let answer : c.from_residual-in_err-egd.result ≡ Err c.in_err-egd.field-0.0 = search rules in
    let says = c.in_ok-token.ensures.says in
    rw answer (IfFault-later c.in_err-egd.field-0.0 _ _
    (λ fault. Fails-later (rule_tests c.args.rules.now c.args.pool.now) c.args.bytes.now c.args.from begins c.in_ok-token.token.end wants_egd_name fault
    (egd_begins c.args.rules.now c.args.pool.now c.args.bytes.now c.args.from c.in_ok-token.token says.0 says.1
    (λ word. let yes_ = (c.is_word.ensures c.args.from says.0 says.1).1 word in cc)
    ((c.is_word-2.ensures c.args.from says.0 says.1).0 c.if-is_word-2.true))) c.in_err-egd.ensures.fault)

pub returns-then-is_word-2-clause-states : goal.returns-then-is_word-2-clause-states
returns-then-is_word-2-clause-states c =
    let says = c.in_ok-token.ensures.says in
    Leads-join (rule_tests c.args.rules.now c.args.pool.now) c.args.bytes.now c.args.from begins c.in_ok-token.token.end wants_egd_name
    c.in_ok-egd.end (stated (Egd c.in_ok-egd.egd))
    (egd_begins c.args.rules.now c.args.pool.now c.args.bytes.now c.args.from c.in_ok-token.token says.0 says.1
    (λ word. let yes_ = (c.is_word.ensures c.args.from says.0 says.1).1 word in cc)
    ((c.is_word-2.ensures c.args.from says.0 says.1).0 c.if-is_word-2.true)) c.in_ok-egd.ensures.egd

pub read_query-requires-clause-known : goal.read_query-requires-clause-known
read_query-requires-clause-known c =
    let says = c.in_ok-token.ensures.says in
    known_later (rule_tests c.args.rules.now c.args.pool.now) c.args.bytes.now c.args.pool.now c.args.from begins c.in_ok-token.token.end
    wants_query_name (query_begins c.args.rules.now c.args.pool.now c.args.bytes.now c.args.from c.in_ok-token.token says.0 says.1
    (λ word. let yes_ = (c.is_word.ensures c.args.from says.0 says.1).1 word in cc)
    (λ word. let yes_ = (c.is_word-2.ensures c.args.from says.0 says.1).1 word in cc)
    ((c.is_word-3.ensures c.args.from says.0 says.1).0 c.if-is_word-3.true)) c.requires.known

pub returns-in_err-query-clause-fault : goal.returns-in_err-query-clause-fault
returns-in_err-query-clause-fault c =
    let answer : c.from_residual-in_err-query.result ≡ Err c.in_err-query.field-0.0 = search rules in
    let says = c.in_ok-token.ensures.says in
    rw answer (IfFault-later c.in_err-query.field-0.0 _ _
    (λ fault. Fails-later (rule_tests c.args.rules.now c.args.pool.now) c.args.bytes.now c.args.from begins c.in_ok-token.token.end wants_query_name fault
    (query_begins c.args.rules.now c.args.pool.now c.args.bytes.now c.args.from c.in_ok-token.token says.0 says.1
    (λ word. let yes_ = (c.is_word.ensures c.args.from says.0 says.1).1 word in cc)
    (λ word. let yes_ = (c.is_word-2.ensures c.args.from says.0 says.1).1 word in cc)
    ((c.is_word-3.ensures c.args.from says.0 says.1).0 c.if-is_word-3.true))) c.in_err-query.ensures.fault)

pub returns-then-is_word-3-clause-states : goal.returns-then-is_word-3-clause-states
returns-then-is_word-3-clause-states c =
    let says = c.in_ok-token.ensures.says in
    Leads-join (rule_tests c.args.rules.now c.args.pool.now) c.args.bytes.now c.args.from begins c.in_ok-token.token.end wants_query_name
    c.in_ok-query.end (stated (Query c.in_ok-query.query))
    (query_begins c.args.rules.now c.args.pool.now c.args.bytes.now c.args.from c.in_ok-token.token says.0 says.1
    (λ word. let yes_ = (c.is_word.ensures c.args.from says.0 says.1).1 word in cc)
    (λ word. let yes_ = (c.is_word-2.ensures c.args.from says.0 says.1).1 word in cc)
    ((c.is_word-3.ensures c.args.from says.0 says.1).0 c.if-is_word-3.true)) c.in_ok-query.ensures.query

pub returns-clause-fault : goal.returns-clause-fault
returns-clause-fault c =
    let says = c.in_ok-token.ensures.says in
    rw c.fault_at.ensures (nothing_begins c.args.rules.now c.args.pool.now c.args.bytes.now c.args.from c.in_ok-token.token says.0 says.1
    (λ word. let yes_ = (c.is_word.ensures c.args.from says.0 says.1).1 word in cc)
    (λ word. let yes_ = (c.is_word-2.ensures c.args.from says.0 says.1).1 word in cc)
    (λ word. let yes_ = (c.is_word-3.ensures c.args.from says.0 says.1).1 word in cc))
