use Rattle.std.proofs.Common.{◌≡◌, ℕ, List, [], length, codes, Err, refl, subst, rules}
use Rattle.decl_text.proofs.DeclarationLemmas.{IfFault-later}
use Rattle.rule_text.proofs.WantedLemmas.{rule_wants}
use Rattle.std.proofs.lemmas.Result.{IfOk-weaker}
use Rattle.rule_core.specs.declared.rules.Atom.{Atom}
use Rattle.decl_text.specs.declared.token.Token.{Token}
use Rattle.decl_text.specs.Declaration.{IsKeyword}
use Rattle.decl_text.specs.Parts.{StandsNext}
use Rattle.decl_text.specs.Tests.{Lexeme}
use Rattle.decl_text.proofs.NextLemmas.{next_token_once}
use Rattle.decl_text.proofs.TestLemmas.{Leads-join, Fails-later, Fails-own}
use Rattle.rule_text.specs.Frames.{said_of}
use Rattle.rule_text.specs.RuleLine.{head_of_tgd, after_arrow, wants_exists_variable, wants_atom, after_atom, rule_tests}
use Rattle.rule_text.proofs.LineLemmas.{fault_weaker, known_later}
use Rattle.rule_text.proofs.RuleLemmas.{exists_goes, head_at_once_goes, head_at_once_fails}
use Rattle.rule_text.proofs.tgd.read_head.Goals as goal

pub returns-in_err-token-clause-fault : goal.returns-in_err-token-clause-fault
returns-in_err-token-clause-fault c name body =
    let answer : c.from_residual.result ≡ Err c.in_err-token.field-0.0 = search rules in
    rw answer (IfFault-later c.in_err-token.field-0.0 _ _ (Fails-own (rule_tests c.args.rules.now c.args.pool.now) c.args.bytes.now c.args.from (after_arrow name (said_of c.args.vars body)) (rule_wants c.args.rules.now c.args.pool.now (after_arrow name (said_of c.args.vars body)) tt)) c.in_err-token.ensures.fault)

pub returns-then-not-is_word-clause-head : goal.returns-then-not-is_word-clause-head
returns-then-not-is_word-clause-head c name body =
    let other : (token : Token) (lexeme : Lexeme) → StandsNext c.args.bytes.now c.args.from token lexeme → ¬ (IsKeyword lexeme (codes "exists")) =
    λ token lexeme stands word.
    let one = next_token_once c.args.bytes.now c.args.from token c.in_ok-token.token stands.next c.in_ok-token.ensures.token in
    let yes_ = (c.is_word.ensures c.args.from lexeme (subst (λ (t : Token). StandsNext c.args.bytes.now c.args.from t lexeme) one stands)).1 word in
    cc in
    IfOk-weaker c.read_atoms.result _ _
    (λ read leads. head_at_once_goes c.args.rules.now c.args.pool.now c.args.bytes.now c.args.from name c.args.vars body other
    read.end (said_of read.vars read.list) (leads (head_of_tgd name body (length c.args.vars)) refl)) c.read_atoms.ensures.atoms

pub returns-then-not-is_word-clause-fault : goal.returns-then-not-is_word-clause-fault
returns-then-not-is_word-clause-fault c name body =
    let other : (token : Token) (lexeme : Lexeme) → StandsNext c.args.bytes.now c.args.from token lexeme → ¬ (IsKeyword lexeme (codes "exists")) =
    λ token lexeme stands word.
    let one = next_token_once c.args.bytes.now c.args.from token c.in_ok-token.token stands.next c.in_ok-token.ensures.token in
    let yes_ = (c.is_word.ensures c.args.from lexeme (subst (λ (t : Token). StandsNext c.args.bytes.now c.args.from t lexeme) one stands)).1 word in
    cc in
    fault_weaker c.read_atoms.result _ _
    (λ fault fails. head_at_once_fails c.args.rules.now c.args.pool.now c.args.bytes.now c.args.from name c.args.vars body other fault
    (fails (head_of_tgd name body (length c.args.vars)) refl)) c.read_atoms.ensures.fault

pub returns-in_err-exists-clause-fault : goal.returns-in_err-exists-clause-fault
returns-in_err-exists-clause-fault c name body =
    let answer : c.from_residual-in_err-exists.result ≡ Err c.in_err-exists.field-0.0 = search rules in
    let says = c.in_ok-token.ensures.says in
    let word : IsKeyword says.0 (codes "exists") = (c.is_word.ensures c.args.from says.0 says.1).0 (search rules) in
    rw answer (IfFault-later c.in_err-exists.field-0.0 _ _
    (λ fault. Fails-later (rule_tests c.args.rules.now c.args.pool.now) c.args.bytes.now c.args.from (after_arrow name (said_of c.args.vars body)) c.in_ok-token.token.end
    (wants_exists_variable name body (length c.args.vars) c.args.vars) fault
    (exists_goes c.args.rules.now c.args.pool.now c.args.bytes.now c.args.from name (said_of c.args.vars body) c.in_ok-token.token says.0 says.1 word))
    (c.in_err-exists.ensures.fault c.args.rules.now c.args.pool.now name body (length c.args.vars)))

pub read_atoms-requires-2-clause-known : goal.read_atoms-requires-2-clause-known
read_atoms-requires-2-clause-known c =
    let name : List ℕ = [] in
    let body : List Atom = [] in
    let says = c.in_ok-token.ensures.says in
    let word : IsKeyword says.0 (codes "exists") = (c.is_word.ensures c.args.from says.0 says.1).0 (search rules) in
    let exists = Leads-join (rule_tests c.args.rules.now c.args.pool.now) c.args.bytes.now c.args.from (after_arrow name (said_of c.args.vars body)) c.in_ok-token.token.end
    (wants_exists_variable name body (length c.args.vars) c.args.vars) c.in_ok-exists.exists.end
    (wants_atom (head_of_tgd name body (length c.args.vars)) (said_of c.in_ok-exists.exists.vars []))
    (exists_goes c.args.rules.now c.args.pool.now c.args.bytes.now c.args.from name (said_of c.args.vars body) c.in_ok-token.token says.0 says.1 word)
    (c.in_ok-exists.ensures.list c.args.rules.now c.args.pool.now name body (length c.args.vars)) in
    known_later (rule_tests c.args.rules.now c.args.pool.now) c.args.bytes.now c.args.pool.now c.args.from (after_arrow name (said_of c.args.vars body)) c.in_ok-exists.exists.end
    (wants_atom (head_of_tgd name body (length c.args.vars)) (said_of c.in_ok-exists.exists.vars [])) exists c.requires.known

pub returns-clause-head : goal.returns-clause-head
returns-clause-head c name body =
    let says = c.in_ok-token.ensures.says in
    let word : IsKeyword says.0 (codes "exists") = (c.is_word.ensures c.args.from says.0 says.1).0 (search rules) in
    let exists = Leads-join (rule_tests c.args.rules.now c.args.pool.now) c.args.bytes.now c.args.from (after_arrow name (said_of c.args.vars body)) c.in_ok-token.token.end
    (wants_exists_variable name body (length c.args.vars) c.args.vars) c.in_ok-exists.exists.end
    (wants_atom (head_of_tgd name body (length c.args.vars)) (said_of c.in_ok-exists.exists.vars []))
    (exists_goes c.args.rules.now c.args.pool.now c.args.bytes.now c.args.from name (said_of c.args.vars body) c.in_ok-token.token says.0 says.1 word)
    (c.in_ok-exists.ensures.list c.args.rules.now c.args.pool.now name body (length c.args.vars)) in
    IfOk-weaker c.read_atoms-2.result _ _
    (λ read leads. Leads-join (rule_tests c.args.rules.now c.args.pool.now) c.args.bytes.now c.args.from (after_arrow name (said_of c.args.vars body)) c.in_ok-exists.exists.end
    (wants_atom (head_of_tgd name body (length c.args.vars)) (said_of c.in_ok-exists.exists.vars [])) read.end
    (after_atom (head_of_tgd name body (length c.args.vars)) (said_of read.vars read.list)) exists
    (leads (head_of_tgd name body (length c.args.vars)) refl)) c.read_atoms-2.ensures.atoms

pub returns-clause-fault : goal.returns-clause-fault
returns-clause-fault c name body =
    let says = c.in_ok-token.ensures.says in
    let word : IsKeyword says.0 (codes "exists") = (c.is_word.ensures c.args.from says.0 says.1).0 (search rules) in
    let exists = Leads-join (rule_tests c.args.rules.now c.args.pool.now) c.args.bytes.now c.args.from (after_arrow name (said_of c.args.vars body)) c.in_ok-token.token.end
    (wants_exists_variable name body (length c.args.vars) c.args.vars) c.in_ok-exists.exists.end
    (wants_atom (head_of_tgd name body (length c.args.vars)) (said_of c.in_ok-exists.exists.vars []))
    (exists_goes c.args.rules.now c.args.pool.now c.args.bytes.now c.args.from name (said_of c.args.vars body) c.in_ok-token.token says.0 says.1 word)
    (c.in_ok-exists.ensures.list c.args.rules.now c.args.pool.now name body (length c.args.vars)) in
    fault_weaker c.read_atoms-2.result _ _
    (λ fault fails. Fails-later (rule_tests c.args.rules.now c.args.pool.now) c.args.bytes.now c.args.from (after_arrow name (said_of c.args.vars body)) c.in_ok-exists.exists.end
    (wants_atom (head_of_tgd name body (length c.args.vars)) (said_of c.in_ok-exists.exists.vars [])) fault exists
    (fails (head_of_tgd name body (length c.args.vars)) refl)) c.read_atoms-2.ensures.fault
