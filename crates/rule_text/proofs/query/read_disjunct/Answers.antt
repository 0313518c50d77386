use Rattle.std.proofs.Common.{◌≡◌, ℕ, ◌<◌, ◌≤◌, List, [], length, All, Contains, Err, refl, subst, rules, arith}
use Rattle.decl_text.proofs.DeclarationLemmas.{IfFault-later}
use Rattle.rule_text.proofs.WantedLemmas.{rule_wants}
use Rattle.decl_text.specs.declared.token.Kind.TheVariants.{Bar}
use Rattle.decl_text.specs.Tests.{Leads, Fails}
use Rattle.decl_text.proofs.TestLemmas.{Fails-later, Fails-own}
use Rattle.rule_text.specs.Behind.{GoesOn, IsColumnList}
use Rattle.rule_text.specs.Frames.{said_of}
use Rattle.rule_text.specs.RuleLine.{disjunct_of, nothing_said, wants_atom, after_atom, AreColumns, rule_tests}
use Rattle.rule_text.specs.Follows.{offset_of}
use Rattle.decl_text.proofs.TestLemmas.{Leads-join}
use Rattle.rule_text.proofs.QuerySteps.{bar_goes_on, behind_ends, wrong_behind, head_missing_at, bars_too_many, disjunct_ends}
use Rattle.rule_text.proofs.query.read_disjunct.Goals as goal

pub returns-in_err-read-clause-fault : goal.returns-in_err-read-clause-fault
returns-in_err-read-clause-fault c name branches count =
    let answer : c.from_residual.result ≡ Err c.in_err-read.field-0.0 = search rules in
    rw answer (IfFault-later c.in_err-read.field-0.0 _ _
    (λ fault fails. subst (λ (vars : List (List ℕ)). Fails (rule_tests c.args.rules.now c.args.pool.now) c.args.bytes.now c.args.from
    (wants_atom (disjunct_of name c.args.head.now branches) (said_of vars [])) fault) c.new.ensures (fails (disjunct_of name c.args.head.now branches) refl)) c.in_err-read.ensures.fault)

pub returns-in_err-token-clause-fault : goal.returns-in_err-token-clause-fault
returns-in_err-token-clause-fault c name branches count =
    let answer : c.from_residual-in_err-token.result ≡ Err c.in_err-token.field-0.0 = search rules in
    let so_far = subst (λ (vars : List (List ℕ)). Leads (rule_tests c.args.rules.now c.args.pool.now) c.args.bytes.now c.args.from
    (wants_atom (disjunct_of name c.args.head.now branches) (said_of vars [])) c.in_ok-read.read.end (after_atom (disjunct_of name c.args.head.now branches) (said_of c.in_ok-read.read.vars c.in_ok-read.read.list))) c.new.ensures
    (c.in_ok-read.ensures.atoms (disjunct_of name c.args.head.now branches) refl) in
    rw answer (IfFault-later c.in_err-token.field-0.0 _ _
    (λ fault own. Fails-later (rule_tests c.args.rules.now c.args.pool.now) c.args.bytes.now c.args.from (wants_atom (disjunct_of name c.args.head.now branches) nothing_said) c.in_ok-read.read.end
    (after_atom (disjunct_of name c.args.head.now branches) (said_of c.in_ok-read.read.vars c.in_ok-read.read.list)) fault so_far
    (Fails-own (rule_tests c.args.rules.now c.args.pool.now) c.args.bytes.now c.in_ok-read.read.end (after_atom (disjunct_of name c.args.head.now branches) (said_of c.in_ok-read.read.vars c.in_ok-read.read.list)) (rule_wants c.args.rules.now c.args.pool.now (after_atom (disjunct_of name c.args.head.now branches) (said_of c.in_ok-read.read.vars c.in_ok-read.read.list)) tt) fault own)) c.in_err-token.ensures.fault)

pub returns-in_default-clause-fault : goal.returns-in_default-clause-fault
returns-in_default-clause-fault c name branches count =
    let says = c.in_ok-token.ensures.says in
    let so_far = subst (λ (vars : List (List ℕ)). Leads (rule_tests c.args.rules.now c.args.pool.now) c.args.bytes.now c.args.from
    (wants_atom (disjunct_of name c.args.head.now branches) (said_of vars [])) c.in_ok-read.read.end (after_atom (disjunct_of name c.args.head.now branches) (said_of c.in_ok-read.read.vars c.in_ok-read.read.list))) c.new.ensures
    (c.in_ok-read.ensures.atoms (disjunct_of name c.args.head.now branches) refl) in
    rw c.fault_at.ensures (Fails-later (rule_tests c.args.rules.now c.args.pool.now) c.args.bytes.now c.args.from (wants_atom (disjunct_of name c.args.head.now branches) nothing_said) c.in_ok-read.read.end
    (after_atom (disjunct_of name c.args.head.now branches) (said_of c.in_ok-read.read.vars c.in_ok-read.read.list)) _ so_far
    (wrong_behind c.args.rules.now c.args.pool.now c.args.bytes.now c.in_ok-read.read.end name c.args.head.now branches
    (said_of c.in_ok-read.read.vars c.in_ok-read.read.list) c.in_ok-token.token says.0 says.1 c.in_ok-read.ensures.last c.in_default.ensures.none))

pub returns-in_default-2-clause-fault : goal.returns-in_default-2-clause-fault
returns-in_default-2-clause-fault c name branches count =
    let says = c.in_ok-token.ensures.says in
    let so_far = subst (λ (vars : List (List ℕ)). Leads (rule_tests c.args.rules.now c.args.pool.now) c.args.bytes.now c.args.from
    (wants_atom (disjunct_of name c.args.head.now branches) (said_of vars [])) c.in_ok-read.read.end (after_atom (disjunct_of name c.args.head.now branches) (said_of c.in_ok-read.read.vars c.in_ok-read.read.list))) c.new.ensures
    (c.in_ok-read.ensures.atoms (disjunct_of name c.args.head.now branches) refl) in
    let list = subst (IsColumnList c.in_ok-read.read.vars c.as_slice.result.now) c.in_default-2.is c.in_ok-columns.ensures in
    let none = subst (λ (head : List (List ℕ)). ¬ All (Contains c.in_ok-read.read.vars) head) c.as_slice.ensures list in
    rw c.fault_at-in_default-2.ensures (Fails-later (rule_tests c.args.rules.now c.args.pool.now) c.args.bytes.now c.args.from (wants_atom (disjunct_of name c.args.head.now branches) nothing_said) c.in_ok-read.read.end
    (after_atom (disjunct_of name c.args.head.now branches) (said_of c.in_ok-read.read.vars c.in_ok-read.read.list)) _ so_far
    (head_missing_at c.args.rules.now c.args.pool.now c.args.bytes.now c.in_ok-read.read.end name c.args.head.now branches
    (said_of c.in_ok-read.read.vars c.in_ok-read.read.list) c.in_ok-token.token says.0 says.1 (behind_ends c.in_ok-token.token c.in-Some.after c.in-Some.ensures.stands) none))

pub returns-then-before-ge-MOST_BARS-clause-fault : goal.returns-then-before-ge-MOST_BARS-clause-fault
returns-then-before-ge-MOST_BARS-clause-fault c name branches count =
    let says = c.in_ok-token.ensures.says in
    let so_far = subst (λ (vars : List (List ℕ)). Leads (rule_tests c.args.rules.now c.args.pool.now) c.args.bytes.now c.args.from
    (wants_atom (disjunct_of name c.args.head.now branches) (said_of vars [])) c.in_ok-read.read.end (after_atom (disjunct_of name c.args.head.now branches) (said_of c.in_ok-read.read.vars c.in_ok-read.read.list))) c.new.ensures
    (c.in_ok-read.ensures.atoms (disjunct_of name c.args.head.now branches) refl) in
    let list = subst (IsColumnList c.in_ok-read.read.vars c.as_slice.result.now) c.in-Some-2.is c.in_ok-columns.ensures in
    let are = subst (λ (head : List (List ℕ)). AreColumns c.in_ok-read.read.vars head c.in-Some-2.columns) c.as_slice.ensures list in
    let bar : c.in_ok-token.token.kind ≡ Bar = search rules in
    let full : 7 ≤ length branches = omega arith in
    rw c.fault_at-then-before-ge-MOST_BARS.ensures (Fails-later (rule_tests c.args.rules.now c.args.pool.now) c.args.bytes.now c.args.from (wants_atom (disjunct_of name c.args.head.now branches) nothing_said) c.in_ok-read.read.end
    (after_atom (disjunct_of name c.args.head.now branches) (said_of c.in_ok-read.read.vars c.in_ok-read.read.list)) _ so_far
    (bars_too_many c.args.rules.now c.args.pool.now c.args.bytes.now c.in_ok-read.read.end name c.args.head.now branches
    (said_of c.in_ok-read.read.vars c.in_ok-read.read.list) c.in_ok-token.token says.0 says.1 c.in-Some-2.columns bar are full))

pub returns-clause-disjunct : goal.returns-clause-disjunct
returns-clause-disjunct c name branches count =
    let says = c.in_ok-token.ensures.says in
    let so_far = subst (λ (vars : List (List ℕ)). Leads (rule_tests c.args.rules.now c.args.pool.now) c.args.bytes.now c.args.from
    (wants_atom (disjunct_of name c.args.head.now branches) (said_of vars [])) c.in_ok-read.read.end (after_atom (disjunct_of name c.args.head.now branches) (said_of c.in_ok-read.read.vars c.in_ok-read.read.list))) c.new.ensures
    (c.in_ok-read.ensures.atoms (disjunct_of name c.args.head.now branches) refl) in
    let list = subst (IsColumnList c.in_ok-read.read.vars c.as_slice.result.now) c.in-Some-2.is c.in_ok-columns.ensures in
    let are = subst (λ (head : List (List ℕ)). AreColumns c.in_ok-read.read.vars head c.in-Some-2.columns) c.as_slice.ensures list in
    let few : GoesOn c.in-Some.after → length branches < 7 = λ more.
    let bar = bar_goes_on c.in_ok-token.token c.in-Some.after c.in-Some.ensures.stands more in
    let small : c.args.before < 7 = search rules in omega arith in
    rw c.into_items.ensures (Leads-join (rule_tests c.args.rules.now c.args.pool.now) c.args.bytes.now c.args.from (wants_atom (disjunct_of name c.args.head.now branches) nothing_said) c.in_ok-read.read.end
    (after_atom (disjunct_of name c.args.head.now branches) (said_of c.in_ok-read.read.vars c.in_ok-read.read.list)) (offset_of c.in-Some.after) _ so_far
    (disjunct_ends c.args.rules.now c.args.pool.now c.args.bytes.now c.in_ok-read.read.end name c.args.head.now branches
    (said_of c.in_ok-read.read.vars c.in_ok-read.read.list) c.in_ok-token.token says.0 says.1 c.in-Some-2.columns c.in-Some.after c.in-Some.ensures.stands few are))
