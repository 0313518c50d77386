use Rattle.std.proofs.Common.{◌≡◌, ℕ, ◌≤◌, List, [], ◌∷◌, ◌++◌, length, Err, sym, subst, rules}
use Rattle.decl_text.specs.declared.token.Kind.TheVariants.{RightParen}
use Rattle.decl_text.specs.Tests.{Leads}
use Rattle.decl_text.proofs.TestLemmas.{Leads-join, Fails-later}
use Rattle.decl_text.proofs.DeclarationLemmas.{IfFault-later}
use Rattle.rule_text.specs.RuleLine.{disjunct_of, wants_head_variable, wants_head_comma, wants_colon, rule_tests}
use Rattle.rule_text.specs.declared.follows.After.{After}
use Rattle.rule_text.specs.Follows.{offset_of, IsAfter}
use Rattle.rule_text.proofs.QuerySteps.{head_comma_goes, head_closes, head_comma_fails}
use Rattle.rule_text.proofs.query.read_head_variables.Goals as goal

pub returns-in_err-name-clause-fault : goal.returns-in_err-name-clause-fault
returns-in_err-name-clause-fault c set pool name =
    let answer : c.from_residual.result ≡ Err c.in_err-name.field-0.0 = search rules in
    rw answer (IfFault-later c.in_err-name.field-0.0 _ _
    (λ fault. Fails-later (rule_tests set pool) c.args.bytes.now c.args.from (wants_head_variable name [])
    c.loop-names.from (wants_head_variable name c.loop-names.names) fault
    (c.loop-names.invariant.leads set pool name))
    (c.in_err-name.ensures.fault set pool name))

pub returns-in_err-after-clause-fault : goal.returns-in_err-after-clause-fault
returns-in_err-after-clause-fault c set pool name =
    let answer : c.from_residual-in_err-after.result ≡ Err c.in_err-after.field-0.0 = search rules in
    let so_far = subst (λ (all : List (List ℕ)). Leads (rule_tests set pool) c.args.bytes.now c.args.from (wants_head_variable name [])
    c.in_ok-name.name.token.end (wants_head_comma name all)) (sym c.in_ok-push.ensures.ok)
    (Leads-join (rule_tests set pool) c.args.bytes.now c.args.from (wants_head_variable name []) c.loop-names.from
    (wants_head_variable name c.loop-names.names) c.in_ok-name.name.token.end (wants_head_comma name (c.loop-names.names ++ c.in_ok-name.name.text ∷ []))
    (c.loop-names.invariant.leads set pool name) (c.in_ok-name.ensures.variable set pool name)) in
    rw answer (IfFault-later c.in_err-after.field-0.0 _ _
    (λ fault fails. Fails-later (rule_tests set pool) c.args.bytes.now c.args.from (wants_head_variable name [])
    c.in_ok-name.name.token.end (wants_head_comma name c.push.new.self) fault so_far
    (head_comma_fails set pool c.args.bytes.now c.in_ok-name.name.token.end name c.push.new.self fault fails)) c.in_err-after.ensures.fault)

pub returns-in-Closed-clause-head : goal.returns-in-Closed-clause-head
returns-in-Closed-clause-head c set pool name =
    let sign = subst (IsAfter c.args.bytes.now c.in_ok-name.name.token.end RightParen) c.in-Closed.is c.in_ok-after.ensures.after in
    let so_far = subst (λ (all : List (List ℕ)). Leads (rule_tests set pool) c.args.bytes.now c.args.from (wants_head_variable name [])
    c.in_ok-name.name.token.end (wants_head_comma name all)) (sym c.in_ok-push.ensures.ok)
    (Leads-join (rule_tests set pool) c.args.bytes.now c.args.from (wants_head_variable name []) c.loop-names.from
    (wants_head_variable name c.loop-names.names) c.in_ok-name.name.token.end (wants_head_comma name (c.loop-names.names ++ c.in_ok-name.name.text ∷ []))
    (c.loop-names.invariant.leads set pool name) (c.in_ok-name.ensures.variable set pool name)) in
    Leads-join (rule_tests set pool) c.args.bytes.now c.args.from (wants_head_variable name [])
    c.in_ok-name.name.token.end (wants_head_comma name c.push.new.self)
    c.in-Closed.end (wants_colon (disjunct_of name c.push.new.self [])) so_far
    (head_closes set pool c.args.bytes.now c.in_ok-name.name.token.end name c.push.new.self c.in-Closed.end sign)

pub loop-names-preserved : goal.loop-names-preserved
loop-names-preserved c =
    let sign = subst (IsAfter c.args.bytes.now c.in_ok-name.name.token.end RightParen) c.in-Next.is c.in_ok-after.ensures.after in
    record {
      within = subst (λ (a : After). offset_of a ≤ length c.args.bytes.now) c.in-Next.is c.in_ok-after.ensures.within;
      leads = λ set pool name.
          let so_far = subst (λ (all : List (List ℕ)). Leads (rule_tests set pool) c.args.bytes.now c.args.from (wants_head_variable name [])
          c.in_ok-name.name.token.end (wants_head_comma name all)) (sym c.in_ok-push.ensures.ok)
          (Leads-join (rule_tests set pool) c.args.bytes.now c.args.from (wants_head_variable name []) c.loop-names.from
          (wants_head_variable name c.loop-names.names) c.in_ok-name.name.token.end (wants_head_comma name (c.loop-names.names ++ c.in_ok-name.name.text ∷ []))
          (c.loop-names.invariant.leads set pool name) (c.in_ok-name.ensures.variable set pool name)) in
          Leads-join (rule_tests set pool) c.args.bytes.now c.args.from (wants_head_variable name [])
          c.in_ok-name.name.token.end (wants_head_comma name c.push.new.self)
          c.in-Next.next (wants_head_variable name c.push.new.self) so_far
          (head_comma_goes set pool c.args.bytes.now c.in_ok-name.name.token.end name c.push.new.self c.in-Next.next sign);
    }
