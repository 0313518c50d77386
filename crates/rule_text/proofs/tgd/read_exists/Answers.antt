use Rattle.std.proofs.Common.{◌≡◌, ℕ, ◌≤◌, List, [], ◌∷◌, ◌++◌, length, Err, sym, subst, rules}
use Rattle.decl_text.specs.declared.token.Kind.TheVariants.{Colon}
use Rattle.decl_text.specs.Tests.{Leads}
use Rattle.decl_text.proofs.TestLemmas.{Leads-join, Fails-later}
use Rattle.decl_text.proofs.DeclarationLemmas.{IfFault-later}
use Rattle.rule_text.specs.Frames.{said_of}
use Rattle.rule_text.specs.RuleLine.{head_of_tgd, wants_exists_variable, wants_exists_comma, wants_atom, rule_tests}
use Rattle.rule_text.specs.declared.follows.After.{After}
use Rattle.rule_text.specs.Follows.{offset_of, IsAfter}
use Rattle.rule_text.proofs.RuleLemmas.{exists_comma_goes, exists_colon_goes, exists_comma_fails}
use Rattle.rule_text.proofs.tgd.read_exists.Goals as goal

pub returns-in_err-name-clause-fault : goal.returns-in_err-name-clause-fault
returns-in_err-name-clause-fault c set pool name body count =
    let answer : c.from_residual.result ≡ Err c.in_err-name.field-0.0 = search rules in
    rw answer (IfFault-later c.in_err-name.field-0.0 _ _
    (λ fault. Fails-later (rule_tests set pool) c.args.bytes.now c.args.from (wants_exists_variable name body count c.args.vars)
    c.loop-vars.from (wants_exists_variable name body count c.loop-vars.vars) fault
    (c.loop-vars.invariant.leads set pool name body count))
    (c.in_err-name.ensures.fault set pool name body count))

pub returns-in_err-after-clause-fault : goal.returns-in_err-after-clause-fault
returns-in_err-after-clause-fault c set pool name body count =
    let answer : c.from_residual-in_err-after.result ≡ Err c.in_err-after.field-0.0 = search rules in
    let so_far = subst (λ (all : List (List ℕ)). Leads (rule_tests set pool) c.args.bytes.now c.args.from (wants_exists_variable name body count c.args.vars)
    c.in_ok-name.name.token.end (wants_exists_comma name body count all)) (sym c.in_ok-push.ensures.last)
    (Leads-join (rule_tests set pool) c.args.bytes.now c.args.from (wants_exists_variable name body count c.args.vars) c.loop-vars.from
    (wants_exists_variable name body count c.loop-vars.vars) c.in_ok-name.name.token.end (wants_exists_comma name body count (c.loop-vars.vars ++ c.in_ok-name.name.text ∷ []))
    (c.loop-vars.invariant.leads set pool name body count) (c.in_ok-name.ensures.variable set pool name body count)) in
    rw answer (IfFault-later c.in_err-after.field-0.0 _ _
    (λ fault fails. Fails-later (rule_tests set pool) c.args.bytes.now c.args.from (wants_exists_variable name body count c.args.vars)
    c.in_ok-name.name.token.end (wants_exists_comma name body count c.push.new.self) fault so_far
    (exists_comma_fails set pool c.args.bytes.now c.in_ok-name.name.token.end name body count c.push.new.self fault fails)) c.in_err-after.ensures.fault)

pub returns-in-Closed-clause-list : goal.returns-in-Closed-clause-list
returns-in-Closed-clause-list c set pool name body count =
    let sign = subst (IsAfter c.args.bytes.now c.in_ok-name.name.token.end Colon) c.in-Closed.is c.in_ok-after.ensures.after in
    let so_far = subst (λ (all : List (List ℕ)). Leads (rule_tests set pool) c.args.bytes.now c.args.from (wants_exists_variable name body count c.args.vars)
    c.in_ok-name.name.token.end (wants_exists_comma name body count all)) (sym c.in_ok-push.ensures.last)
    (Leads-join (rule_tests set pool) c.args.bytes.now c.args.from (wants_exists_variable name body count c.args.vars) c.loop-vars.from
    (wants_exists_variable name body count c.loop-vars.vars) c.in_ok-name.name.token.end (wants_exists_comma name body count (c.loop-vars.vars ++ c.in_ok-name.name.text ∷ []))
    (c.loop-vars.invariant.leads set pool name body count) (c.in_ok-name.ensures.variable set pool name body count)) in
    Leads-join (rule_tests set pool) c.args.bytes.now c.args.from (wants_exists_variable name body count c.args.vars)
    c.in_ok-name.name.token.end (wants_exists_comma name body count c.push.new.self)
    c.in-Closed.end (wants_atom (head_of_tgd name body count) (said_of c.push.new.self [])) so_far
    (exists_colon_goes set pool c.args.bytes.now c.in_ok-name.name.token.end name body count c.push.new.self c.in-Closed.end sign)

pub loop-vars-preserved : goal.loop-vars-preserved
loop-vars-preserved c =
    let sign = subst (IsAfter c.args.bytes.now c.in_ok-name.name.token.end Colon) c.in-Next.is c.in_ok-after.ensures.after in
    record {
      within = subst (λ (a : After). offset_of a ≤ length c.args.bytes.now) c.in-Next.is c.in_ok-after.ensures.within;
      leads = λ set pool name body count.
          let so_far = subst (λ (all : List (List ℕ)). Leads (rule_tests set pool) c.args.bytes.now c.args.from (wants_exists_variable name body count c.args.vars)
          c.in_ok-name.name.token.end (wants_exists_comma name body count all)) (sym c.in_ok-push.ensures.last)
          (Leads-join (rule_tests set pool) c.args.bytes.now c.args.from (wants_exists_variable name body count c.args.vars) c.loop-vars.from
          (wants_exists_variable name body count c.loop-vars.vars) c.in_ok-name.name.token.end (wants_exists_comma name body count (c.loop-vars.vars ++ c.in_ok-name.name.text ∷ []))
          (c.loop-vars.invariant.leads set pool name body count) (c.in_ok-name.ensures.variable set pool name body count)) in
          Leads-join (rule_tests set pool) c.args.bytes.now c.args.from (wants_exists_variable name body count c.args.vars)
          c.in_ok-name.name.token.end (wants_exists_comma name body count c.push.new.self)
          c.in-Next.next (wants_exists_variable name body count c.push.new.self) so_far
          (exists_comma_goes set pool c.args.bytes.now c.in_ok-name.name.token.end name body count c.push.new.self c.in-Next.next sign);
    }
