use Rattle.std.proofs.Common.{◌≡◌, ℕ, ◌≤◌, List, [], ◌∷◌, ◌++◌, length, Err, sym, subst, rules}
use Rattle.rule_core.specs.declared.rules.Branch.{Branch}
use Rattle.decl_text.specs.Tests.{Leads}
use Rattle.decl_text.proofs.TestLemmas.{Leads-join, Fails-later}
use Rattle.decl_text.proofs.DeclarationLemmas.{IfFault-later}
use Rattle.rule_text.specs.declared.follows.After.{After}
use Rattle.rule_text.specs.Behind.{behind_disjuncts}
use Rattle.rule_text.specs.Follows.{offset_of}
use Rattle.rule_text.specs.RuleLine.{disjunct_of, nothing_said, wants_atom, rule_tests}
use Rattle.rule_text.proofs.LineLemmas.{known_later}
use Rattle.rule_text.proofs.query.read_disjuncts.Goals as goal

pub read_disjunct-requires-clause-known : goal.read_disjunct-requires-clause-known
read_disjunct-requires-clause-known c =
    let name : List ℕ = [] in
    known_later (rule_tests c.args.rules.now c.args.pool.now) c.args.bytes.now c.args.pool.now c.args.from (wants_atom (disjunct_of name c.args.head.now []) nothing_said) c.loop-branches.from
    (wants_atom (disjunct_of name c.args.head.now c.loop-branches.branches) nothing_said) (c.loop-branches.invariant.leads name) c.requires.known

pub returns-in_err-read-clause-fault : goal.returns-in_err-read-clause-fault
returns-in_err-read-clause-fault c name =
    let answer : c.from_residual.result ≡ Err c.in_err-read.field-0.0 = search rules in
    rw answer (IfFault-later c.in_err-read.field-0.0 _ _
    (λ fault. Fails-later (rule_tests c.args.rules.now c.args.pool.now) c.args.bytes.now c.args.from (wants_atom (disjunct_of name c.args.head.now []) nothing_said) c.loop-branches.from
    (wants_atom (disjunct_of name c.args.head.now c.loop-branches.branches) nothing_said) fault (c.loop-branches.invariant.leads name))
    (c.in_err-read.ensures.fault name c.loop-branches.branches (sym c.len.ensures)))

pub returns-in-Closed-clause-disjuncts : goal.returns-in-Closed-clause-disjuncts
returns-in-Closed-clause-disjuncts c name =
    let so_far = subst (λ (all : List Branch). Leads (rule_tests c.args.rules.now c.args.pool.now) c.args.bytes.now c.args.from (wants_atom (disjunct_of name c.args.head.now []) nothing_said)
    (offset_of c.in_ok-read.read.after) (behind_disjuncts name c.args.head.now all c.in_ok-read.read.after)) (sym c.in_ok-push.ensures.ok)
    (Leads-join (rule_tests c.args.rules.now c.args.pool.now) c.args.bytes.now c.args.from (wants_atom (disjunct_of name c.args.head.now []) nothing_said) c.loop-branches.from (wants_atom (disjunct_of name c.args.head.now c.loop-branches.branches) nothing_said)
    (offset_of c.in_ok-read.read.after) (behind_disjuncts name c.args.head.now (c.loop-branches.branches ++ c.in_ok-read.read.branch ∷ []) c.in_ok-read.read.after)
    (c.loop-branches.invariant.leads name) (c.in_ok-read.ensures.disjunct name c.loop-branches.branches (sym c.len.ensures))) in
    subst (λ (after : After). Leads (rule_tests c.args.rules.now c.args.pool.now) c.args.bytes.now c.args.from (wants_atom (disjunct_of name c.args.head.now []) nothing_said)
    (offset_of after) (behind_disjuncts name c.args.head.now c.push.new.self after)) c.in-Closed.is so_far

pub loop-branches-preserved : goal.loop-branches-preserved
loop-branches-preserved c = record {
  within = subst (λ (after : After). offset_of after ≤ length c.args.bytes.now) c.in-Next.is c.in_ok-read.ensures.within;
  leads = λ name.
      let so_far = subst (λ (all : List Branch). Leads (rule_tests c.args.rules.now c.args.pool.now) c.args.bytes.now c.args.from (wants_atom (disjunct_of name c.args.head.now []) nothing_said)
      (offset_of c.in_ok-read.read.after) (behind_disjuncts name c.args.head.now all c.in_ok-read.read.after)) (sym c.in_ok-push.ensures.ok)
      (Leads-join (rule_tests c.args.rules.now c.args.pool.now) c.args.bytes.now c.args.from (wants_atom (disjunct_of name c.args.head.now []) nothing_said) c.loop-branches.from (wants_atom (disjunct_of name c.args.head.now c.loop-branches.branches) nothing_said)
      (offset_of c.in_ok-read.read.after) (behind_disjuncts name c.args.head.now (c.loop-branches.branches ++ c.in_ok-read.read.branch ∷ []) c.in_ok-read.read.after)
      (c.loop-branches.invariant.leads name) (c.in_ok-read.ensures.disjunct name c.loop-branches.branches (sym c.len.ensures))) in
      subst (λ (after : After). Leads (rule_tests c.args.rules.now c.args.pool.now) c.args.bytes.now c.args.from (wants_atom (disjunct_of name c.args.head.now []) nothing_said)
      (offset_of after) (behind_disjuncts name c.args.head.now c.push.new.self after)) c.in-Next.is so_far;
}
