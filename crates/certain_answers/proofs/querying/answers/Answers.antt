use Rattle.std.proofs.Common.{◌≡◌, ◌↔◌, ℤ, ◌∙◌, List, subst, take}
use Rattle.std.proofs.lemmas.List.{take_all}
use Rattle.std.proofs.lemmas.Result.{IfOk-weaker}
use Rattle.term_core.specs.declared.term.Term.{Term}
use Rattle.rule_core.specs.declared.rules.Branch.{Branch}
use Rattle.rule_core.specs.declared.rules.Query.{Query}
use Rattle.rule_core.specs.Coalesced.{Covers}
use Rattle.certain_answers.specs.Answering.{CoversAnswers}
use Rattle.certain_answers.proofs.AnswerLemmas.{Entry, CoversBranches, covers_more, covers_all}
use Rattle.certain_answers.proofs.querying.answers.Goals as goal

pub loop-branch-preserved : goal.loop-branch-preserved
loop-branch-preserved g c =
    covers_more (g.F.FactSource.rows c.args.source.now) c.as_slice-branch-items.result.now c.loop-branch.branch-index
    c.branch-item.result c.loop-branch.rows.items c.in_ok-rows.rows.items c.loop-branch-test.true c.branch-item.is
    c.loop-branch.invariant c.in_ok-rows.ensures

pub returns-clause-answers : goal.returns-clause-answers
returns-clause-answers g c =
    let query : Query = c.args.query.now in
    let rows = g.F.FactSource.rows c.args.source.now in
    let items : List Branch = c.as_slice-branch-items.result.now in
    let list : List Entry = c.loop-branch.rows.items in
    let all : take c.loop-branch.branch-index items ≡ query.branches =
    take_all c.loop-branch.branch-index items c.loop-branch-test.false ∙ c.as_slice-branch-items.ensures in
    let covers = subst (λ (bs : List Branch). CoversBranches rows bs list) all c.loop-branch.invariant in
    IfOk-weaker c.coalesce.result
    (λ (result : List Entry). (row : List Term) (t : ℤ) → Covers result row t ↔ Covers c.from_vec.result row t)
    (CoversAnswers query rows)
    (λ result same. covers_all rows query list result covers
    (subst (λ (l : List Entry). (row : List Term) (t : ℤ) → Covers result row t ↔ Covers l row t) c.from_vec.ensures same))
    c.coalesce.ensures.covers
