use Rattle.std.proofs.Common.{◌∙◌, List, sym, subst, get_or, ℕ, rules}
use Rattle.std.proofs.lemmas.List.{take_all}
use Rattle.certain_answers.specs.Collected.{IsShown}
use Rattle.certain_answers.proofs.AnswerLemmas.{shown_more, hidden, constant_read, none_read}
use Rattle.certain_answers.proofs.collecting.row_of.Goals as goal

pub loop-column-preserved : goal.loop-column-preserved
loop-column-preserved c =
    let columns = c.args.columns.now in
    let index : ℕ = c.loop-column.column-index in
    let v = get_or columns index 0 in
    rw c.in_ok-push-in-Some.ensures.ok
    (shown_more columns c.args.values.now c.loop-column.row index v c.in-Some.constant c.loop-column-test.true (search rules)
    (constant_read _ c.in-Some.constant (sym c.constant_at.ensures ∙ c.in-Some.is)) c.loop-column.invariant)

pub returns-in-None-clause-hidden : goal.returns-in-None-clause-hidden
returns-in-None-clause-hidden c =
    let columns = c.args.columns.now in
    let index : ℕ = c.loop-column.column-index in
    hidden columns c.args.values.now index (get_or columns index 0) c.loop-column-test.true (search rules)
    (none_read _ (sym c.constant_at.ensures ∙ c.in-None.is))

pub returns-clause-shown : goal.returns-clause-shown
returns-clause-shown c =
    let columns : List ℕ = c.args.columns.now in
    subst (λ (cs : List ℕ). IsShown cs c.args.values.now c.loop-column.row)
    (take_all c.loop-column.column-index columns c.loop-column-test.false) c.loop-column.invariant
