use Rattle.std.proofs.Common.{◌≡◌, Bool, true, false, sym, ◌∙◌}
use Rattle.std.proofs.lemmas.Bool.{false≢true}
use Rattle.std.specs.Bool.{OnTrue}
use Rattle.std.specs.Cmp.Lexicographic.{pointwise}
use Rattle.term_core.specs.contracts.term.TermPartialEq.TheImpl.{eq-value}
use Rattle.coalescer.proofs.RowLemmas.{equal_rows, rows_equal}
use Rattle.coalescer.proofs.coalescing.goes_on.Goals as goal
use Rattle.coalescer.proofs.coalescing.goes_on.Goals.{After-eq}

on_true : (P : Type 0) (b : Bool) → P → OnTrue b P
on_true P true p = p
on_true P false p = tt

-- what the test of the rows answers
told : (c : After-eq) → c.eq.result ≡ pointwise eq-value.it c.args.last.now.row c.args.next.now.row
told c = c.eq.ensures ∙ (λ i. pointwise eq-value.it (c.last.view_is i).row (c.next.view_is i).row)

pub returns-then-eq-clause-row : goal.returns-then-eq-clause-row
returns-then-eq-clause-row c =
    let last = c.args.last.now in
    let next = c.args.next.now in
    on_true (last.row ≡ next.row) c.adjoins.result
    (equal_rows last.row next.row (sym (told (goal.at.returns-then-eq-clause-row c).After-eq) ∙ c.if-eq.true))

pub returns-else-eq-clause-no : goal.returns-else-eq-clause-no
returns-else-eq-clause-no c =
    let before = (goal.at.returns-else-eq-clause-no c).After-eq in
    rw c.if-eq.false (λ same.
    absurd (false≢true (sym c.if-eq.false ∙ told before ∙ rows_equal c.args.last.now.row c.args.next.now.row same)))
