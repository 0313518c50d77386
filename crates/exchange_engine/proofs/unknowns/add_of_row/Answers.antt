use Rattle.std.proofs.Common.{◌≡◌, ◌+◌, [], ◌∷◌, ◌++◌, List, take, sym, ap, ◌∙◌, subst}
use Rattle.std.proofs.lemmas.List.{take_more, take_all}
use Rattle.term_core.specs.declared.term.Term.{Term}
use Rattle.exchange_engine.specs.Grouped.{IsUnknownIn, AddsUnknowns}
use Rattle.exchange_engine.proofs.UnknownLemmas.{none_in, more_in}
use Rattle.exchange_engine.proofs.unknowns.add_of_row.Goals as goal

pub loop-term-init : goal.loop-term-init
loop-term-init c = none_in c.args.found.now

pub loop-term-preserved : goal.loop-term-preserved
loop-term-preserved c =
    let row : List Term = c.args.row.now in
    let index = c.loop-term.term-index in
    let term : Term = c.term-item.result in
    let more : take (index + 1) row ≡ take index row ++ term ∷ [] =
    take_more row index term c.loop-term-test.true ∙ ap (λ (x : Term). take index row ++ x ∷ []) (sym c.term-item.is) in
    subst (λ (l : List Term). AddsUnknowns (IsUnknownIn l) c.args.found.now c.add_of_term.new.found) (sym more)
    (more_in (take index row) term c.args.found.now c.loop-term.found c.add_of_term.new.found c.loop-term.invariant
    c.in_ok-add_of_term.ensures)

pub returns : goal.returns
returns c =
    let row : List Term = c.args.row.now in
    subst (λ (l : List Term). AddsUnknowns (IsUnknownIn l) c.args.found.now c.loop-term.found)
    (take_all c.loop-term.term-index row c.loop-term-test.false) c.loop-term.invariant
