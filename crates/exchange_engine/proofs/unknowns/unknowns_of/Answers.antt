use Rattle.std.proofs.Common.{◌≡◌, ◌+◌, [], ◌∷◌, ◌++◌, List, take, sym, ap, ◌∙◌, subst, inr, ⊎_elim, Contains}
use Rattle.std.proofs.lemmas.List.{take_more, take_all}
use Rattle.term_core.specs.declared.term.Unknown.{Unknown as HeldUnknown}
use Rattle.rule_core.proofs.ListLemmas.{Contains-nil}
use Rattle.exchange_engine.specs.Solved.{TermTable, IsUnknownOf}
use Rattle.exchange_engine.specs.Grouped.{IsUnknownAmong, AddsUnknowns}
use Rattle.exchange_engine.proofs.UnknownLemmas.{none_of, more_of}
use Rattle.exchange_engine.proofs.unknowns.unknowns_of.Goals as goal

pub loop-table-init : goal.loop-table-init
loop-table-init c =
    subst (λ (l : List HeldUnknown). AddsUnknowns (IsUnknownOf []) [] l) (sym c.new-found.ensures) (none_of IsUnknownAmong [])

pub loop-table-preserved : goal.loop-table-preserved
loop-table-preserved c =
    let tables : List TermTable = c.args.tables.now in
    let index = c.loop-table.table-index in
    let table : TermTable = c.table-item.result in
    let before = c.loop-table.found in
    let after = c.add_of_table.new.found in
    let more : take (index + 1) tables ≡ take index tables ++ table ∷ [] =
    take_more tables index table c.loop-table-test.true ∙ ap (λ (x : TermTable). take index tables ++ x ∷ []) (sym c.table-item.is) in
    let added : AddsUnknowns (IsUnknownAmong table) before after =
    subst (λ (l : TermTable). AddsUnknowns (IsUnknownAmong l) before after) c.as_slice.ensures c.in_ok-add_of_table.ensures in
    subst (λ (l : List TermTable). AddsUnknowns (IsUnknownOf l) [] after) (sym more)
    (more_of IsUnknownAmong (take index tables) table [] before after c.loop-table.invariant added)

pub returns : goal.returns
returns c =
    let tables : List TermTable = c.args.tables.now in
    let are : AddsUnknowns (IsUnknownOf tables) [] c.loop-table.found =
    subst (λ (l : List TermTable). AddsUnknowns (IsUnknownOf l) [] c.loop-table.found)
    (take_all c.loop-table.table-index tables c.loop-table-test.false) c.loop-table.invariant in
    record {
      each = λ u. (
        λ d. ⊎_elim (λ (none : Contains [] u). absurd (Contains-nil u none)) (λ (k : IsUnknownOf tables u). k)
            ((are u).0 ((c.in_order.ensures.same u).0 d)),
        λ k. (c.in_order.ensures.same u).1 ((are u).1 (inr k)),
      );
      ascending = c.in_order.ensures.ascending;
    }
