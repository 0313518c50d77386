use Rattle.std.proofs.Common.{◌≡◌, ◌+◌, [], ◌∷◌, ◌++◌, List, take, sym, ap, ◌∙◌, subst}
use Rattle.std.proofs.lemmas.List.{take_more, take_all}
use Rattle.term_core.specs.declared.term.Term.{Term}
use Rattle.exchange_engine.specs.Solved.{TermTable}
use Rattle.exchange_engine.specs.Grouped.{IsUnknownIn, IsUnknownAmong, AddsUnknowns}
use Rattle.exchange_engine.proofs.TableFactLemmas.{Entry}
use Rattle.exchange_engine.proofs.UnknownLemmas.{none_of, more_of}
use Rattle.exchange_engine.proofs.unknowns.add_of_table.Goals as goal

pub loop-entry-init : goal.loop-entry-init
loop-entry-init c = none_of (λ (e : Entry). IsUnknownIn e.row) c.args.found.now

pub loop-entry-preserved : goal.loop-entry-preserved
loop-entry-preserved c =
    let table : TermTable = c.args.table.now in
    let index = c.loop-entry.entry-index in
    let entry : Entry = c.entry-item.result in
    let more : take (index + 1) table ≡ take index table ++ entry ∷ [] =
    take_more table index entry c.loop-entry-test.true ∙ ap (λ (x : Entry). take index table ++ x ∷ []) (sym c.entry-item.is) in
    let row : c.as_slice.result.now ≡ entry.row = c.as_slice.ensures ∙ ap (λ (e : Entry). e.row) c.entry.view_is in
    let added : AddsUnknowns (IsUnknownIn entry.row) c.loop-entry.found c.add_of_row.new.found =
    subst (λ (l : List Term). AddsUnknowns (IsUnknownIn l) c.loop-entry.found c.add_of_row.new.found) row c.in_ok-add_of_row.ensures in
    subst (λ (l : TermTable). AddsUnknowns (IsUnknownAmong l) c.args.found.now c.add_of_row.new.found) (sym more)
    (more_of (λ (e : Entry). IsUnknownIn e.row) (take index table) entry c.args.found.now c.loop-entry.found c.add_of_row.new.found
    c.loop-entry.invariant added)

pub returns : goal.returns
returns c =
    let table : TermTable = c.args.table.now in
    subst (λ (l : TermTable). AddsUnknowns (IsUnknownAmong l) c.args.found.now c.loop-entry.found)
    (take_all c.loop-entry.entry-index table c.loop-entry-test.false) c.loop-entry.invariant
