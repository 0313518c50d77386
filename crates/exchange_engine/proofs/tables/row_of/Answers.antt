use Rattle.std.proofs.Common.{◌+◌, List, sym, subst}
use Rattle.std.specs.Prelude.{IsSomeAnd}
use Rattle.term_core.specs.declared.term.Term.{Term}
use Rattle.fact_table.specs.Rows.{row_at}
use Rattle.exchange_engine.specs.Grouped.{IsRowOf}
use Rattle.exchange_engine.proofs.GroupedLemmas.{AreFirstTerms, terms_none, terms_more, row_whole}
use Rattle.exchange_engine.proofs.tables.row_of.Goals as goal

pub loop-column-init : goal.loop-column-init
loop-column-init g c =
    let store = c.args.store.now in
    let number = c.args.row in
    subst (λ (terms : List Term). IsSomeAnd (row_at store.rows number) (AreFirstTerms store number 0 terms))
    (sym c.in_ok-terms.ensures.items)
    (terms_none store c.args.row c.args.head.now c.requires)

pub loop-column-preserved : goal.loop-column-preserved
loop-column-preserved g c =
    let store = c.args.store.now in
    let column = c.loop-column.column in
    subst (λ (terms : List Term). IsSomeAnd (row_at store.rows c.args.row) (AreFirstTerms store c.args.row (column + 1) terms))
    (sym c.in_ok-push.ensures.items)
    (terms_more store c.args.row column c.loop-column.terms.items c.in_ok-term_at.field-0 c.loop-column.invariant c.in_ok-term_at.ensures)

pub returns : goal.returns
returns g c =
    let store = c.args.store.now in
    let number = c.args.row in
    subst (λ (terms : List Term).
    IsSomeAnd (row_at store.rows number) (λ seen. IsRowOf store seen (record { row = terms; span = c.args.head.now.span })))
    (sym c.from_vec.ensures)
    (row_whole store number c.args.head.now c.loop-column.column c.loop-column.terms.items c.requires c.loop-column-test.false
    c.loop-column.invariant)
