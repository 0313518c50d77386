use Rattle.std.proofs.Common.{sym, subst}
use Rattle.std.proofs.lemmas.List.{drop_all}
use Rattle.failure_trace.specs.Equating.{replaced_fact}
use Rattle.failure_trace.specs.TraceRun.{text_cmp}
use Rattle.trace_checker.specs.States.{replacement}
use Rattle.trace_checker.specs.Listed.{facts_of, TakesOut}
use Rattle.trace_checker.proofs.PartwayLemmas.{IsPartway, partway_first, partway_next, partway_end, partway_all, replaced_twice, replaced_stays, has_number}
use Rattle.trace_checker.proofs.rows.Rows.replaced.Goals as goal

pub loop-row-init : goal.loop-row-init
loop-row-init c =
    let g = replaced_fact text_cmp (replacement c.args.gone c.args.by) in
    let facts = facts_of c.self.inside.rows.keys in
    let listed = facts_of c.as_slice-before.result.now in
    subst (λ old. IsPartway g old facts c.take-listed.new.self listed) c.self.view_is
    (partway_first g facts c.self.inside.holders c.take-listed.new.self c.args.gone listed c.self.invariant
    (subst (λ rows. TakesOut c.self.inside.holders c.args.gone (facts_of rows) c.take-listed.new.self) (sym c.as_slice-before.ensures.value)
    c.take-listed.ensures)
    (has_number c.args.gone) (replaced_stays c.args.gone c.args.by))

pub loop-row-preserved : goal.loop-row-preserved
loop-row-preserved c =
    let r = replacement c.args.gone c.args.by in
    partway_next (replaced_fact text_cmp r) c.args.self (facts_of c.loop-row.rows.keys) (facts_of c.replace.new.rows.keys) c.loop-row.holders
    c.replace.new.holders c.as_slice-before.result.now c.loop-row.row-index c.row-item.result c.loop-row-test.true c.row-item.is
    (replaced_twice r) c.loop-row.invariant c.in_ok-replace.ensures.moved c.in_ok-replace.ensures.listed

pub invariant_of-result : goal.invariant_of-result
invariant_of-result c =
    (partway_end (replaced_fact text_cmp (replacement c.args.gone c.args.by)) c.args.self (facts_of c.loop-row.rows.keys) c.loop-row.holders
    c.as_slice-before.result.now c.loop-row.row-index (drop_all c.loop-row.row-index c.as_slice-before.result.now c.loop-row-test.false)
    c.loop-row.invariant).listed

pub returns : goal.returns
returns c =
    let g = replaced_fact text_cmp (replacement c.args.gone c.args.by) in
    let facts = facts_of c.loop-row.rows.keys in
    partway_all g c.args.self facts c.loop-row.holders
    (partway_end g c.args.self facts c.loop-row.holders c.as_slice-before.result.now c.loop-row.row-index
    (drop_all c.loop-row.row-index c.as_slice-before.result.now c.loop-row-test.false) c.loop-row.invariant)
