use Rattle.std.proofs.Common.{◌∙◌, sym, subst}
use Rattle.failure_trace.specs.Equating.{replaced_fact}
use Rattle.failure_trace.specs.TraceRun.{text_cmp}
use Rattle.trace_checker.specs.States.{fact_named, replacement, HoldsAlso}
use Rattle.trace_checker.specs.Listed.{facts_of}
use Rattle.trace_checker.proofs.ListedLemmas.{listed_without}
use Rattle.trace_checker.proofs.PartwayLemmas.{left_from, moved, not_moved}
use Rattle.trace_checker.proofs.rows.replace.Goals as goal

pub returns-in_ok-add-clause-moved : goal.returns-in_ok-add-clause-moved
returns-in_ok-add-clause-moved c =
    moved c.args.rows.now.keys c.swap_remove.new.self.keys c.args.row.now c.if-swap_remove.ensures.updates.0
    (replaced_fact text_cmp (replacement c.args.gone c.args.by) (fact_named c.args.row.now)) (facts_of c.add.new.rows.keys)
    (sym c.swap_remove.ensures.found ∙ c.if-swap_remove.true)
    (subst (λ later. HoldsAlso (facts_of c.swap_remove.new.self.keys) later (facts_of c.add.new.rows.keys)) c.in_ok-replaced_row.ensures
    c.in_ok-add.ensures.added)

pub returns-in_ok-add-clause-listed : goal.returns-in_ok-add-clause-listed
returns-in_ok-add-clause-listed c = λ left are.
    c.in_ok-add.ensures.listed left
    (listed_without (facts_of c.args.rows.now.keys) (facts_of c.swap_remove.new.self.keys) left c.args.holders.now (fact_named c.args.row.now)
    (left_from c.args.rows.now.keys c.swap_remove.new.self.keys c.args.row.now c.if-swap_remove.ensures.updates.0) are)

pub returns-else-swap_remove-clause-moved : goal.returns-else-swap_remove-clause-moved
returns-else-swap_remove-clause-moved c =
    not_moved c.args.rows.now.keys c.swap_remove.new.self.keys c.args.row.now c.if-swap_remove.ensures.updates.0
    (replaced_fact text_cmp (replacement c.args.gone c.args.by) (fact_named c.args.row.now)) (sym c.swap_remove.ensures.found ∙ c.if-swap_remove.false)

pub returns-else-swap_remove-clause-listed : goal.returns-else-swap_remove-clause-listed
returns-else-swap_remove-clause-listed c = λ left are.
    listed_without (facts_of c.args.rows.now.keys) (facts_of c.swap_remove.new.self.keys) left c.args.holders.now (fact_named c.args.row.now)
    (left_from c.args.rows.now.keys c.swap_remove.new.self.keys c.args.row.now c.if-swap_remove.ensures.updates.0) are
