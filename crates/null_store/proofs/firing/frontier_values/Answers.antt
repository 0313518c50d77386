use Rattle.std.proofs.Common.{rules, ◌+◌, List, length, subst, sym, ap, ◌∙◌, arith}
use Rattle.std.proofs.lemmas.Bool.{false≢true}
use Rattle.std.proofs.lemmas.List.{length-set}
use Rattle.rule_core.specs.declared.rules.Atom.{Atom}
use Rattle.rule_core.specs.Frontier.{Occurs}
use Rattle.rule_core.specs.Firing.{has_variable}
use Rattle.rule_core.proofs.FiringLemmas.{is_occurs}
use Rattle.null_store.specs.Layout.{HasValuesBelow}
use Rattle.null_store.proofs.FrontierLemmas.{taken_inside, value_is, value_put, value_skipped, passed_more, passed_same, absent}
use Rattle.null_store.proofs.firing.frontier_values.Goals as goal
use Rattle.null_store.proofs.firing.frontier_values.Goals.{then-occurs, else-occurs}

pub offset_bounds-frontier-taken : goal.offset_bounds-frontier-taken
offset_bounds-frontier-taken c =
    let inside = taken_inside c.args.tgd.now c.args.frontier.now c.requires.size c.loop-variable.variable c.loop-variable.taken
    c.as_slice.result.now c.as_slice.ensures c.loop-variable-test.true (c.occurs.ensures.0 c.if-occurs.true)
    c.loop-variable.invariant.taken in
    search (rules, inside)

pub bounds-frontier-taken : goal.bounds-frontier-taken
bounds-frontier-taken c =
    taken_inside c.args.tgd.now c.args.frontier.now c.requires.size c.loop-variable.variable c.loop-variable.taken
    c.as_slice.result.now c.as_slice.ensures c.loop-variable-test.true (c.occurs.ensures.0 c.if-occurs.true) c.loop-variable.invariant.taken

pub overflow_add-taken : goal.overflow_add-taken
overflow_add-taken c =
    let inside = taken_inside c.args.tgd.now c.args.frontier.now c.requires.size c.loop-variable.variable c.loop-variable.taken
    c.as_slice.result.now c.as_slice.ensures c.loop-variable-test.true (c.occurs.ensures.0 c.if-occurs.true)
    c.loop-variable.invariant.taken in
    search (rules, inside)

pub loop-variable-preserved : goal.loop-variable-preserved
loop-variable-preserved c =
    let tgd = c.args.tgd.now in
    let frontier = c.args.frontier.now in
    let v = c.loop-variable.variable in
    let before = c.loop-variable.invariant in
    elim c.if-occurs.branch [
      | then-occurs w ↦
          let occurs = subst (λ (head : List Atom). Occurs head v) c.as_slice.ensures (c.occurs.ensures.0 w.if-occurs.true) in
          let value = value_is tgd frontier c.requires.size v c.loop-variable-test.true occurs c.loop-variable.taken _ before.taken in
          record {
            taken = w.taken-is ∙ ap (λ t. t + 1) before.taken
                ∙ sym (passed_more (has_variable tgd.head) v (is_occurs tgd.head v occurs));
            size = ap length w.values-is ∙ length-set c.loop-variable.values v _ ∙ before.size;
            values = subst (HasValuesBelow tgd frontier (v + 1)) (sym w.values-is)
                (value_put tgd frontier c.loop-variable.values v before.values _ (omega (arith, before.size, c.requires.few)) (λ _. value));
          }
      | else-occurs w ↦
          let none : ¬ (Occurs tgd.head v) = λ o. false≢true (sym w.if-occurs.false ∙ c.occurs.ensures.1
          (subst (λ (head : List Atom). Occurs head v) (sym c.as_slice.ensures) o)) in
          record {
            taken = w.taken-is ∙ before.taken ∙ sym (passed_same (has_variable tgd.head) v (absent tgd.head v none));
            size = ap length w.values-is ∙ before.size;
            values = subst (HasValuesBelow tgd frontier (v + 1)) (sym w.values-is)
                (value_skipped tgd frontier c.loop-variable.values v before.values none);
          }
    ]
