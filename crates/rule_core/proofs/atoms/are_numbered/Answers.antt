use Rattle.std.proofs.Common.{◌∙◌, ◌+◌, ◌++◌, take, sym, subst, arith, ⊎_elim}
use Rattle.std.proofs.lemmas.Bool.{cases_lt}
use Rattle.std.proofs.lemmas.Bool.Decides.{Decides-eqb}
use Rattle.std.proofs.lemmas.List.{append-nil, take_all}
use Rattle.rule_core.specs.declared.rules.Arg.TheVariants.{Var, Const}
use Rattle.rule_core.specs.Validity.{AreNumbered, variables_in, occurrences}
use Rattle.rule_core.proofs.NumberingLemmas.{gap_ahead, too_high, occurrences_split, variables_more, numbered_old, numbered_new, numbered_once}
use Rattle.rule_core.proofs.atoms.are_numbered.Goals as goal
use Rattle.rule_core.proofs.atoms.are_numbered.Goals.{then-v-seen-via-then-v-seen, then-v-seen-via-else-v-seen+then-v-count}
use Rattle.rule_core.proofs.atoms.are_numbered.Goals.{in-Var+else-v-seen+else-v-count+then-v-seen-2, in-Var+else-v-seen+else-v-count+else-v-seen-2, in_default}

pub returns-then-v-seen : goal.returns-then-v-seen
returns-then-v-seen c =
    let split = occurrences_split c.args.atoms.now c.loop-atom.atom-index c.atom-item.result c.atom-item.result c.loop-atom-test.true
    (sym c.atom-item.is) c.as_slice-args.result.now c.as_slice-args.ensures c.loop-arg.arg-index c.in-Var.v (Var 0)
    c.loop-arg-test.true c.in-Var.is in
    let read = occurrences (take c.loop-atom.atom-index c.args.atoms.now)
    ++ variables_in (take c.loop-arg.arg-index c.as_slice-args.result.now) in (
      λ f. absurd cc,
      λ all. let whole = subst (AreNumbered c.args.count) split.1 all in
          absurd (elim c.then-v-seen.branch [
            | then-v-seen-via-then-v-seen w ↦
                gap_ahead c.loop-arg.seen read c.loop-arg.invariant c.in-Var.v c.args.count split.0 w.if-v-seen.true whole
            | then-v-seen-via-else-v-seen+then-v-count w ↦ too_high read split.0 c.in-Var.v c.args.count w.if-v-count.true whole
          ]),
    )

pub loop-arg-preserved : goal.loop-arg-preserved
loop-arg-preserved c =
    let args = c.as_slice-args.result.now in
    let before = occurrences (take c.loop-atom.atom-index c.args.atoms.now) in
    let read = before ++ variables_in (take c.loop-arg.arg-index args) in
    elim c.match-arg.branch [
      | in-Var+else-v-seen+else-v-count+then-v-seen-2 w ↦
          rw w.seen-is (subst (AreNumbered (c.loop-arg.seen + 1))
          (sym (variables_more before args c.loop-arg.arg-index (Var 0) (Var w.in-Var.v) c.loop-arg-test.true w.in-Var.is))
          (numbered_new c.loop-arg.seen read c.loop-arg.invariant w.in-Var.v w.if-v-seen-2.true))
      | in-Var+else-v-seen+else-v-count+else-v-seen-2 w ↦
          let known = ⊎_elim (λ lt. lt) (λ ge. absurd (w.if-v-seen-2.false (omega (arith, ge, w.if-v-seen.false))))
          (cases_lt w.in-Var.v c.loop-arg.seen) in
          rw w.seen-is (subst (AreNumbered c.loop-arg.seen)
          (sym (variables_more before args c.loop-arg.arg-index (Var 0) (Var w.in-Var.v) c.loop-arg-test.true w.in-Var.is))
          (numbered_old c.loop-arg.seen read c.loop-arg.invariant w.in-Var.v known))
      | in_default w ↦
          rw w.seen-is (subst (AreNumbered c.loop-arg.seen)
          (sym (variables_more before args c.loop-arg.arg-index (Var 0) (Const w.in_default.field-0) c.loop-arg-test.true w.in_default.is
          ∙ append-nil read))
          c.loop-arg.invariant)
    ]

pub returns : goal.returns
returns c =
    let h = subst (λ l. AreNumbered c.loop-atom.seen (occurrences l))
    (take_all c.loop-atom.atom-index c.args.atoms.now c.loop-atom-test.false) c.loop-atom.invariant in
    let d = Decides-eqb c.loop-atom.seen c.args.count in (
      λ t. subst (λ n. AreNumbered n (occurrences c.args.atoms.now)) (d.0 t) h,
      λ all. d.1 (numbered_once c.loop-atom.seen (occurrences c.args.atoms.now) h c.args.count all),
    )
