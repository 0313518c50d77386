use Rattle.std.proofs.Common.{◌≡◌, ◌∙◌, sym, subst, arith}
use Rattle.std.proofs.lemmas.Bool.{true≢false}
use Rattle.rule_core.specs.Frontier.{Occurs}
use Rattle.rule_core.proofs.FrontierLemmas.{ArePicked, picked_more, picked_skip}
use Rattle.rule_core.proofs.dependencies.frontier.Goals as goal
use Rattle.rule_core.proofs.dependencies.frontier.Goals.{then-occurs+in_ok-push, else-occurs}

pub loop-variable-preserved : goal.loop-variable-preserved
loop-variable-preserved c =
    let P = Occurs c.args.tgd.now.head in
    let n = c.loop-variable.variable in
    elim c.if-occurs.branch [
      | then-occurs+in_ok-push w ↦
          let here = subst (λ atoms. Occurs atoms n) c.as_slice.ensures (c.occurs.ensures.0 w.if-occurs.true) in
          rw (w.variables-is, w.in_ok-push.ensures.ok) (picked_more P n c.loop-variable.variables c.loop-variable.invariant here)
      | else-occurs w ↦
          let missing = λ (there : P n). true≢false (sym (c.occurs.ensures.1 (subst (λ atoms. Occurs atoms n) (sym c.as_slice.ensures) there))
          ∙ w.if-occurs.false) in
          rw w.variables-is (picked_skip P n c.loop-variable.variables c.loop-variable.invariant missing)
    ]

pub returns : goal.returns
returns c =
    let last : c.loop-variable.variable ≡ c.args.tgd.now.body_vars = omega arith in
    let h = subst (λ n. ArePicked (Occurs c.args.tgd.now.head) n c.loop-variable.variables) last c.loop-variable.invariant in
    record { same = h.same; ascending = h.ascending }
