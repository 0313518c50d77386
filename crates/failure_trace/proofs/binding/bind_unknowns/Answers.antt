use Rattle.std.proofs.Common.{◌≡◌, ◌∙◌, ◌++◌, ◌∷◌, [], ℕ, List, map, ap, subst, arith}
use Rattle.std.specs.List.{range_with_len}
use Rattle.term_core.specs.declared.term.Unknown.{Unknown as HeldUnknown}
use Rattle.failure_trace.specs.declared.trace.Value.{Value}
use Rattle.failure_trace.specs.declared.trace.Value.TheVariants.{Null}
use Rattle.failure_trace.specs.Projected.{number_among, BindsFirst}
use Rattle.failure_trace.proofs.BindingLemmas.{one_value_more}
use Rattle.failure_trace.proofs.binding.bind_unknowns.Goals as goal

pub loop-var-preserved : goal.loop-var-preserved
loop-var-preserved c =
    let vars = c.args.tgd.now.vars in
    let n = c.loop-var.var in
    let so_far = c.loop-var.invariant in
    let size = so_far.size in
    let longer = c.in_ok-push_bound.ensures.size in
    let g : HeldUnknown → Value = λ u. Null (number_among c.args.unknowns.now u) in
    let f : ℕ → HeldUnknown = λ var. record { rule = c.args.firing.now.rule; frontier = c.args.firing.now.frontier; var = var } in
    let value : Null c.number_of.result ≡ g (f n) =
    ap Null (c.number_of.ensures ∙ ap (number_among c.args.unknowns.now) (λ i. record { rule = so_far.rule i; frontier = so_far.frontier i; var = n })) in
    let pushed = subst (λ names. (told : List Value) → BindsFirst names told c.loop-var.binding
    → BindsFirst names (told ++ Null c.number_of.result ∷ []) c.push_bound.new.binding) c.as_slice.ensures c.in_ok-push_bound.ensures.bound in
    record {
      rule = so_far.rule;
      frontier = so_far.frontier;
      size = omega (arith, size, longer);
      bound = λ told b. subst (λ l. BindsFirst vars l c.push_bound.new.binding) (one_value_more g f told n (Null c.number_of.result) value)
          (pushed (told ++ map g (map f (range_with_len 0 n))) (so_far.bound told b));
    }
