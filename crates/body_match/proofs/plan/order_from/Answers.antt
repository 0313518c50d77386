use Rattle.std.proofs.Common.{ℕ, List, ◌<◌, length, ap, subst, arith}
use Rattle.std.proofs.lemmas.List.FromFn.{length-range_with_len}
use Rattle.body_match.proofs.PlanLemmas.{first_swapped, first_stays}
use Rattle.body_match.proofs.plan.order_from.Goals as goal

pub swap-requires-clause-j_in_bounds : goal.swap-requires-clause-j_in_bounds
swap-requires-clause-j_in_bounds c =
    let n = length c.args.body.now in
    omega (arith, c.requires, c.in_ok-order.order.ok, ap length c.in_ok-order.ensures, length-range_with_len 0 n)

pub loop-at-init : goal.loop-at-init
loop-at-init c =
    first_swapped (length c.args.body.now) c.args.first c.in_ok-order.order.items c.swap.new.self.items c.in_ok-order.ensures
    c.swap.ensures.items c.requires

pub loop-at-preserved : goal.loop-at-preserved
loop-at-preserved c =
    let old : List ℕ = c.loop-at.order.items in
    let next = c.best_next-next.result in
    let within : next < length old = subst (λ (l : List ℕ). next < length l) c.as_slice.ensures.value c.best_next-next.ensures.within in
    first_stays (length c.args.body.now) c.args.first old c.swap-in-loop-at.new.self.items c.loop-at.at next c.loop-at.auto.at
    (omega (arith, within, c.best_next-next.ensures.from)) within c.best_next-next.ensures.from c.swap-in-loop-at.ensures.items
    c.loop-at.invariant
