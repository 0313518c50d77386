use Rattle.std.proofs.Common.{Some, length, get_or, sym, ◌∙◌, arith}
use Rattle.std.specs.Prelude.{slice_get}
use Rattle.std.proofs.lemmas.List.Elements.{Contains-get_or}
use Rattle.body_match.proofs.ListLemmas.{maps_from_each, within_from_at, size_set}
use Rattle.body_match.proofs.PlanLemmas.{order_below, order_once, put_more}
use Rattle.body_match.proofs.plan.put_back.Goals as goal

pub index_mut-requires : goal.index_mut-requires
index_mut-requires c =
    let order = c.args.order.now in
    let below = order_below (length order) order c.requires.order (get_or order c.loop-at.at 0)
    (Contains-get_or order c.loop-at.at 0 c.loop-at-test.true) in
    omega (arith, below, c.loop-at.invariant.size, c.loop-at.back.ok)

pub loop-at-preserved : goal.loop-at-preserved
loop-at-preserved c =
    let order = c.args.order.now in
    record {
      size = size_set c.loop-at.back.items (get_or order c.loop-at.at 0) (get_or c.args.rows.now c.loop-at.at 0) ∙ c.loop-at.invariant.size;
      done = put_more order c.args.rows.now c.loop-at.back.items c.loop-at.at (order_once (length order) order c.requires.order)
          (order_below (length order) order c.requires.order) c.loop-at-test.true c.requires.size c.loop-at.invariant.size
          c.loop-at.invariant.done;
    }

pub returns-clause-back : goal.returns-clause-back
returns-clause-back c =
    let order = c.args.order.now in
    let rows = c.args.rows.now in
    rw c.from_vec.ensures
    (maps_from_each (λ y. Some y) (λ place. slice_get c.loop-at.back.items place) rows order c.requires.size
    (λ k row place p q. sym (c.loop-at.invariant.done k place row
    (let l = within_from_at order k place q in omega (arith, l, c.loop-at-test.false)) q p)))
