use Rattle.std.proofs.Common.{rules}
use Rattle.std.proofs.lemmas.List.Elements.{Contains-get_or}
use Rattle.std.proofs.lemmas.Option.{slice_get-get_or}
use Rattle.body_match.proofs.PlanLemmas.{ordered_more}
use Rattle.body_match.proofs.exact.rows_in.Goals as goal

pub offset_bounds-rows-place : goal.offset_bounds-rows-place
offset_bounds-rows-place c =
    let inside = c.requires _ (Contains-get_or c.args.order.now c.loop-place.place-index 0 c.loop-place-test.true) in
    search (rules, inside)

pub bounds-rows-place : goal.bounds-rows-place
bounds-rows-place c = c.requires _ (Contains-get_or c.args.order.now c.loop-place.place-index 0 c.loop-place-test.true)

pub loop-place-preserved : goal.loop-place-preserved
loop-place-preserved c =
    let inside = c.requires _ (Contains-get_or c.args.order.now c.loop-place.place-index 0 c.loop-place-test.true) in
    ordered_more c.args.rows.now c.args.order.now c.loop-place.place-index 0 c.loop-place.chosen.items _ _ c.loop-place-test.true
    (slice_get-get_or c.args.rows.now _ 0 inside) c.in_ok-push.ensures.items c.loop-place.invariant
