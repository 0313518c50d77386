use Rattle.std.proofs.lemmas.List.Elements.{Contains-get_or}
use Rattle.body_match.proofs.PlanLemmas.{ordered_more}
use Rattle.body_match.proofs.plan.atoms_in.Goals as goal

pub copy_at-requires : goal.copy_at-requires
copy_at-requires c =
    c.requires _ (Contains-get_or c.args.order.now c.loop-place.place-index 0 c.loop-place-test.true)

pub loop-place-preserved : goal.loop-place-preserved
loop-place-preserved c =
    ordered_more c.args.body.now c.args.order.now c.loop-place.place-index 0 c.loop-place.atoms _ _ c.loop-place-test.true
    c.in_ok-copy_at.ensures c.in_ok-push.ensures.ok c.loop-place.invariant
