use Rattle.std.proofs.Common.{get_or}
use Rattle.std.proofs.lemmas.Option.{slice_get-get_or}
use Rattle.body_match.proofs.ChoiceLemmas.{one_chosen}
use Rattle.body_match.proofs.choice.choose.Goals as goal

pub loop-row-preserved : goal.loop-row-preserved
loop-row-preserved g c =
    let rows = g.F.FactSource.rows c.args.source.now in
    one_chosen c.args.body.now c.args.looked.now rows c.args.rows.now c.args.choice.now.shown.items c.loop-row.choice.shown.items
    c.choose_one.new.choice.shown.items c.loop-row.row-index (get_or c.args.rows.now c.loop-row.row-index 0)
    (slice_get-get_or c.args.rows.now c.loop-row.row-index 0 c.loop-row-test.true)
    c.in_ok-choose_one.ensures.marks c.in_ok-choose_one.ensures.stand c.loop-row.invariant
