use Rattle.std.proofs.Common.{get_or, arith}
use Rattle.std.proofs.lemmas.Option.{slice_get-get_or}
use Rattle.body_match.proofs.ChoiceLemmas.{one_hidden, all_hidden}
use Rattle.body_match.proofs.choice.hide.Goals as goal

pub loop-row-preserved : goal.loop-row-preserved
loop-row-preserved c =
    one_hidden c.args.rows.now c.args.shown.now.items c.loop-row.shown.items c.hide_one.new.shown.items c.loop-row.gone.items
    c.hide_one.new.gone.items c.loop-row.row-index (get_or c.args.rows.now c.loop-row.row-index 0)
    (slice_get-get_or c.args.rows.now c.loop-row.row-index 0 c.loop-row-test.true)
    c.in_ok-hide_one.ensures c.loop-row.invariant

pub returns : goal.returns
returns c =
    let test = c.loop-row-test.false in
    all_hidden c.args.rows.now c.args.shown.now.items c.loop-row.shown.items c.loop-row.gone.items c.loop-row.row-index
    (omega (arith, test)) c.loop-row.invariant
