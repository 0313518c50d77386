use Rattle.tgd_chase.proofs.CandidateLemmas.{constants_more}
use Rattle.tgd_chase.proofs.candidates.constants_of.Goals as goal

pub loop-cell-preserved : goal.loop-cell-preserved
loop-cell-preserved c = λ all.
    constants_more c.args.cells.now c.loop-cell.cell-index c.loop-cell.constants _ c.in-Const.constant _ c.loop-cell-test.true c.in-Const.is
    c.in_ok-push.ensures.ok (c.loop-cell.invariant all)

pub loop-cell-preserved-in_default : goal.loop-cell-preserved-in_default
loop-cell-preserved-in_default c = λ all.
    let shown = all c.loop-cell.cell-index _ c.loop-cell-test.true in
    absurd (c.in_default.not-Const shown.0 shown.1)
