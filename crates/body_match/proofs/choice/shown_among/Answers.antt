use Rattle.std.proofs.Common.{ℕ, ◌+◌, List, get_or, arith, sym, subst}
use Rattle.std.proofs.lemmas.Option.{slice_get-get_or}
use Rattle.body_match.proofs.ChoiceLemmas.{AreShownSoFar, not_so, none_picked, one_passed, one_picked, all_picked}
use Rattle.body_match.proofs.choice.shown_among.Goals as goal

pub loop-row-init : goal.loop-row-init
loop-row-init c = subst (λ (l : List ℕ). AreShownSoFar c.args.shown.now c.args.rows.now l 0) (sym c.new-list.ensures.items)
    (none_picked c.args.shown.now c.args.rows.now)

pub loop-row-preserved-then-not-is_shown : goal.loop-row-preserved-then-not-is_shown
loop-row-preserved-then-not-is_shown c =
    let rows = c.args.rows.now in
    let at = c.loop-row.row-index in
    one_passed c.args.shown.now rows c.loop-row.list.items at (get_or rows at 0) (slice_get-get_or rows at 0 c.loop-row-test.true)
    c.loop-row.invariant (not_so c.is_shown.result c.is_shown.ensures.1 c.if-not-is_shown.true)

pub loop-row-preserved : goal.loop-row-preserved
loop-row-preserved c =
    let marks = c.args.shown.now in
    let rows = c.args.rows.now in
    let at = c.loop-row.row-index in
    subst (λ (l : List ℕ). AreShownSoFar marks rows l (at + 1)) (sym c.in_ok-push.ensures.items)
    (one_picked marks rows c.loop-row.list.items at (get_or rows at 0) (slice_get-get_or rows at 0 c.loop-row-test.true) c.loop-row.invariant
    (c.is_shown.ensures.0 c.if-not-is_shown.false))

pub returns : goal.returns
returns c =
    let test = c.loop-row-test.false in
    all_picked c.args.shown.now c.args.rows.now c.loop-row.list.items c.loop-row.row-index (omega (arith, test)) c.loop-row.invariant
