use Rattle.std.proofs.Common.{◌⊎◌, ℕ, List, Contains, get_or, sym, subst}
use Rattle.body_match.specs.Choice.{IsOn}
use Rattle.body_match.proofs.ChoiceLemmas.{not_so, one_not_marked}
use Rattle.body_match.proofs.choice.add_hidden.Goals as goal

pub loop-row-preserved : goal.loop-row-preserved
loop-row-preserved c =
    let marks = c.args.shown.now in
    let first = c.args.gone.now.items in
    subst (λ (l : List ℕ). (number : ℕ) → Contains l number → Contains first number ⊎ ¬ (IsOn marks number)) (sym c.in_ok-push.ensures.items)
    (one_not_marked marks first c.loop-row.gone.items (get_or c.args.rows.now c.loop-row.row-index 0)
    (not_so c.is_shown.result c.is_shown.ensures.1 c.if-is_shown.false) c.loop-row.invariant)
