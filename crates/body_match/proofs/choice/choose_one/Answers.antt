use Rattle.std.proofs.Common.{◌≡◌, ◌⊎◌, ℕ, Bool, List, subst}
use Rattle.body_match.specs.Choice.{IsOn, StandsForLess}
use Rattle.body_match.proofs.ChoiceLemmas.{less_twice, one_marked}
use Rattle.body_match.proofs.choice.choose_one.Given.{Over}
use Rattle.body_match.proofs.choice.choose_one.Goals as goal
use Rattle.body_match.proofs.choice.choose_one.Goals.{After-hide_after}

-- the rows that are hidden once the row is shown
hidden_then : (g : Over) (c : After-hide_after g)
    → StandsForLess c.args.body.now c.args.looked.now (g.F.FactSource.rows c.args.source.now) c.hide_before.new.choice.shown.items
    c.hide_after.new.choice.shown.items
    → StandsForLess c.args.body.now c.args.looked.now (g.F.FactSource.rows c.args.source.now) c.show-2.new.choice.shown.items
    c.hide_after.new.choice.shown.items
hidden_then g c last =
    let body = c.args.body.now in
    let looked = c.args.looked.now in
    let source = g.F.FactSource.rows c.args.source.now in
    less_twice body looked source c.show-2.new.choice.shown.items c.hide_inside.new.choice.shown.items c.hide_after.new.choice.shown.items
    c.in_ok-hide_inside.ensures
    (less_twice body looked source c.hide_inside.new.choice.shown.items c.hide_before.new.choice.shown.items
    c.hide_after.new.choice.shown.items c.in_ok-hide_before.ensures last)

pub returns-clause-marks : goal.returns-clause-marks
returns-clause-marks g c =
    let old : List Bool = c.args.choice.now.shown.items in
    let mid : List Bool = c.show-2.new.choice.shown.items in
    one_marked c.args.body.now c.args.looked.now (g.F.FactSource.rows c.args.source.now) c.args.row old mid
    c.hide_after.new.choice.shown.items c.in_ok-show.ensures.size c.in_ok-show.ensures.kept
    (subst (λ (row : ℕ). (n : ℕ) → IsOn mid n → IsOn old n ⊎ (n ≡ row)) c.seat_of-seat.ensures c.in_ok-show.ensures.less)
    (hidden_then g (goal.at.returns-clause-marks g c).After-hide_after c.in_ok-hide_after.ensures)

pub returns-clause-stand : goal.returns-clause-stand
returns-clause-stand g c =
    (hidden_then g (goal.at.returns-clause-stand g c).After-hide_after c.in_ok-hide_after.ensures).stand c.args.row
    (subst (IsOn c.show-2.new.choice.shown.items) c.seat_of-seat.ensures c.in_ok-show.ensures.on)
