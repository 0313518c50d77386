use Rattle.std.proofs.Common.{Contains, sym, subst}
use Rattle.std.proofs.lemmas.List.Elements.{Contains-get_or}
use Rattle.body_match.proofs.levels.drop_rows.Goals as goal

pub loop-row-preserved : goal.loop-row-preserved
loop-row-preserved g c = λ entry k other live.
    c.in_ok-drop_row.ensures entry (c.loop-row.invariant entry k other live)
    (λ same. other (subst (Contains c.args.rows.now) (sym same)
    (Contains-get_or c.args.rows.now c.loop-row.row-index 0 c.loop-row-test.true))) live
