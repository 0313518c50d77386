-- At each instant of what they make up together another row that is like it is shown.
use Rattle.std.proofs.Common.{◌≡◌, ℤ, Some}
use Rattle.fact_table.specs.Rows.{SeenRow, row_at}
use Rattle.body_match.specs.Choice.{HasInstantIn, IsOtherAt}
use Rattle.body_match.proofs.choice.are_enough.Given as goal

abbrev pub invariant-loop-other : goal.invariant-loop-other
invariant-loop-other g l = (seen : SeenRow) (t : ℤ) → row_at (g.F.FactSource.rows l.source) l.row ≡ Some seen
    → HasInstantIn l.together t → IsOtherAt l.body l.looked (g.F.FactSource.rows l.source) l.shown l.row seen t
