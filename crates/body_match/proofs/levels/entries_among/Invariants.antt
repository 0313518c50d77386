-- The rows so far are listed.
use Rattle.std.proofs.Common.{◌≡◌, ◌<◌, ℕ, Some}
use Rattle.std.specs.Prelude.{slice_get}
use Rattle.body_match.specs.Keys.{ListsOne}
use Rattle.body_match.proofs.levels.entries_among.Given as goal

abbrev pub invariant-loop-row : goal.invariant-loop-row
invariant-loop-row g l = (k number : ℕ) → k < l.row-index → slice_get l.rows k ≡ Some number
    → ListsOne (g.F.FactSource.rows l.source) l.atom l.columns number l.entries.items
