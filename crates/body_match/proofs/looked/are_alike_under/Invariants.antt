-- The rows are alike where the columns so far are looked at.
use Rattle.std.proofs.Common.{◌≡◌, ◌<◌, ℕ, Some}
use Rattle.std.specs.Prelude.{slice_get}
use Rattle.rule_core.specs.declared.rules.Arg.{Arg}
use Rattle.fact_table.specs.Rows.{cell_at}
use Rattle.body_match.specs.Choice.{IsLooked}
use Rattle.body_match.proofs.looked.are_alike_under.Given as goal

abbrev pub invariant-loop-column : goal.invariant-loop-column
invariant-loop-column g l = (k : ℕ) (arg : Arg) → k < l.column → slice_get l.atom.args k ≡ Some arg → IsLooked l.looked arg
    → cell_at (g.F.FactSource.rows l.source) l.other k ≡ cell_at (g.F.FactSource.rows l.source) l.row k
