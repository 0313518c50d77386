-- The cells so far are what the arguments stand for.
use Rattle.std.proofs.Common.{◌≡◌, ℕ, ◌<◌, Some, [], ◌∷◌, ◌++◌}
use Rattle.std.specs.Prelude.{slice_get}
use Rattle.rule_core.specs.declared.rules.Arg.{Arg}
use Rattle.fact_table.specs.Rows.{cell_at}
use Rattle.body_match.specs.Search.{placed_value}
use Rattle.body_match.proofs.search.agrees.Given as goal

abbrev pub invariant-loop-column : goal.invariant-loop-column
invariant-loop-column g l = (k : ℕ) (arg : Arg) → k < l.column → slice_get l.atom.args k ≡ Some arg
    → cell_at l.search.rows l.row k ≡ placed_value l.search (l.chosen ++ l.row ∷ []) arg
