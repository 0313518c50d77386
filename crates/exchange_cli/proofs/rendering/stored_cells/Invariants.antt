-- The terms so far are written.
use Rattle.std.proofs.Common.{◌≡◌, map, take}
use Rattle.temporal_csv.specs.Cells.{term_of}
use Rattle.exchange_cli.specs.Rendering.{stored_term}
use Rattle.exchange_cli.proofs.rendering.stored_cells.Given as goal

abbrev pub invariant-loop-term : goal.invariant-loop-term
invariant-loop-term l = map term_of l.cells ≡ map (stored_term l.pool l.nulls) (take l.term-index l.row)
