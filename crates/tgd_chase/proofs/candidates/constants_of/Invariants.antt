-- The constants of the cells so far.
use Rattle.std.proofs.Common.{◌≡◌, map, take, All}
use Rattle.term_core.specs.declared.term.Seen.TheVariants.{Const}
use Rattle.tgd_chase.specs.Candidates.{IsConstant}
use Rattle.tgd_chase.proofs.candidates.constants_of.Given as goal

abbrev pub invariant-loop-cell : goal.invariant-loop-cell
invariant-loop-cell l = All IsConstant l.cells → map Const l.constants ≡ take l.cell-index l.cells
