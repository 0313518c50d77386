-- The fact is cut at the cuts so far.
use Rattle.std.proofs.Common.{◌≡◌, ◌++◌, List}
use Rattle.fact_table.specs.declared.fact.Fact.{Fact}
use Rattle.normaliser.specs.Cuts.{ats}
use Rattle.normaliser.proofs.PieceLemmas.{IsCutSoFar}
use Rattle.normaliser.proofs.pieces.add_pieces.Given as goal

abbrev pub invariant-loop-cut : goal.invariant-loop-cut
invariant-loop-cut l = (more : List Fact) × (l.pieces ≡ l.fn.pieces ++ more) × IsCutSoFar (ats l.inside) l.fn.fact l.cut-index l.rest more
