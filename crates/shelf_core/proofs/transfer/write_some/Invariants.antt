use Rattle.std.specs.Io.KnownBytes.{Keeps}
use Rattle.shelf_core.proofs.transfer.write_some.Given as goal

-- nothing was written yet
abbrev pub invariant-loop : goal.invariant-loop
invariant-loop g l = Keeps (g.W.Write.contents l.fn.writer) (g.W.Write.contents l.writer)
