-- The unknowns of the firings so far are listed.
use Rattle.std.proofs.Common.{◌≡◌, take}
use Rattle.failure_trace.specs.Projected.{unknowns_at}
use Rattle.failure_trace.proofs.numbering.listed_unknowns.Given as goal

abbrev pub invariant-loop-firing : goal.invariant-loop-firing
invariant-loop-firing l = l.unknowns.items ≡ unknowns_at l.rules (take l.firing-index l.firings) l.t
