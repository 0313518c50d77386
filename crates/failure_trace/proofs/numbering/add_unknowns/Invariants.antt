-- The unknowns of the variables so far are added.
use Rattle.std.proofs.Common.{◌≡◌, ◌++◌, map}
use Rattle.std.specs.List.{range_with_len}
use Rattle.failure_trace.proofs.numbering.add_unknowns.Given as goal

abbrev pub invariant-loop-var : goal.invariant-loop-var
invariant-loop-var l = l.unknowns.items
    ≡ l.fn.unknowns.items ++ map (λ var. record { rule = l.firing.rule; frontier = l.firing.frontier; var = var }) (range_with_len 0 l.var)
