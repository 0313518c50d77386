-- The store has the rows of the firings so far.
use Rattle.std.proofs.Common.{take, IsPermutation}
use Rattle.rule_core.specs.Firing.{firing_rows}
use Rattle.null_store.specs.Store.{facts_in}
use Rattle.failure_trace.specs.Entries.{entries_of}
use Rattle.tgd_chase.proofs.chase.fire.Given as goal

abbrev pub invariant-loop-firing : goal.invariant-loop-firing
invariant-loop-firing g l =
    IsPermutation (firing_rows (λ c. c) l.rules (entries_of (take l.firing-index l.firing-items))) (facts_in l.store)
