-- The journal leads from the rows that were handed in to those of the store; the measure falls.
use Rattle.null_store.specs.Store.{facts_in}
use Rattle.egd_chase.specs.Measure.{measure}
use Rattle.egd_chase.specs.Steps.{IsUnderway}
use Rattle.egd_chase.proofs.settling.settle.Given as goal

abbrev pub decreases-loop-journal : goal.decreases-loop-journal
decreases-loop-journal g l = measure (facts_in l.fn.store) (facts_in l.store)

abbrev pub invariant-loop-journal : goal.invariant-loop-journal
invariant-loop-journal g l = IsUnderway l.fn.rules (facts_in l.fn.store) l.store l.search l.journal
