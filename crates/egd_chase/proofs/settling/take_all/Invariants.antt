-- The journal leads on to the rows of the store; they are as they were before the first match, and after it the measure is less.
use Rattle.std.proofs.Common.{◌≡◌, ◌<◌, List}
use Rattle.term_core.specs.declared.const_id.ConstId.{ConstId}
use Rattle.failure_trace.specs.JournalRun.{RowOf}
use Rattle.egd_chase.specs.Steps.{IsUnderway, IsLower}
use Rattle.egd_chase.proofs.settling.take_all.Given as goal

abbrev pub invariant-loop-found : goal.invariant-loop-found
invariant-loop-found g l = record {
  way : (rows : List (RowOf ConstId)) → IsUnderway l.rules rows l.initial.store l.initial.search l.initial.journal
      → IsUnderway l.rules rows l.store l.search l.journal;
  first : l.found-index ≡ 0 → l.store ≡ l.initial.store;
  lower : 0 < l.found-index → (rows : List (RowOf ConstId)) → IsUnderway l.rules rows l.initial.store l.initial.search l.initial.journal
      → IsLower rows l.initial.store l.store;
}
