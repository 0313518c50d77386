-- The entries of other rows so far that were not dropped.
use Rattle.std.proofs.Common.{◌≡◌, ◌≢◌, ◌<◌, ℕ, Some, Contains}
use Rattle.std.specs.Prelude.{slice_get}
use Rattle.body_match.specs.declared.lookup.Entry.{Entry}
use Rattle.body_match.specs.Renewals.{IsLive}
use Rattle.body_match.proofs.lookup.others_than.Given as goal

abbrev pub invariant-loop-entry : goal.invariant-loop-entry
invariant-loop-entry l = (k : ℕ) (entry : Entry) → k < l.entry-index → slice_get l.entries k ≡ Some entry → entry.row ≢ l.row
    → IsLive entry → Contains l.rest.items entry
