-- The heads of the rows so far.
use Rattle.std.proofs.Common.{◌≡◌, Some, map, take, slice_get}
use Rattle.exchange_engine.proofs.loading.facts.heads_of.Given as goal

abbrev pub invariant-loop-at : goal.invariant-loop-at
invariant-loop-at l = map (λ h. slice_get l.table h.at) l.heads.items ≡ map (λ r. Some r) (take l.at l.table)
