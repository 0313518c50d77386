-- The values of the variables so far.
use Rattle.std.proofs.Common.{◌≡◌, ◌<◌, Some, length, map, take, slice_get, All}
use Rattle.tgd_chase.proofs.candidates.values_of.Given as goal

abbrev pub invariant-loop-variable : goal.invariant-loop-variable
invariant-loop-variable l = All (λ v. v < length l.binding) l.variables
    → map (λ v. slice_get l.binding v) (take l.variable-index l.variables) ≡ map (λ c. Some c) l.values
