-- The values so far are the cells at the places so far.
use Rattle.std.proofs.Common.{◌≡◌, Some, map, take}
use Rattle.body_match.specs.Search.{cell_in}
use Rattle.body_match.proofs.search.take_values.Given as goal

abbrev pub invariant-loop-place : goal.invariant-loop-place
invariant-loop-place g l = map Some l.values.items ≡ map (cell_in l.search l.chosen) (take l.place-index l.places)
