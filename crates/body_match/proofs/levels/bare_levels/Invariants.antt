-- There is a level for each atom so far but the first.
use Rattle.std.proofs.Common.{◌≡◌, ◌+◌, [], length}
use Rattle.body_match.specs.Keys.{AreLevels}
use Rattle.body_match.proofs.levels.bare_levels.Given as goal

abbrev pub invariant-loop-before : goal.invariant-loop-before
invariant-loop-before l = record {
  size : length l.levels.items + 1 ≡ l.before;
  levels : AreLevels l.body l.places [] l.before l.levels.items;
}
