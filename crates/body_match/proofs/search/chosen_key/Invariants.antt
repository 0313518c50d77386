-- The key of what the arguments so far stand for.
use Rattle.std.proofs.Common.{◌≡◌, take}
use Rattle.body_match.specs.Keys.{key_of}
use Rattle.body_match.specs.Search.{value_in}
use Rattle.body_match.proofs.search.chosen_key.Given as goal

abbrev pub invariant-loop-column : goal.invariant-loop-column
invariant-loop-column g l = l.key ≡ key_of (value_in l.search l.chosen l.atom) (take l.column-index l.columns)
