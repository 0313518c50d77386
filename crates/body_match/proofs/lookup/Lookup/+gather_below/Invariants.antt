use Rattle.std.proofs.Common.{◌-◌, length}
use Rattle.body_match.proofs.lookup.Lookup.+gather_below.Given as goal

abbrev pub decreases-gather_below : goal.decreases-gather_below
decreases-gather_below l = length l.self.now.reaches - l.node
