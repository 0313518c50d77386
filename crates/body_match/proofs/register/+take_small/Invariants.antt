use Rattle.std.proofs.Common.{length}
use Rattle.body_match.proofs.register.+take_small.Given as goal

abbrev pub decreases-take_small : goal.decreases-take_small
decreases-take_small l = length l.lookups.now.items
