use Rattle.std.proofs.Common.{◌+◌, ◌*◌, ◌%◌, ◌^◌, ap}
use Rattle.body_match.specs.Keys.{mixed}
use Rattle.body_match.proofs.levels.mix.Goals as goal

pub returns : goal.returns
unfolding mixed
returns c = ap (λ n. ((c.args.key + n) % 2 ^ 64 * 11400714819323198485) % 2 ^ 64) c.number_of.ensures
