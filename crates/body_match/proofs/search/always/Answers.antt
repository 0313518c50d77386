use Rattle.std.proofs.Common.{pos}
use Rattle.body_match.proofs.search.always.Goals as goal

pub unwrap-requires : goal.unwrap-requires
unwrap-requires c = c.make.ensures.none_only.1 (record { instant = (pos 0, (tt, tt)); start = tt; stop = tt })
