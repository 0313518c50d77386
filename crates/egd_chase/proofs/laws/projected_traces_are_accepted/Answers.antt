use Rattle.egd_chase.proofs.AcceptedLemmas.{projected_are_accepted}
use Rattle.egd_chase.proofs.laws.projected_traces_are_accepted.Goals as goal

pub returns : goal.returns
returns c = projected_are_accepted
