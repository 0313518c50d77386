use Rattle.egd_chase.proofs.MeasureLemmas.{steps_lower}
use Rattle.egd_chase.proofs.laws.each_step_lowers_the_measure.Goals as goal

pub returns : goal.returns
returns c = steps_lower
