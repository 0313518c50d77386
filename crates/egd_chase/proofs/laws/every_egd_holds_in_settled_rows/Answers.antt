use Rattle.egd_chase.proofs.SettledLemmas.{settled_rows_hold}
use Rattle.egd_chase.proofs.laws.every_egd_holds_in_settled_rows.Goals as goal

pub returns : goal.returns
returns c = settled_rows_hold
