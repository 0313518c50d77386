use Rattle.rule_core.proofs.SnapshotLemmas.{snapshot_covers, covered_in_snapshot}
use Rattle.rule_core.proofs.laws.snapshots_hold_what_is_covered.Goals as goal

pub returns : goal.returns
returns c = λ stamped fact t. (snapshot_covers stamped fact t, covered_in_snapshot stamped fact t)
