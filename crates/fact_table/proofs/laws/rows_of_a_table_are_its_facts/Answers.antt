use Rattle.fact_table.proofs.SnapshotLemmas.{same_facts}
use Rattle.fact_table.proofs.laws.rows_of_a_table_are_its_facts.Goals as goal

pub returns : goal.returns
returns c = same_facts
