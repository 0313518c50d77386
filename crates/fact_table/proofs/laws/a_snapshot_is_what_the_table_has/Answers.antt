use Rattle.std.proofs.Common.{sym}
use Rattle.fact_table.proofs.SnapshotLemmas.{from_snapshot, has_in_snapshot, snapshot_has}
use Rattle.fact_table.proofs.laws.a_snapshot_is_what_the_table_has.Goals as goal

pub returns-clause-has : goal.returns-clause-has
returns-clause-has c = λ facts relation row t. (has_in_snapshot facts relation row t, snapshot_has facts relation row t)

pub returns-clause-constants : goal.returns-clause-constants
returns-clause-constants c = λ facts t fact held.
    let d = from_snapshot facts fact t held in
    (d.0.relation, d.0.row, sym d.2)
