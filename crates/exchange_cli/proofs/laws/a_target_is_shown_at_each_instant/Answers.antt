-- A coalesced table is in order at each instant.
use Rattle.exchange_cli.proofs.SnapshotLemmas.{is_snapshot}
use Rattle.exchange_cli.proofs.laws.a_target_is_shown_at_each_instant.Goals as goal

pub returns : goal.returns
returns c = λ inputs loaded solved t from given.
    is_snapshot c.rows_have_one_order.ensures.apart inputs loaded solved t from given
    (c.stored_tables_are_a_target.ensures inputs loaded solved from given)
