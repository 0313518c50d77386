-- The laws that the target stands on are those of the crates below.
use Rattle.exchange_cli.proofs.TargetLemmas.{stored_is_target}
use Rattle.exchange_cli.proofs.laws.stored_tables_are_a_target.Goals as goal

pub returns : goal.returns
returns c = λ inputs loaded solved from given.
    stored_is_target inputs loaded solved.tables solved.nulls from.read_valid from.constants from.valid from.pool from.each from.rules
    from.facts given.coalesced given.universal given.within given.nulls
    c.unknowns_have_one_order.ensures.total c.ids_are_ordered_as_their_texts.ensures.alike c.snapshots_hold_what_is_covered.ensures
    c.a_renaming_keeps_what_holds.ensures.universal c.a_pool_begins_a_renaming.ensures c.instances_are_read_as_sets.ensures.universal
    c.renumbered_rules_say_the_same.ensures.universal c.unknowns_may_be_told_otherwise.ensures.universal
    c.rows_in_the_same_order_stay_coalesced.ensures c.rows_of_a_table_are_its_facts.ensures
