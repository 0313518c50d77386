-- The laws that the answers stand on are those of the crates below.
use Rattle.exchange_cli.proofs.CertainLemmas.{have_certain}
use Rattle.exchange_cli.proofs.laws.stored_answers_are_certain.Goals as goal

pub returns : goal.returns
returns c = λ inputs loaded solved from given.
    have_certain inputs loaded solved.nulls from.constants from.pool from.each from.rules from.facts solved.tables given.nulls
    c.unknowns_have_one_order.ensures.total c.ids_are_ordered_as_their_texts.ensures.alike c.snapshots_hold_what_is_covered.ensures
    c.a_renaming_keeps_what_holds.ensures.certain c.a_pool_begins_a_renaming.ensures c.instances_are_read_as_sets.ensures.certain
    c.renumbered_rules_say_the_same.ensures.certain c.rows_in_the_same_order_stay_coalesced.ensures
    c.rows_of_a_table_are_its_facts.ensures solved.answers given.answers
