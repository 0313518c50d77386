use Rattle.exchange_cli.proofs.ReadLemmas.{only_shelf_fails}
use Rattle.exchange_cli.proofs.laws.what_is_read_is_not_refused.Goals as goal

pub returns : goal.returns
returns c = λ held command f g inputs ending.
    only_shelf_fails held c.a_mapping_is_one.ensures.one c.a_mapping_is_one.ensures.apart
    c.a_table_has_facts_or_a_fault.ensures.not_both c.a_text_is_one_trace_or_has_one_first_fault.ensures.apart command f g inputs ending
