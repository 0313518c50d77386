use Rattle.exchange_cli.proofs.ReadLemmas.{one_reading}
use Rattle.exchange_cli.proofs.laws.what_is_read_is_one.Goals as goal

pub returns : goal.returns
returns c = λ held command f g a b.
    one_reading held c.a_mapping_is_one.ensures.one c.a_table_has_one_list_of_facts.ensures
    c.a_text_is_one_trace_or_has_one_first_fault.ensures.trace command f g a b
