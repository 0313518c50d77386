use Rattle.exchange_cli.proofs.FailureLemmas.{one_first_refusal}
use Rattle.exchange_cli.proofs.laws.there_is_one_first_refusal.Goals as goal

pub returns : goal.returns
returns c = λ held command f g a b first second p q no none.
    one_first_refusal c.a_mapping_is_one.ensures.one c.a_mapping_is_one.ensures.fault
    c.a_mapping_is_one.ensures.apart c.a_table_has_one_first_fault.ensures c.a_table_has_facts_or_a_fault.ensures.not_both
    c.a_text_is_one_trace_or_has_one_first_fault.ensures.fault
    held command f g a b first second p q (λ fault. no fault.0 fault.1) (λ fault. none fault.0 fault.1)
