use Rattle.temporal_csv.proofs.OutcomeLemmas.{table-outcome}
use Rattle.temporal_csv.proofs.TableLemmas.{table-no-fault}
use Rattle.temporal_csv.proofs.laws.a_table_has_facts_or_a_fault.Goals as goal

pub returns-clause-either : goal.returns-clause-either
returns-clause-either c = table-outcome

pub returns-clause-not_both : goal.returns-clause-not_both
returns-clause-not_both c columns bytes facts table faults =
    table-no-fault c.one_end_a_text.ensures columns bytes facts faults.0 table faults.1
