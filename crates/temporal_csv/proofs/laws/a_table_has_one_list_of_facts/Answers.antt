use Rattle.temporal_csv.proofs.TableLemmas.{table-unique}
use Rattle.temporal_csv.proofs.laws.a_table_has_one_list_of_facts.Goals as goal

pub returns : goal.returns
returns c = table-unique c.one_end_a_text.ensures
