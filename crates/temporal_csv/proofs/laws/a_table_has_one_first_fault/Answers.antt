use Rattle.temporal_csv.proofs.TableLemmas.{fault-unique}
use Rattle.temporal_csv.proofs.laws.a_table_has_one_first_fault.Goals as goal

pub returns : goal.returns
returns c = fault-unique c.one_end_a_text.ensures
