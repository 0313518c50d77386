use Rattle.temporal_csv.proofs.StoredLemmas.{table-read}
use Rattle.temporal_csv.proofs.laws.stored_tables_are_read_back.Goals as goal

pub returns : goal.returns
returns c = table-read c.end_texts_read_back.ensures.ends
