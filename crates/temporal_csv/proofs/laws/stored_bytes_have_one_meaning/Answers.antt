use Rattle.temporal_csv.proofs.StoredLemmas.{bare-rows, header-one, stamped-rows}
use Rattle.temporal_csv.proofs.laws.stored_bytes_have_one_meaning.Goals as goal

pub returns-clause-header : goal.returns-clause-header
returns-clause-header c = header-one

pub returns-clause-stamped : goal.returns-clause-stamped
returns-clause-stamped c = stamped-rows c.one_end_a_text.ensures

pub returns-clause-bare : goal.returns-clause-bare
returns-clause-bare c = bare-rows
