use Rattle.temporal_csv.proofs.StoredLemmas.{one-cell}
use Rattle.temporal_csv.proofs.laws.each_cell_is_one_term.Goals as goal

pub returns : goal.returns
returns c = one-cell
