use Rattle.normaliser.proofs.LawLemmas.{same_snapshots, equal_or_disjoint, one_normalised}
use Rattle.normaliser.proofs.laws.normalised_tables_keep_what_holds.Goals as goal

pub returns-clause-same : goal.returns-clause-same
returns-clause-same c = same_snapshots

pub returns-clause-apart : goal.returns-clause-apart
returns-clause-apart c = equal_or_disjoint

pub returns-clause-one : goal.returns-clause-one
returns-clause-one c = one_normalised
