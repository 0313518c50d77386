use Rattle.std.proofs.Common.{ℕ, List, Contains, subst}
use Rattle.body_match.proofs.ListLemmas.{within_from_at}
use Rattle.body_match.proofs.levels.level_of.Goals as goal

pub entries_of-requires : goal.entries_of-requires
entries_of-requires g c = λ column h.
    let b = c.in_ok-columns.ensures column (subst (λ (l : List ℕ). Contains l column) c.as_slice.ensures.value h) in
    within_from_at c.args.atom.now.args column b.0 b.1
