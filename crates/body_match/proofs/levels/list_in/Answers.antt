use Rattle.std.proofs.Common.{ℕ, List, Contains, subst}
use Rattle.body_match.proofs.levels.list_in.Goals as goal

pub entry_for-requires : goal.entry_for-requires
entry_for-requires g c = λ column h. c.requires column (subst (λ (l : List ℕ). Contains l column) c.as_slice.ensures.value h)
