use Rattle.null_store.proofs.StoreLemmas.{sound_like, holds_same}
use Rattle.null_store.proofs.store.NullStore.reserve.Goals as goal

pub invariant_of-self : goal.invariant_of-self
invariant_of-self c = sound_like c.self.inside.rows c.reserve.new.self c.self.inside.names c.reserve.ensures.same c.self.invariant

pub returns-clause-same : goal.returns-clause-same
returns-clause-same c =
    rw (← c.self.view_is) (holds_same c.self.inside.rows c.reserve.new.self c.self.inside.names c.reserve.ensures.same)
