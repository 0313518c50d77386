use Rattle.term_core.proofs.pool.PoolBuilder.finish.Goals as goal

pub returns-clause-has : goal.returns-clause-has
returns-clause-has c = rw (← c.self.view_is, c.in_ok-texts.ensures) c.in_ok-list.ensures.has
