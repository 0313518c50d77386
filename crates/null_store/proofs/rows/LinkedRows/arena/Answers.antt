use Rattle.null_store.proofs.OccurrenceLemmas.{its_list}
use Rattle.null_store.proofs.rows.LinkedRows.arena.Goals as goal

pub returns-clause-lists : goal.returns-clause-lists
returns-clause-lists c =
    rw (← c.self.view_is) (its_list c.self.inside.arena c.self.inside.pieces.items c.self.invariant)
