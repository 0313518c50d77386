use Rattle.row_arena.proofs.SoundLemmas.{seen_arena}
use Rattle.row_arena.proofs.arena.RowArena.is_kept.Goals as goal

pub returns : goal.returns
returns c =
    let inside = c.self.inside in
    rw (← c.self.view_is) (seen_arena inside.rows inside.bound inside.cells c.self.invariant)
