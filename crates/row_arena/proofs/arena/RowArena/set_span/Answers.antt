use Rattle.row_arena.proofs.SoundLemmas.{has_row, spans_sound, sets_span}
use Rattle.row_arena.proofs.arena.RowArena.set_span.Goals as goal

pub index_mut-held-requires : goal.index_mut-held-requires
index_mut-held-requires c =
    let inside = c.self.inside in
    has_row inside.rows inside.bound inside.cells c.self.invariant c.args.self.now c.self.view_is c.args.row c.requires

pub invariant_of-self : goal.invariant_of-self
invariant_of-self c =
    let inside = c.self.inside in
    spans_sound inside.rows inside.bound inside.cells c.self.invariant c.args.row c.index_mut-held.result.now c.args.span
    c.index_mut-held.ensures.value

pub returns : goal.returns
returns c =
    let inside = c.self.inside in
    rw (← c.self.view_is) (sets_span inside.rows inside.bound inside.cells c.self.invariant c.args.row c.index_mut-held.result.now
    c.args.span c.index_mut-held.ensures.value)
