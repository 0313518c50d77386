use Rattle.std.proofs.Common.{sym}
use Rattle.std.proofs.lemmas.List.FromFn.{length-map-range_with_len}
use Rattle.row_arena.specs.Layout.{held_in}
use Rattle.row_arena.proofs.arena.RowArena.bound.Goals as goal

pub returns : goal.returns
returns c =
    rw (← c.self.view_is) (sym (length-map-range_with_len (held_in c.self.inside.rows.slots) 0 c.self.inside.bound))
