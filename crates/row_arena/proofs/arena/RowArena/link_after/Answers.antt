use Rattle.std.proofs.Common.{refl}
use Rattle.row_arena.specs.Layout.{held_in}
use Rattle.row_arena.proofs.ArenaLemmas.{written}
use Rattle.row_arena.proofs.arena.RowArena.link_after.Goals as goal

pub invariant_of-self : goal.invariant_of-self
invariant_of-self g c =
    let inside = c.self.inside in
    let sound = c.self.invariant in
    record {
      arena = written (held_in inside.rows.slots) inside.cells.slots sound.arena c.args.id c.index_mut-cell.result.now _
          c.index_mut-cell.ensures.value refl refl;
      below = sound.below;
      held = sound.held;
    }
