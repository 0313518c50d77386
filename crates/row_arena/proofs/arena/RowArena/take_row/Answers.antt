use Rattle.std.proofs.Common.{arith}
use Rattle.row_arena.proofs.SoundLemmas.{has_row, in_place, taken_sound, takes_row}
use Rattle.row_arena.proofs.arena.RowArena.take_row.Goals as goal

pub remove-held-requires : goal.remove-held-requires
remove-held-requires c =
    let inside = c.self.inside in
    has_row inside.rows inside.bound inside.cells c.self.invariant c.args.self.now c.self.view_is c.args.row c.requires

pub take_cells-requires-clause-places : goal.take_cells-requires-clause-places
take_cells-requires-clause-places c =
    let inside = c.self.inside in
    in_place inside.rows inside.bound inside.cells c.self.invariant c.args.row c.remove-held.result c.remove-held.ensures.value

pub invariant_of-self : goal.invariant_of-self
invariant_of-self c =
    let inside = c.self.inside in
    taken_sound inside.rows inside.bound inside.cells c.self.invariant c.remove-held.new.self c.take_cells.new.cells c.args.row
    c.remove-held.result c.remove-held.ensures.value c.remove-held.ensures.updates c.take_cells.ensures.takes

pub returns : goal.returns
returns c =
    let inside = c.self.inside in
    let rows = c.remove-held.ensures in
    let cells = c.take_cells.ensures in
    let room = c.capacity-room.ensures in
    rw (← c.self.view_is) (takes_row inside.rows inside.bound inside.cells c.self.invariant c.remove-held.new.self
    c.take_cells.new.cells c.args.row c.remove-held.result rows.value rows.updates cells.takes rows.len rows.room rows.capacity
    cells.len (omega (arith, room.value, room.holds_all)) cells.capacity)
