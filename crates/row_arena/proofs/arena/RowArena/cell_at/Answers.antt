use Rattle.std.proofs.Common.{arith}
use Rattle.row_arena.proofs.SoundLemmas.{there, narrow, cell_number, cell_there}
use Rattle.row_arena.proofs.arena.RowArena.cell_at.Goals as goal

pub index-requires : goal.index-requires
index-requires c =
    let inside = c.self.inside in
    there inside.rows inside.bound inside.cells c.self.invariant c.args.self.now c.self.view_is c.args.row c.args.column c.requires

pub offset_bounds-index-column : goal.offset_bounds-index-column
offset_bounds-index-column c =
    let inside = c.self.inside in
    let l = narrow inside.rows inside.bound inside.cells c.self.invariant c.args.self.now c.self.view_is c.args.row c.args.column c.requires in
    omega (arith, l)

pub bounds-index-column : goal.bounds-index-column
bounds-index-column c =
    let inside = c.self.inside in
    narrow inside.rows inside.bound inside.cells c.self.invariant c.args.self.now c.self.view_is c.args.row c.args.column c.requires

pub returns-clause-number : goal.returns-clause-number
returns-clause-number c =
    let inside = c.self.inside in
    cell_number inside.rows inside.bound inside.cells c.self.invariant c.args.self.now c.self.view_is c.args.row c.args.column c.requires
    c.index.result.now c.index.ensures

pub returns-clause-there : goal.returns-clause-there
returns-clause-there c =
    let inside = c.self.inside in
    cell_there inside.rows inside.bound inside.cells c.self.invariant c.args.self.now c.self.view_is c.args.row c.args.column c.requires
    c.index.result.now c.index.ensures
