use Rattle.std.proofs.Common.{map, sym, subst}
use Rattle.null_store.specs.declared.piece.ListedPiece.{ListedPiece}
use Rattle.null_store.specs.Lists.{rows_seen}
use Rattle.null_store.specs.Layout.{LinkedArena, HasPlain}
use Rattle.null_store.proofs.ViewLemmas.{plain_has, has_column, plain_cell, put_sets, put_lists}
use Rattle.row_arena.specs.Arena.{cell_in}
use Rattle.row_arena.proofs.LookUpLemmas.{there_is}
use Rattle.null_store.proofs.rows.LinkedRows.put.Goals as goal

pub cell_at-id-requires : goal.cell_at-id-requires
cell_at-id-requires g c =
    let arena = c.self.inside.arena in
    has_column arena c.args.row c.args.column (plain_has (rows_seen arena) c.args.row c.args.column
    (subst (λ (h : LinkedArena). HasPlain (rows_seen h.arena) c.args.row c.args.column) (sym c.self.view_is) c.requires))

pub put_cell-requires : goal.put_cell-requires
put_cell-requires g c =
    let arena = c.self.inside.arena in
    let asked = subst (λ (h : LinkedArena). HasPlain (rows_seen h.arena) c.args.row c.args.column) (sym c.self.view_is) c.requires in
    let old = plain_cell arena c.args.row c.args.column c.cell_at-id.result asked c.cell_at-id.ensures.number c.cell_at-id.ensures.there in
    there_is (cell_in arena c.cell_at-id.result) old.0 old.1

pub invariant_of-self : goal.invariant_of-self
invariant_of-self g c =
    let arena = c.self.inside.arena in
    let asked = subst (λ (h : LinkedArena). HasPlain (rows_seen h.arena) c.args.row c.args.column) (sym c.self.view_is) c.requires in
    let old = plain_cell arena c.args.row c.args.column c.cell_at-id.result asked c.cell_at-id.ensures.number c.cell_at-id.ensures.there in
    put_lists arena c.put_cell.new.self c.cell_at-id.result c.args.constant c.put_cell.ensures.puts old.0 old.1 old.2
    (map (λ (p : ListedPiece). p.list) c.self.inside.pieces.items) c.self.invariant

pub returns-clause-sets : goal.returns-clause-sets
returns-clause-sets g c =
    let arena = c.self.inside.arena in
    let asked = subst (λ (h : LinkedArena). HasPlain (rows_seen h.arena) c.args.row c.args.column) (sym c.self.view_is) c.requires in
    let old = plain_cell arena c.args.row c.args.column c.cell_at-id.result asked c.cell_at-id.ensures.number c.cell_at-id.ensures.there in
    rw (← c.self.view_is) (put_sets arena c.put_cell.new.self c.cell_at-id.result c.args.constant c.put_cell.ensures.puts old.0 old.1 old.2
    c.args.row c.args.column c.is_kept.ensures c.cell_at-id.ensures.number c.cell_at-id.ensures.there)
