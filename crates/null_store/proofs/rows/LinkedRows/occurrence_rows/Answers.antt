use Rattle.std.proofs.Common.{ℕ, List, map}
use Rattle.std.proofs.lemmas.Result.{IfOk-weaker}
use Rattle.row_arena.specs.Arena.{cell_in}
use Rattle.null_store.specs.declared.piece.ListedPiece.{ListedPiece}
use Rattle.null_store.specs.Lists.{rows_seen, HasRowsOf}
use Rattle.null_store.specs.Layout.{IsWalk, HasRowsBelow}
use Rattle.null_store.proofs.ViewLemmas.{held_by}
use Rattle.null_store.proofs.JoinLemmas.{walk_of}
use Rattle.null_store.proofs.OccurrenceLemmas.{has_rows_of}
use Rattle.null_store.proofs.rows.LinkedRows.occurrence_rows.Goals as goal

pub rows_of-requires : goal.rows_of-requires
rows_of-requires g c =
    let items = c.self.inside.pieces.items in
    let p = c.index.result.now in
    let listed = held_by items _ c.args.self.now c.self.view_is c.args.piece c.requires p c.index.ensures in
    let ids = c.self.invariant.each c.args.piece p.list listed.1 in
    (ids.0, walk_of (cell_in c.self.inside.arena) c.args.piece p.list ids.0 ids.1 ids.2)

pub returns-clause-rows : goal.returns-clause-rows
returns-clause-rows g c =
    let items = c.self.inside.pieces.items in
    let p = c.index.result.now in
    let f = cell_in c.self.inside.arena in
    let listed = held_by items _ c.args.self.now c.self.view_is c.args.piece c.requires p c.index.ensures in
    rw (← c.self.view_is) (IfOk-weaker c.rows_of.result
    (λ (rows : List ℕ). (ids : List ℕ) → IsWalk f p.list ids → HasRowsBelow f ids p.list.count rows)
    (HasRowsOf (rows_seen c.self.inside.arena) c.args.piece)
    (has_rows_of c.self.inside.arena c.is_kept.ensures (map (λ (q : ListedPiece). q.list) items) c.self.invariant c.args.piece p.list
    listed.1) c.rows_of.ensures.rows)
