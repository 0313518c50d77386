use Rattle.std.proofs.Common.{map}
use Rattle.null_store.specs.declared.piece.ListedPiece.{ListedPiece}
use Rattle.null_store.proofs.ViewLemmas.{held_by}
use Rattle.null_store.proofs.OccurrenceLemmas.{has_occurrences}
use Rattle.null_store.proofs.rows.LinkedRows.occurrences.Goals as goal

pub returns : goal.returns
returns c =
    let items = c.self.inside.pieces.items in
    let listed = held_by items _ c.args.self.now c.self.view_is c.args.piece c.requires c.index.result.now c.index.ensures in
    rw (← c.self.view_is) (has_occurrences c.self.inside.arena c.is_kept.ensures (map (λ (p : ListedPiece). p.list) items) c.self.invariant
    c.args.piece c.index.result.now.list listed.1)
