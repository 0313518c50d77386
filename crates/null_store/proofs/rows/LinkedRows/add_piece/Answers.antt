use Rattle.std.proofs.Common.{None, map, sym, ap, ◌∙◌, subst}
use Rattle.std.proofs.lemmas.List.{map_push}
use Rattle.row_arena.specs.Arena.{cell_in}
use Rattle.null_store.specs.declared.piece.ListedPiece.{ListedPiece}
use Rattle.null_store.specs.Lists.{AreListed}
use Rattle.null_store.proofs.LinkLemmas.{one_more}
use Rattle.null_store.proofs.rows.LinkedRows.add_piece.Goals as goal

pub invariant_of-self : goal.invariant_of-self
invariant_of-self c =
    let items = c.self.inside.pieces.items in
    let cell = cell_in c.self.inside.arena in
    let put : ListedPiece = record { named = c.args.named; list = record { first = None; last = None; count = 0 } } in
    subst (AreListed cell) (sym (ap (map (λ (p : ListedPiece). p.list)) c.push_reserved.ensures.items ∙ map_push (λ (p : ListedPiece). p.list) items put))
    (one_more cell (map (λ (p : ListedPiece). p.list) items) c.self.invariant)

pub returns-clause-pieces : goal.returns-clause-pieces
returns-clause-pieces c =
    let items = c.self.inside.pieces.items in
    let put : ListedPiece = record { named = c.args.named; list = record { first = None; last = None; count = 0 } } in
    rw (← c.self.view_is) (ap (map (λ (p : ListedPiece). p.named)) c.push_reserved.ensures.items
    ∙ map_push (λ (p : ListedPiece). p.named) items put)
