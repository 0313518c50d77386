use Rattle.std.proofs.Common.{List, [], ◌∷◌, ◌++◌, length, map, set, sym, ap, ◌≡◌, ◌∙◌, subst}
use Rattle.std.specs.Prelude.{slice_get}
use Rattle.std.specs.Option.{option_map}
use Rattle.std.proofs.lemmas.List.{map-set}
use Rattle.std.proofs.lemmas.Option.{slice_get-map}
use Rattle.row_arena.specs.Arena.{cell_in}
use Rattle.null_store.specs.declared.piece.NamedPiece.{NamedPiece}
use Rattle.null_store.specs.declared.piece.ListedPiece.{ListedPiece}
use Rattle.null_store.specs.Lists.{AreListed}
use Rattle.null_store.specs.Layout.{LinkedArena, narrowed, cut_off}
use Rattle.null_store.proofs.ListLemmas.{and_some, set_same}
use Rattle.null_store.proofs.ViewLemmas.{held_by}
use Rattle.null_store.proofs.rows.LinkedRows.split_piece.Goals as goal

pub invariant_of-self : goal.invariant_of-self
invariant_of-self c =
    let items = c.self.inside.pieces.items in
    let p = c.index-listed.result.now in
    let put : ListedPiece = record { named = narrowed c.args.before c.len-twin.result p.named; list = p.list } in
    let listed = held_by items _ c.args.self.now c.self.view_is c.args.piece c.requires.piece p c.index-listed.ensures in
    subst (AreListed (cell_in c.self.inside.arena)) (sym (map-set (λ (q : ListedPiece). q.list) items c.args.piece put
    ∙ set_same (map (λ (q : ListedPiece). q.list) items) c.args.piece p.list listed.1)) c.self.invariant

pub returns-clause-pieces : goal.returns-clause-pieces
returns-clause-pieces c =
    let items = c.self.inside.pieces.items in
    let p = c.index-listed.result.now in
    let named : List ListedPiece → List NamedPiece = map (λ (q : ListedPiece). q.named) in
    let put : ListedPiece = record { named = narrowed c.args.before c.len-twin.result p.named; list = p.list } in
    let listed = held_by items _ c.args.self.now c.self.view_is c.args.piece c.requires.piece p c.index-listed.ensures in
    let at = slice_get-map (λ (q : ListedPiece). q.named) items c.args.piece ∙ ap (option_map (λ (q : ListedPiece). q.named)) listed.0 in
    let twin = c.len-twin.ensures ∙ sym (ap (λ (h : LinkedArena). length h.pieces) c.self.view_is) in
    rw (← c.self.view_is) (and_some (λ (q : NamedPiece). c.add_piece.new.self.pieces
    ≡ set (named items) c.args.piece (narrowed c.args.before (length (named items)) q) ++ cut_off c.args.after q ∷ [])
    (slice_get (named items) c.args.piece) p.named at
    (c.add_piece.ensures.pieces ∙ ap (λ (l : List NamedPiece). l ++ cut_off c.args.after p.named ∷ [])
    (map-set (λ (q : ListedPiece). q.named) items c.args.piece put
    ∙ ap (λ t. set (named items) c.args.piece (narrowed c.args.before t p.named)) twin)))
