use Rattle.std.proofs.Common.{List, map, set, sym, ap, ◌≡◌, ◌∙◌, subst, arith}
use Rattle.std.specs.Prelude.{slice_get}
use Rattle.std.specs.Option.{option_map}
use Rattle.std.proofs.lemmas.List.{map-set}
use Rattle.std.proofs.lemmas.Option.{slice_get-map}
use Rattle.term_core.specs.declared.term.Seen.TheVariants.{Const}
use Rattle.row_arena.specs.Arena.{cell_in}
use Rattle.null_store.specs.declared.piece.NamedPiece.{NamedPiece}
use Rattle.null_store.specs.declared.piece.ListedPiece.{ListedPiece}
use Rattle.null_store.specs.Lists.{AreListed}
use Rattle.null_store.specs.Layout.{ended}
use Rattle.null_store.proofs.ListLemmas.{and_some}
use Rattle.null_store.proofs.ViewLemmas.{held_by, replaces_cells}
use Rattle.null_store.proofs.JoinLemmas.{fixed_walk, fixed_listed, fixed_instead}
use Rattle.null_store.proofs.OccurrenceLemmas.{has_occurrences}
use Rattle.null_store.proofs.rows.LinkedRows.fix.Goals as goal

pub rewrite-requires : goal.rewrite-requires
rewrite-requires g c =
    let items = c.self.inside.pieces.items in
    let p = c.index-listed.result.now in
    let f = cell_in c.self.inside.arena in
    let listed = held_by items _ c.args.self.now c.self.view_is c.args.piece c.requires p c.index-listed.ensures in
    fixed_walk f f (map (λ (q : ListedPiece). q.list) items) c.self.invariant c.args.piece p.list listed.1 c.args.constant

pub invariant_of-self : goal.invariant_of-self
invariant_of-self g c =
    let items = c.self.inside.pieces.items in
    let p = c.index-listed.result.now in
    let new = cell_in c.rewrite.new.arena in
    let lists = map (λ (q : ListedPiece). q.list) items in
    let listed = held_by items _ c.args.self.now c.self.view_is c.args.piece c.requires p c.index-listed.ensures in
    subst (AreListed new) (sym (map-set (λ (q : ListedPiece). q.list) items c.args.piece c.end.result
    ∙ ap (set lists c.args.piece) c.end.ensures.list))
    (fixed_listed (cell_in c.self.inside.arena) new lists c.self.invariant c.args.piece p.list listed.1 c.args.constant
    c.rewrite.ensures.written)

pub returns-clause-cells : goal.returns-clause-cells
returns-clause-cells g c =
    let items = c.self.inside.pieces.items in
    let p = c.index-listed.result.now in
    let arena = c.self.inside.arena in
    let new = c.rewrite.new.arena in
    let listed = held_by items _ c.args.self.now c.self.view_is c.args.piece c.requires p c.index-listed.ensures in
    rw (← c.self.view_is) (replaces_cells arena new c.is_kept.ensures c.rewrite.ensures.keeps.rows c.args.piece (Const c.args.constant)
    (fixed_instead (cell_in arena) (cell_in new) (map (λ (q : ListedPiece). q.list) items) c.self.invariant c.args.piece p.list listed.1
    c.args.constant c.rewrite.ensures.written))

pub returns-clause-pieces : goal.returns-clause-pieces
returns-clause-pieces g c =
    let items = c.self.inside.pieces.items in
    let p = c.index-listed.result.now in
    let named : List ListedPiece → List NamedPiece = map (λ (q : ListedPiece). q.named) in
    let listed = held_by items _ c.args.self.now c.self.view_is c.args.piece c.requires p c.index-listed.ensures in
    let at = slice_get-map (λ (q : ListedPiece). q.named) items c.args.piece ∙ ap (option_map (λ (q : ListedPiece). q.named)) listed.0 in
    rw (← c.self.view_is) (and_some (λ (q : NamedPiece). named (set items c.args.piece c.end.result)
    ≡ set (named items) c.args.piece (ended q)) (slice_get (named items) c.args.piece) p.named at
    (map-set (λ (q : ListedPiece). q.named) items c.args.piece c.end.result ∙ ap (set (named items) c.args.piece) c.end.ensures.named))

pub returns-clause-steps : goal.returns-clause-steps
returns-clause-steps g c =
    let items = c.self.inside.pieces.items in
    let p = c.index-listed.result.now in
    let listed = held_by items _ c.args.self.now c.self.view_is c.args.piece c.requires p c.index-listed.ensures in
    rw (← c.self.view_is) (
      p.list.count,
      has_occurrences c.self.inside.arena c.is_kept.ensures (map (λ (q : ListedPiece). q.list) items)
          c.self.invariant c.args.piece p.list listed.1,
      omega (arith, c.rewrite.ensures.steps),
    )
