use Rattle.std.proofs.Common.{rules, ℕ, ◌+◌, Option, Some, None, List, map, set, refl, sym, ap, ◌∙◌, subst, arith}
use Rattle.std.specs.Option.{option_map}
use Rattle.std.proofs.lemmas.List.{map-set}
use Rattle.std.proofs.lemmas.Option.{slice_get-map}
use Rattle.term_core.specs.declared.term.Seen.TheVariants.{Piece}
use Rattle.row_arena.specs.declared.cell.Cell.{Cell}
use Rattle.row_arena.specs.Arena.{cell_in}
use Rattle.row_arena.proofs.LookUpLemmas.{there_is, inside}
use Rattle.null_store.specs.declared.piece.CellList.{CellList}
use Rattle.null_store.specs.declared.piece.ListedPiece.{ListedPiece}
use Rattle.null_store.specs.Lists.{rows_seen, AreListed}
use Rattle.null_store.specs.Layout.{LinkedArena, HasPlain}
use Rattle.null_store.proofs.ListLemmas.{set_same}
use Rattle.null_store.proofs.LinkLemmas.{count_below, end_there, listed_more}
use Rattle.null_store.proofs.ViewLemmas.{plain_has, has_column, plain_cell, sets_cell, value_is, held_by, linked_values}
use Rattle.null_store.proofs.rows.LinkedRows.hold.Goals as goal

pub cell_at-id-requires : goal.cell_at-id-requires
cell_at-id-requires g c =
    let arena = c.self.inside.arena in
    has_column arena c.args.row c.args.column (plain_has (rows_seen arena) c.args.row c.args.column
    (subst (λ (h : LinkedArena). HasPlain (rows_seen h.arena) c.args.row c.args.column) (sym c.self.view_is) c.requires.cell))

pub overflow_add-list : goal.overflow_add-list
overflow_add-list g c =
    let arena = c.self.inside.arena in
    let items = c.self.inside.pieces.items in
    let asked = subst (λ (h : LinkedArena). HasPlain (rows_seen h.arena) c.args.row c.args.column) (sym c.self.view_is) c.requires.cell in
    let old = plain_cell arena c.args.row c.args.column c.cell_at-id.result asked c.cell_at-id.ensures.number c.cell_at-id.ensures.there in
    let listed = held_by c.self.inside.pieces.items _ c.args.self.now c.self.view_is c.args.piece c.requires.piece
    c.index-listed.result.now c.index-listed.ensures in
    let below = count_below (cell_in arena) (map (λ (p : ListedPiece). p.list) items) c.self.invariant c.args.piece
    c.index-listed.result.now.list listed.1 c.cell_at-id.result old.0 old.1 old.2 c.cell_bound-bound.result
    (λ id w e. omega (arith, inside arena.cells id w e, c.cell_bound-bound.ensures)) in
    search (rules, below)

pub link-requires : goal.link-requires
link-requires g c =
    let arena = c.self.inside.arena in
    let items = c.self.inside.pieces.items in
    let asked = subst (λ (h : LinkedArena). HasPlain (rows_seen h.arena) c.args.row c.args.column) (sym c.self.view_is) c.requires.cell in
    let old = plain_cell arena c.args.row c.args.column c.cell_at-id.result asked c.cell_at-id.ensures.number c.cell_at-id.ensures.there in
    let listed = held_by c.self.inside.pieces.items _ c.args.self.now c.self.view_is c.args.piece c.requires.piece
    c.index-listed.result.now c.index-listed.ensures in
    record {
      cell = there_is (cell_in arena c.cell_at-id.result) old.0 old.1;
      end = λ other e.
          let end = end_there (cell_in arena) (map (λ (p : ListedPiece). p.list) items) c.self.invariant c.args.piece
          c.index-listed.result.now.list listed.1 c.cell_at-id.result old.0 old.1 old.2 other e in
          (there_is (cell_in arena other) end.0 end.1, end.2);
    }

pub invariant_of-self : goal.invariant_of-self
invariant_of-self g c =
    let arena = c.self.inside.arena in
    let new = c.link.new.arena in
    let items = c.self.inside.pieces.items in
    let p = c.index-listed.result.now in
    let id = c.cell_at-id.result in
    let lists = map (λ (q : ListedPiece). q.list) items in
    let asked = subst (λ (h : LinkedArena). HasPlain (rows_seen h.arena) c.args.row c.args.column) (sym c.self.view_is) c.requires.cell in
    let old = plain_cell arena c.args.row c.args.column id asked c.cell_at-id.ensures.number c.cell_at-id.ensures.there in
    let listed = held_by items _ c.args.self.now c.self.view_is c.args.piece c.requires.piece p c.index-listed.ensures in
    let links = c.link.ensures.links in
    let cell : Cell = record { row = old.0.row; column = old.0.column; value = Piece c.args.piece; before = p.list.last; after = None } in
    let held : Cell → Cell = λ w. record { row = w.row; column = w.column; value = Piece c.args.piece; before = p.list.last; after = None } in
    let led : Cell → Cell = λ w. record { row = w.row; column = w.column; value = w.value; before = w.before; after = Some id } in
    let written = listed_more (cell_in arena) lists c.self.invariant c.args.piece p.list listed.1 id old.0 old.1 old.2 (cell_in new) cell
    (links.here ∙ ap (option_map held) old.1) refl refl refl
    (λ y w l e. (
      record { row = w.row; column = w.column; value = w.value; before = w.before; after = Some id },
      links.end y l ∙ ap (option_map led) e,
      refl,
      refl,
      refl,
    )) links.others in
    let with_first : Option ℕ → List CellList = λ o. set lists c.args.piece (record { first = o; last = Some id; count = p.list.count + 1 }) in
    let put : ListedPiece = record { named = p.named; list = record { first = c.or.result; last = Some id; count = p.list.count + 1 } } in
    subst (AreListed (cell_in new)) (sym (map-set (λ (q : ListedPiece). q.list) items c.args.piece put))
    (subst (λ (o : Option ℕ). AreListed (cell_in new) (with_first o)) (sym c.or.ensures) written)

pub returns-clause-sets : goal.returns-clause-sets
returns-clause-sets g c =
    let arena = c.self.inside.arena in
    let new = c.link.new.arena in
    let items = c.self.inside.pieces.items in
    let p = c.index-listed.result.now in
    let id = c.cell_at-id.result in
    let asked = subst (λ (h : LinkedArena). HasPlain (rows_seen h.arena) c.args.row c.args.column) (sym c.self.view_is) c.requires.cell in
    let old = plain_cell arena c.args.row c.args.column id asked c.cell_at-id.ensures.number c.cell_at-id.ensures.there in
    let links = c.link.ensures.links in
    let cell : Cell = record { row = old.0.row; column = old.0.column; value = Piece c.args.piece; before = p.list.last; after = None } in
    let held : Cell → Cell = λ w. record { row = w.row; column = w.column; value = Piece c.args.piece; before = p.list.last; after = None } in
    rw (← c.self.view_is) (sets_cell arena new c.is_kept.ensures c.args.row c.args.column id (Piece c.args.piece) links.rows
    c.cell_at-id.ensures.number c.cell_at-id.ensures.there
    (value_is (cell_in new) id cell (links.here ∙ ap (option_map held) old.1))
    (linked_values arena new id c.args.piece p.list.last links))

pub returns-clause-pieces : goal.returns-clause-pieces
returns-clause-pieces g c =
    let items = c.self.inside.pieces.items in
    let p = c.index-listed.result.now in
    let listed = held_by items _ c.args.self.now c.self.view_is c.args.piece c.requires.piece p c.index-listed.ensures in
    let list : CellList = record { first = c.or.result; last = Some c.cell_at-id.result; count = p.list.count + 1 } in
    let put : ListedPiece = record { named = p.named; list = list } in
    rw (← c.self.view_is) (map-set (λ (q : ListedPiece). q.named) items c.args.piece put
    ∙ set_same (map (λ (q : ListedPiece). q.named) items) c.args.piece p.named
    (slice_get-map (λ (q : ListedPiece). q.named) items c.args.piece ∙ ap (option_map (λ (q : ListedPiece). q.named)) listed.0))
