use Rattle.std.proofs.Common.{rules, List, map, set, sym, ap, ◌≡◌, ◌∙◌, ◌+◌, subst, arith}
use Rattle.std.specs.Prelude.{slice_get}
use Rattle.std.specs.Option.{option_map}
use Rattle.std.proofs.lemmas.List.{map-set}
use Rattle.std.proofs.lemmas.Option.{slice_get-map}
use Rattle.term_core.specs.declared.term.Seen.TheVariants.{Piece}
use Rattle.row_arena.specs.Arena.{cell_in}
use Rattle.row_arena.proofs.LookUpLemmas.{there_is, inside}
use Rattle.null_store.specs.declared.piece.CellList.{CellList}
use Rattle.null_store.specs.declared.piece.NamedPiece.{NamedPiece}
use Rattle.null_store.specs.declared.piece.ListedPiece.{ListedPiece}
use Rattle.null_store.specs.Lists.{AreListed}
use Rattle.null_store.specs.Layout.{ended}
use Rattle.null_store.proofs.ListLemmas.{and_some, set_same}
use Rattle.null_store.proofs.ViewLemmas.{held_by, replaces_cells}
use Rattle.null_store.proofs.JoinLemmas.{end_value, sum_fits, join_walk, join_listed, join_instead, joined}
use Rattle.null_store.proofs.OccurrenceLemmas.{has_occurrences}
use Rattle.null_store.proofs.rows.LinkedRows.join.Goals as goal

pub overflow_add-list : goal.overflow_add-list
overflow_add-list g c =
    let items = c.self.inside.pieces.items in
    let lists = map (λ (q : ListedPiece). q.list) items in
    let back = c.index-listed.result.now in
    let front = c.index-front.result.now in
    let arena = c.self.inside.arena in
    let its = held_by items _ c.args.self.now c.self.view_is c.args.piece c.requires.piece back c.index-listed.ensures in
    let theirs = held_by items _ c.args.self.now c.self.view_is c.args.other c.requires.other front c.index-front.ensures in
    let f = cell_in arena in
    let below = sum_fits f f f lists c.self.invariant c.args.piece c.args.other c.requires.differ back.list front.list its.1 theirs.1
    c.cell_bound-bound.result (λ id w e. omega (arith, inside arena.cells id w e, c.cell_bound-bound.ensures)) in
    search (rules, below)

pub lead-requires : goal.lead-requires
lead-requires g c = λ id e.
    let items = c.self.inside.pieces.items in
    let lists = map (λ (q : ListedPiece). q.list) items in
    let back = c.index-listed.result.now in
    let front = c.index-front.result.now in
    let arena = c.self.inside.arena in
    let its = held_by items _ c.args.self.now c.self.view_is c.args.piece c.requires.piece back c.index-listed.ensures in
    let theirs = held_by items _ c.args.self.now c.self.view_is c.args.other c.requires.other front c.index-front.ensures in
    let f = cell_in arena in
    let cell = end_value f f f lists c.self.invariant c.args.piece c.args.other c.requires.differ back.list front.list its.1 theirs.1 id e in
    there_is (f id) cell.0 cell.1

pub rewrite-requires : goal.rewrite-requires
rewrite-requires g c =
    let items = c.self.inside.pieces.items in
    let lists = map (λ (q : ListedPiece). q.list) items in
    let back = c.index-listed.result.now in
    let front = c.index-front.result.now in
    let arena = c.self.inside.arena in
    let its = held_by items _ c.args.self.now c.self.view_is c.args.piece c.requires.piece back c.index-listed.ensures in
    let theirs = held_by items _ c.args.self.now c.self.view_is c.args.other c.requires.other front c.index-front.ensures in
    join_walk (cell_in arena) (cell_in c.lead.new.arena) (cell_in c.lead.new.arena) lists c.self.invariant c.args.piece c.args.other
    c.requires.differ back.list front.list its.1 theirs.1 c.lead.ensures.leads.end c.lead.ensures.leads.others

pub invariant_of-self : goal.invariant_of-self
invariant_of-self g c =
    let items = c.self.inside.pieces.items in
    let lists = map (λ (q : ListedPiece). q.list) items in
    let back = c.index-listed.result.now in
    let front = c.index-front.result.now in
    let arena = c.self.inside.arena in
    let its = held_by items _ c.args.self.now c.self.view_is c.args.piece c.requires.piece back c.index-listed.ensures in
    let theirs = held_by items _ c.args.self.now c.self.view_is c.args.other c.requires.other front c.index-front.ensures in
    let new = cell_in c.rewrite.new.arena in
    let more : CellList = record { first = c.or.result; last = c.or-2.result; count = front.list.count + back.list.count } in
    let put : ListedPiece = record { named = front.named; list = more } in
    let is_more : more ≡ joined front.list back.list =
    λ i. record { first = c.or.ensures i; last = c.or-2.ensures i; count = front.list.count + back.list.count } in
    subst (AreListed new) (sym (map-set (λ (q : ListedPiece). q.list) (set items c.args.other put) c.args.piece c.end.result
    ∙ ap (λ (l : List CellList). set l c.args.piece c.end.result.list) (map-set (λ (q : ListedPiece). q.list) items c.args.other put
    ∙ ap (set lists c.args.other) is_more)
    ∙ ap (set (set lists c.args.other (joined front.list back.list)) c.args.piece) c.end.ensures.list))
    (join_listed (cell_in arena) (cell_in c.lead.new.arena) new lists c.self.invariant c.args.piece c.args.other
    c.requires.differ back.list front.list its.1 theirs.1 c.lead.ensures.leads.end c.lead.ensures.leads.others c.rewrite.ensures.written)

pub returns-clause-cells : goal.returns-clause-cells
returns-clause-cells g c =
    let items = c.self.inside.pieces.items in
    let lists = map (λ (q : ListedPiece). q.list) items in
    let back = c.index-listed.result.now in
    let front = c.index-front.result.now in
    let arena = c.self.inside.arena in
    let its = held_by items _ c.args.self.now c.self.view_is c.args.piece c.requires.piece back c.index-listed.ensures in
    let theirs = held_by items _ c.args.self.now c.self.view_is c.args.other c.requires.other front c.index-front.ensures in
    let new = c.rewrite.new.arena in
    rw (← c.self.view_is) (replaces_cells arena new c.is_kept.ensures (c.rewrite.ensures.keeps.rows ∙ c.lead.ensures.leads.rows)
    c.args.piece (Piece c.args.other)
    (join_instead (cell_in arena) (cell_in c.lead.new.arena) (cell_in new) lists c.self.invariant c.args.piece c.args.other
    c.requires.differ back.list front.list its.1 theirs.1 c.lead.ensures.leads.end c.lead.ensures.leads.others c.rewrite.ensures.written))

pub returns-clause-pieces : goal.returns-clause-pieces
returns-clause-pieces g c =
    let items = c.self.inside.pieces.items in
    let lists = map (λ (q : ListedPiece). q.list) items in
    let back = c.index-listed.result.now in
    let front = c.index-front.result.now in
    let arena = c.self.inside.arena in
    let its = held_by items _ c.args.self.now c.self.view_is c.args.piece c.requires.piece back c.index-listed.ensures in
    let theirs = held_by items _ c.args.self.now c.self.view_is c.args.other c.requires.other front c.index-front.ensures in
    let named : List ListedPiece → List NamedPiece = map (λ (q : ListedPiece). q.named) in
    let more : CellList = record { first = c.or.result; last = c.or-2.result; count = front.list.count + back.list.count } in
    let put : ListedPiece = record { named = front.named; list = more } in
    let at = slice_get-map (λ (q : ListedPiece). q.named) items c.args.piece ∙ ap (option_map (λ (q : ListedPiece). q.named)) its.0 in
    let there = slice_get-map (λ (q : ListedPiece). q.named) items c.args.other ∙ ap (option_map (λ (q : ListedPiece). q.named)) theirs.0 in
    rw (← c.self.view_is) (and_some (λ (q : NamedPiece). named (set (set items c.args.other put) c.args.piece c.end.result)
    ≡ set (named items) c.args.piece (ended q)) (slice_get (named items) c.args.piece) back.named at
    (map-set (λ (q : ListedPiece). q.named) (set items c.args.other put) c.args.piece c.end.result
    ∙ ap (λ (l : List NamedPiece). set l c.args.piece c.end.result.named) (map-set (λ (q : ListedPiece). q.named) items c.args.other put
    ∙ set_same (named items) c.args.other front.named there)
    ∙ ap (set (named items) c.args.piece) c.end.ensures.named))

pub returns-clause-steps : goal.returns-clause-steps
returns-clause-steps g c =
    let items = c.self.inside.pieces.items in
    let lists = map (λ (q : ListedPiece). q.list) items in
    let back = c.index-listed.result.now in
    let front = c.index-front.result.now in
    let arena = c.self.inside.arena in
    let its = held_by items _ c.args.self.now c.self.view_is c.args.piece c.requires.piece back c.index-listed.ensures in
    let theirs = held_by items _ c.args.self.now c.self.view_is c.args.other c.requires.other front c.index-front.ensures in
    rw (← c.self.view_is) (
      back.list.count,
      has_occurrences arena c.is_kept.ensures lists c.self.invariant c.args.piece back.list its.1,
      omega (arith, c.rewrite.ensures.steps, c.lead.ensures.steps),
    )
