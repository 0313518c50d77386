use Rattle.std.proofs.Common.{◌<◌, ◌≤◌, ◌∙◌, length, refl, ap, subst, sym, arith}
use Rattle.std.proofs.lemmas.List.FromFn.{length-map-range_with_len}
use Rattle.row_arena.specs.Arena.{Arena}
use Rattle.row_arena.specs.Layout.{held_in}
use Rattle.row_arena.proofs.SoundLemmas.{grown_sound, adds_row}
use Rattle.row_arena.proofs.arena.RowArena.add_row.Goals as goal

pub invariant_of-self : goal.invariant_of-self
invariant_of-self c =
    let inside = c.self.inside in
    let insert = c.insert_reserved-self-inside in
    let cells = c.add_cells-ids in
    grown_sound inside.rows inside.bound inside.cells c.self.invariant insert.new.self _ cells.new.cells c.vacant_key-row.result
    insert.result _ c.args.values.now c.vacant_key-row.ensures.vacant (insert.ensures.key ∙ sym c.vacant_key-row.ensures.value)
    insert.ensures.updates c.max-self-inside.ensures refl c.requires.few cells.ensures.size cells.ensures.adds

pub returns-clause-adds : goal.returns-clause-adds
returns-clause-adds c =
    let inside = c.self.inside in
    let insert = c.insert_reserved-self-inside in
    let cells = c.add_cells-ids in
    rw (← c.self.view_is) (adds_row inside.rows inside.bound inside.cells c.self.invariant insert.new.self _ cells.new.cells
    c.vacant_key-row.result insert.result _ c.args.values.now c.vacant_key-row.ensures.vacant
    (insert.ensures.key ∙ sym c.vacant_key-row.ensures.value) insert.ensures.updates c.max-self-inside.ensures refl c.requires.few
    cells.ensures.size cells.ensures.adds
    (subst (λ (a : Arena). 0 < a.spare_rows) (sym c.self.view_is) c.requires.row)
    (subst (λ (a : Arena). length c.args.values.now ≤ a.spare_cells) (sym c.self.view_is) c.requires.cells)
    insert.ensures.len insert.ensures.capacity cells.ensures.len cells.ensures.capacity)

pub returns-clause-bound : goal.returns-clause-bound
returns-clause-bound c =
    let inside = c.self.inside in
    let bound = c.max-self-inside in
    let was = ap (λ (a : Arena). length a.rows) c.self.view_is in
    let old = length-map-range_with_len (held_in inside.rows.slots) 0 inside.bound in
    subst (λ n. length c.args.self.now.rows ≤ n) (sym (length-map-range_with_len _ 0 bound.result))
    (omega (arith, was, old, bound.ensures))
