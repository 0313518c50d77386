use Rattle.std.proofs.Common.{ℕ, List, ◌<◌, length, sym, subst}
use Rattle.row_arena.specs.Arena.{Arena, IsArena, row_in, cell_in}
use Rattle.null_store.specs.Lists.{IsOccurrenceList}
use Rattle.null_store.specs.Facts.{KeepsFacts}
use Rattle.null_store.specs.Layout.{store_of}
use Rattle.null_store.proofs.SubstituteLemmas.{keeps_facts}
use Rattle.null_store.proofs.store.NullStore.arena.Goals as goal

pub returns-clause-facts : goal.returns-clause-facts
returns-clause-facts c =
    let held = c.self.inside.rows in
    let is = c.arena-arena.ensures.arena in
    rw (← c.self.view_is) (subst (λ (a : Arena). KeepsFacts a (store_of held c.self.inside.names)) (sym is)
    (keeps_facts held c.self.inside.names c.self.invariant
    (subst (λ (a : Arena). IsArena (row_in a) (cell_in a)) is c.is_kept.ensures)
    (subst (λ (a : Arena). (piece : ℕ) → piece < length held.pieces → (ids : List ℕ) × IsOccurrenceList (cell_in a) piece ids) is
    c.arena-arena.ensures.lists)))
