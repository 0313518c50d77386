use Rattle.std.proofs.Common.{◌≡◌, Some, length, refl, sym, ap, ◌∙◌, subst}
use Rattle.std.specs.Prelude.{slice_get, slice_set}
use Rattle.std.proofs.lemmas.Option.{slice_get_read}
use Rattle.body_match.specs.declared.lookup.Entry.{Entry}
use Rattle.body_match.specs.Lookup.{Tree, tree_of}
use Rattle.body_match.specs.Renewals.{IsRowAt, KeepsOthers}
use Rattle.body_match.proofs.ListLemmas.{within_from_at}
use Rattle.body_match.proofs.SearchLemmas.{same_some}
use Rattle.body_match.proofs.RenewalLemmas.{still_tree, others_stay}
use Rattle.body_match.proofs.lookup.Lookup.mark.Goals as goal
use Rattle.body_match.proofs.lookup.Lookup.mark.Goals.{After-index_mut-entry}

-- the entry at the place is one of the row
row_there : (c : After-index_mut-entry) → IsRowAt c.self.inside.entries.items c.args.row c.args.at
row_there c = subst (λ (t : Tree). IsRowAt t.entries c.args.row c.args.at) (sym c.self.view_is) c.requires

-- and it was read
entry_read : (c : After-index_mut-entry) → slice_get c.self.inside.entries.items c.args.at ≡ Some c.index_mut-entry.result.now
entry_read c =
    let there = row_there c in
    slice_get_read c.self.inside.entries.items (length c.self.inside.entries.items) c.args.at c.index_mut-entry.result.now refl
    (within_from_at c.self.inside.entries.items c.args.at there.0 there.1) c.index_mut-entry.ensures.value

pub invariant_of-self : goal.invariant_of-self
invariant_of-self c =
    let inside = c.self.inside in
    still_tree (tree_of inside.entries.items inside.reaches.items inside.leaves inside.stretches.items) c.self.invariant c.args.at
    c.dropped.result c.index_mut-entry.result.now (entry_read (goal.at.invariant_of-self c).After-index_mut-entry) c.dropped.ensures.key
    c.dropped.ensures.within

pub returns : goal.returns
returns c =
    let items = c.self.inside.entries.items in
    let there = row_there (goal.at.returns c).After-index_mut-entry in
    let read = entry_read (goal.at.returns c).After-index_mut-entry in
    let row = ap (λ (e : Entry). e.row) (same_some (slice_get items c.args.at) c.index_mut-entry.result.now there.0 read there.1) ∙ there.2 in
    subst (λ (t : Tree). KeepsOthers c.args.row t.entries (slice_set items c.args.at c.dropped.result)) c.self.view_is
    (others_stay c.args.row c.args.at items c.index_mut-entry.result.now c.dropped.result read row)
