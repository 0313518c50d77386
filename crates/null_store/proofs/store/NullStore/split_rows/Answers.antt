use Rattle.std.proofs.Common.{◌≤◌, ◌+◌, ◌*◌, ℤ, ℕ, List, sym, subst, to_z, of_z, w64, IsPermutation}
use Rattle.std.proofs.lemmas.Int.{to_z-of_z}
use Rattle.rule_core.specs.Snapshot.{snapshot_at}
use Rattle.null_store.specs.Store.{Store, facts_in}
use Rattle.null_store.specs.Splits.{CanSplit, SplitsRows, SplitsPieces, SplitsFacts, UsesRoomOf, cells_of}
use Rattle.null_store.specs.Layout.{store_of, CanCutAll, CutsAll}
use Rattle.null_store.proofs.PartLemmas.{can_cut_all, sound_parts, splits_rows, splits_pieces, uses_room}
use Rattle.null_store.proofs.InstantLemmas.{splits_facts, same_snapshots}
use Rattle.null_store.proofs.store.NullStore.split_rows.Goals as goal

pub split_all-requires-clause-can : goal.split_all-requires-clause-can
split_all-requires-clause-can g c =
    let inside = c.self.inside in
    let can = subst (λ (s : Store). CanSplit s c.args.rows.now c.args.m) (sym c.self.view_is) c.requires.can in
    subst (λ (t : ℤ). CanCutAll t inside.rows c.as_slice.result.now) (sym (to_z-of_z w64 c.args.m c.ranges.m))
    (subst (λ (ns : List ℕ). CanCutAll c.args.m inside.rows ns) (sym c.as_slice.ensures)
    (can_cut_all inside.rows inside.names c.args.m c.args.rows.now c.self.invariant can))

pub invariant_of-self : goal.invariant_of-self
invariant_of-self g c =
    let inside = c.self.inside in
    let now = c.split_all.new.rows in
    let made = c.split_all.new.made.items in
    let can = subst (λ (s : Store). CanSplit s c.args.rows.now c.args.m) (sym c.self.view_is) c.requires.can in
    let cuts = subst (λ (t : ℤ). CutsAll t c.args.rows.now made inside.rows now) (to_z-of_z w64 c.args.m c.ranges.m)
    (subst (λ (ns : List ℕ). CutsAll (to_z w64 (of_z w64 c.args.m)) ns made inside.rows now) c.as_slice.ensures c.split_all.ensures.cuts) in
    sound_parts inside.rows inside.names c.args.m c.args.rows.now c.self.invariant can made now cuts

pub returns-clause-rows : goal.returns-clause-rows
returns-clause-rows g c =
    let inside = c.self.inside in
    let now = c.split_all.new.rows in
    let made = c.split_all.new.made.items in
    let can = subst (λ (s : Store). CanSplit s c.args.rows.now c.args.m) (sym c.self.view_is) c.requires.can in
    let cuts = subst (λ (t : ℤ). CutsAll t c.args.rows.now made inside.rows now) (to_z-of_z w64 c.args.m c.ranges.m)
    (subst (λ (ns : List ℕ). CutsAll (to_z w64 (of_z w64 c.args.m)) ns made inside.rows now) c.as_slice.ensures c.split_all.ensures.cuts) in
    subst (λ (s : Store). SplitsRows c.args.rows.now c.args.m made s (store_of now inside.names)) c.self.view_is
    (splits_rows inside.rows inside.names c.args.m c.args.rows.now c.self.invariant can made now cuts)

pub returns-clause-pieces : goal.returns-clause-pieces
returns-clause-pieces g c =
    let inside = c.self.inside in
    let now = c.split_all.new.rows in
    let made = c.split_all.new.made.items in
    let can = subst (λ (s : Store). CanSplit s c.args.rows.now c.args.m) (sym c.self.view_is) c.requires.can in
    let cuts = subst (λ (t : ℤ). CutsAll t c.args.rows.now made inside.rows now) (to_z-of_z w64 c.args.m c.ranges.m)
    (subst (λ (ns : List ℕ). CutsAll (to_z w64 (of_z w64 c.args.m)) ns made inside.rows now) c.as_slice.ensures c.split_all.ensures.cuts) in
    subst (λ (s : Store). SplitsPieces c.args.rows.now c.args.m s (store_of now inside.names)) c.self.view_is
    (splits_pieces inside.rows inside.names c.args.m c.args.rows.now c.self.invariant can made now cuts)

pub returns-clause-facts : goal.returns-clause-facts
returns-clause-facts g c =
    let inside = c.self.inside in
    let now = c.split_all.new.rows in
    let made = c.split_all.new.made.items in
    let can = subst (λ (s : Store). CanSplit s c.args.rows.now c.args.m) (sym c.self.view_is) c.requires.can in
    let cuts = subst (λ (t : ℤ). CutsAll t c.args.rows.now made inside.rows now) (to_z-of_z w64 c.args.m c.ranges.m)
    (subst (λ (ns : List ℕ). CutsAll (to_z w64 (of_z w64 c.args.m)) ns made inside.rows now) c.as_slice.ensures c.split_all.ensures.cuts) in
    subst (λ (s : Store). SplitsFacts c.args.rows.now c.args.m s (store_of now inside.names)) c.self.view_is
    (splits_facts inside.rows inside.names c.args.m c.args.rows.now c.self.invariant can made now cuts)

pub returns-clause-snapshots : goal.returns-clause-snapshots
returns-clause-snapshots g c =
    let inside = c.self.inside in
    let now = c.split_all.new.rows in
    let made = c.split_all.new.made.items in
    let can = subst (λ (s : Store). CanSplit s c.args.rows.now c.args.m) (sym c.self.view_is) c.requires.can in
    let cuts = subst (λ (t : ℤ). CutsAll t c.args.rows.now made inside.rows now) (to_z-of_z w64 c.args.m c.ranges.m)
    (subst (λ (ns : List ℕ). CutsAll (to_z w64 (of_z w64 c.args.m)) ns made inside.rows now) c.as_slice.ensures c.split_all.ensures.cuts) in
    subst (λ (s : Store). (t : ℤ) → IsPermutation (snapshot_at (facts_in s) t) (snapshot_at (facts_in (store_of now inside.names)) t)) c.self.view_is
    (same_snapshots inside.rows inside.names c.args.m c.args.rows.now c.self.invariant can made now cuts)

pub returns-clause-room : goal.returns-clause-room
returns-clause-room g c =
    let inside = c.self.inside in
    let now = c.split_all.new.rows in
    let made = c.split_all.new.made.items in
    let can = subst (λ (s : Store). CanSplit s c.args.rows.now c.args.m) (sym c.self.view_is) c.requires.can in
    let cuts = subst (λ (t : ℤ). CutsAll t c.args.rows.now made inside.rows now) (to_z-of_z w64 c.args.m c.ranges.m)
    (subst (λ (ns : List ℕ). CutsAll (to_z w64 (of_z w64 c.args.m)) ns made inside.rows now) c.as_slice.ensures c.split_all.ensures.cuts) in
    subst (λ (s : Store). UsesRoomOf c.args.rows.now s (store_of now inside.names)) c.self.view_is
    (uses_room inside.rows inside.names c.args.m c.args.rows.now c.self.invariant can made now cuts)

pub returns-clause-steps : goal.returns-clause-steps
returns-clause-steps g c =
    let steps = c.split_all.new.steps in
    subst (λ (s : Store). steps ≤ c.args.steps.now + 3 * cells_of s.rows c.args.rows.now) c.self.view_is
    (subst (λ (ns : List ℕ). steps ≤ c.args.steps.now + 3 * cells_of (store_of c.self.inside.rows c.self.inside.names).rows ns) c.as_slice.ensures
    c.split_all.ensures.steps)
