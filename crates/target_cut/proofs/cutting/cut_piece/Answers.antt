use Rattle.std.proofs.Common.{◌≡◌, ℕ, ℤ, List, All, subst, ◌∙◌, sym, ap, length, to_z, of_z, w64}
use Rattle.std.specs.Prelude.{IsSome}
use Rattle.std.proofs.lemmas.Int.{to_z-of_z}
use Rattle.fact_table.specs.Rows.{row_at}
use Rattle.null_store.specs.Changes.{HasRoom}
use Rattle.null_store.specs.Splits.{CanSplit, SplitsRows, SplitsPieces, SplitsFacts, cells_of}
use Rattle.target_cut.proofs.CutLemmas.{present, can_split, cuts, in_journal, snapshots}
use Rattle.target_cut.proofs.cutting.cut_piece.Goals as goal

pub cells_in-requires : goal.cells_in-requires
cells_in-requires g c =
    let store = c.args.store.now in
    subst (All (λ row. IsSome (row_at store.rows row))) (sym c.as_slice.ensures)
    (present store c.is_kept.ensures c.args.row c.args.m c.requires.row c.in_ok-rows.rows c.in_ok-rows.ensures)

pub split_rows-requires-clause-can : goal.split_rows-requires-clause-can
split_rows-requires-clause-can g c =
    let store = c.args.store.now in
    let numbers : List ℕ = c.in_ok-rows.rows in
    let same : to_z w64 (of_z w64 c.args.m) ≡ c.args.m = to_z-of_z w64 c.args.m c.ranges.m in
    let cells : c.in_ok-cells.cells ≡ cells_of store.rows numbers =
    c.in_ok-cells.ensures ∙ ap (cells_of store.rows) c.as_slice.ensures in
    let room : HasRoom c.reserve.new.self (length numbers) (cells_of store.rows numbers) (cells_of store.rows numbers) =
    subst (λ (n : ℕ). HasRoom c.reserve.new.self n (cells_of store.rows numbers) (cells_of store.rows numbers)) c.len-2.ensures
    (subst (λ (n : ℕ). HasRoom c.reserve.new.self c.len-2.result n n) cells c.in_ok-reserve.ensures.room) in
    subst (CanSplit c.reserve.new.self numbers) (sym same)
    (can_split store c.is_kept.ensures c.args.row c.args.m c.requires.row numbers c.in_ok-rows.ensures c.reserve.new.self c.reserve.ensures.same
    c.requires.limit room)

pub returns-clause-cuts : goal.returns-clause-cuts
returns-clause-cuts g c =
    let store = c.args.store.now in
    let mid = c.reserve.new.self in
    let new = c.split_rows.new.self in
    let m : ℤ = c.args.m in
    let numbers : List ℕ = c.in_ok-rows.rows in
    let made : List ℕ = c.into_items.result in
    let same : to_z w64 (of_z w64 m) ≡ m = to_z-of_z w64 m c.ranges.m in
    cuts store c.is_kept.ensures c.args.row m c.requires.row numbers c.in_ok-rows.ensures mid c.reserve.ensures.same new made
    (subst (λ (l : List ℕ). SplitsRows numbers m l mid new) (sym c.into_items.ensures)
    (subst (λ (z : ℤ). SplitsRows numbers z c.split_rows.new.made.items mid new) same c.split_rows.ensures.rows))
    (subst (λ (z : ℤ). SplitsPieces numbers z mid new) same c.split_rows.ensures.pieces)
    (subst (λ (z : ℤ). SplitsFacts numbers z mid new) same c.split_rows.ensures.facts)
    c.split_rows.ensures.room.names

pub returns-clause-snapshots : goal.returns-clause-snapshots
returns-clause-snapshots g c =
    snapshots c.args.store.now c.is_kept.ensures c.args.row c.args.m c.requires.row c.in_ok-rows.rows c.in_ok-rows.ensures
    c.reserve.new.self c.reserve.ensures.same c.split_rows.new.self c.split_rows.ensures.snapshots

pub returns-clause-journal : goal.returns-clause-journal
returns-clause-journal g c =
    let mid = c.reserve.new.self in
    let new = c.split_rows.new.self in
    let numbers : List ℕ = c.in_ok-rows.rows in
    let same : to_z w64 (of_z w64 c.args.m) ≡ c.args.m = to_z-of_z w64 c.args.m c.ranges.m in
    in_journal c.args.store.now c.is_kept.ensures c.args.row c.args.m c.requires.row numbers c.in_ok-rows.ensures
    mid c.reserve.ensures.same new (subst (λ (z : ℤ). SplitsFacts numbers z mid new) same c.split_rows.ensures.facts)
