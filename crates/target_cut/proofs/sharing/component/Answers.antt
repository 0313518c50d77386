use Rattle.std.proofs.Common.{◌≡◌, ◌≤◌, ℕ, List, length, subst, sym, ◌∙◌, arith}
use Rattle.std.specs.Prelude.{IsPermutation}
use Rattle.target_cut.specs.Component.{IsComponentOf}
use Rattle.null_store.proofs.ListLemmas.{contains_from_at}
use Rattle.target_cut.proofs.ReachLemmas.{reached_there, few, finds_first, finds_next, found_all, in_order}
use Rattle.target_cut.proofs.sharing.component.Goals as goal

pub loop-done-init : goal.loop-done-init
loop-done-init g c = finds_first c.args.store.now c.args.row c.new-rows.result.keys c.insert.new.self.keys c.new-pieces.result.keys
    c.new-rows.ensures.empty c.new-pieces.ensures.empty c.in_ok-insert.ensures.keys

pub visit-requires : goal.visit-requires
visit-requires g c =
    let number : ℕ = c.index-next.result.now in
    let found : List ℕ = c.loop-done.rows.keys in
    reached_there c.args.store.now c.args.row c.requires number
    (c.loop-done.invariant.reached number (contains_from_at found c.loop-done.done number c.index-next.ensures))

pub loop-done-smaller : goal.loop-done-smaller
loop-done-smaller g c =
    let found : List ℕ = c.loop-done.rows.keys in
    let size : length found ≤ length c.args.store.now.rows = few c.args.store.now c.args.row found c.len.ensures.unique
    (λ number k. reached_there c.args.store.now c.args.row c.requires number (c.loop-done.invariant.reached number k)) in
    omega (arith, size)

pub loop-done-preserved : goal.loop-done-preserved
loop-done-preserved g c = finds_next c.args.store.now c.args.row c.loop-done.done c.index-next.result.now
    c.loop-done.rows.keys c.loop-done.pieces.keys c.visit.new.rows.keys c.visit.new.pieces.keys
    c.loop-done.invariant c.index-next.ensures c.in_ok-visit.ensures

pub returns : goal.returns
returns g c =
    let found : List ℕ = c.loop-done.rows.keys in
    let numbers : List ℕ = c.sort_unstable.new.self.items in
    let all = found_all c.args.store.now c.args.row c.loop-done.done found c.loop-done.pieces.keys c.loop-done.invariant (omega arith) in
    let same : c.in_ok-numbers.numbers.items ≡ found = c.in_ok-numbers.ensures.items_if_clones_equal (λ x y e. e) ∙ c.as_slice.ensures.keys in
    let moved : IsPermutation found numbers = subst (λ (l : List ℕ). IsPermutation l numbers) same c.sort_unstable.ensures.permutation in
    subst (IsComponentOf c.args.store.now c.args.row) (sym c.from_vec.ensures)
    (in_order c.args.store.now c.args.row found numbers all c.len.ensures.unique moved c.sort_unstable.ensures.sorted)
