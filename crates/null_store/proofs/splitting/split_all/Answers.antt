use Rattle.std.proofs.Common.{◌≤◌, ◌+◌, ◌*◌, ℤ, ℕ, List, [], take, get_or, sym, subst, arith, to_z, of_z, w64}
use Rattle.std.proofs.lemmas.Int.{to_z-of_z}
use Rattle.std.proofs.lemmas.List.{take_all}
use Rattle.std.proofs.lemmas.Option.{slice_get-get_or}
use Rattle.null_store.specs.Splits.{cells_of}
use Rattle.null_store.specs.Lists.{rows_seen}
use Rattle.null_store.specs.Layout.{CanCutAll, CutsAll}
use Rattle.null_store.proofs.CutLemmas.{none_of_all, next_ready, next_done, next_steps}
use Rattle.null_store.proofs.splitting.split_all.Goals as goal

pub loop-number-init : goal.loop-number-init
loop-number-init g c =
    let held = c.args.rows.now in
    record {
      cuts = subst (λ (made : List ℕ). CutsAll (to_z w64 (of_z w64 c.args.m)) [] made held held) (sym c.requires.empty)
          (none_of_all (to_z w64 (of_z w64 c.args.m)) held);
      room = omega (arith, c.requires.room);
      steps = omega arith;
    }

pub split_row-copy-requires-clause-row : goal.split_row-copy-requires-clause-row
split_row-copy-requires-clause-row g c =
    let M = to_z w64 (of_z w64 c.args.m) in
    let held = c.args.rows.now in
    let numbers = c.args.numbers.now in
    let k = c.loop-number.number-index in
    let can = subst (λ (t : ℤ). CanCutAll t held numbers) (sym (to_z-of_z w64 c.args.m c.ranges.m)) c.requires.can in
    next_ready M numbers c.loop-number.made.items k (get_or numbers k 0) held c.loop-number.rows can c.loop-number.invariant.cuts
    (slice_get-get_or numbers k 0 c.loop-number-test.true)

pub loop-number-preserved : goal.loop-number-preserved
loop-number-preserved g c =
    let M = to_z w64 (of_z w64 c.args.m) in
    let held = c.args.rows.now in
    let numbers = c.args.numbers.now in
    let k = c.loop-number.number-index in
    let before = c.loop-number.invariant in
    let can = subst (λ (t : ℤ). CanCutAll t held numbers) (sym (to_z-of_z w64 c.args.m c.ranges.m)) c.requires.can in
    let at = slice_get-get_or numbers k 0 c.loop-number-test.true in
    let did = c.split_row-copy.ensures in
    record {
      cuts = subst (λ (made : List ℕ). CutsAll M (take (k + 1) numbers) made held c.split_row-copy.new.rows) (sym c.push_within.ensures.items)
          (next_done M numbers c.loop-number.made.items k (get_or numbers k 0) held c.loop-number.rows can before.cuts at c.split_row-copy.new.rows
          c.split_row-copy.result did.rows did.pieces did.row_room did.room);
      room = omega (arith, before.room, c.push_within.ensures.room);
      steps = next_steps M numbers c.loop-number.made.items k (get_or numbers k 0) held c.loop-number.rows can before.cuts at
          c.split_row-copy.new.rows c.split_row-copy.result c.loop-number.steps c.split_row-copy.new.steps c.args.steps.now before.steps did.steps;
    }

pub returns-clause-cuts : goal.returns-clause-cuts
returns-clause-cuts g c =
    let held = c.args.rows.now in
    let numbers = c.args.numbers.now in
    let all = take_all c.loop-number.number-index numbers (omega (arith, c.loop-number-test.false)) in
    subst (λ (t : ℤ). CutsAll t numbers c.loop-number.made.items held c.loop-number.rows) (to_z-of_z w64 c.args.m c.ranges.m)
    (subst (λ (ns : List ℕ). CutsAll (to_z w64 (of_z w64 c.args.m)) ns c.loop-number.made.items held c.loop-number.rows) all
    c.loop-number.invariant.cuts)

pub returns-clause-steps : goal.returns-clause-steps
returns-clause-steps g c =
    let rows = rows_seen c.args.rows.now.arena in
    let all = take_all c.loop-number.number-index c.args.numbers.now (omega (arith, c.loop-number-test.false)) in
    subst (λ (ns : List ℕ). c.loop-number.steps ≤ c.args.steps.now + 3 * cells_of rows ns) all c.loop-number.invariant.steps
