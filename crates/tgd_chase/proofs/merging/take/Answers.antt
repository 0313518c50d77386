use Rattle.std.proofs.Common.{◌≡◌, ◌+◌, Result, Ok, Err, length, arith}
use Rattle.std.specs.Result.{OnOk}
use Rattle.tgd_chase.specs.Merging.{Begins, GoesOn}
use Rattle.tgd_chase.proofs.MergeLemmas.{extends_last, begins_behind}
use Rattle.tgd_chase.proofs.merging.take.Goals as goal

on_ok : {E : Type 0} (r : Result Unit E) (P Q : Type 0) → (P → Q) → OnOk r P → OnOk r Q
on_ok (Ok u) P Q f h = f h
on_ok (Err e) P Q f h = h

pub returns-then-goes_on : goal.returns-then-goes_on
returns-then-goes_on c =
    let items = c.args.firings.now.items in
    let last = c.in-Some.last in
    let size : last + 1 ≡ length items = omega arith in
    on_ok c.go_on.result (GoesOn c.args.next.support c.index_mut.result.now c.go_on.new.firing) _
    (extends_last items last c.index.result.now c.index_mut.result.now c.go_on.new.firing c.args.next size c.index.ensures
    c.index_mut.ensures.value c.if-goes_on.ensures.alike) c.go_on.ensures

pub returns-else-goes_on : goal.returns-else-goes_on
returns-else-goes_on c =
    let items = c.args.firings.now.items in
    let last = c.in-Some.last in
    let size : last + 1 ≡ length items = omega arith in
    on_ok c.begin-else-goes_on.result (Begins c.args.next items c.begin-else-goes_on.new.firings.items) _
    (begins_behind items c.begin-else-goes_on.new.firings.items last c.index.result.now c.args.next size c.index.ensures
    c.if-goes_on.ensures.no) c.begin-else-goes_on.ensures
