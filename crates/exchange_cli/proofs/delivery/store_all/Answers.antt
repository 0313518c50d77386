-- Each store adds one file to those that are held.
use Rattle.std.proofs.Common.{arith, ◌≤◌}
use Rattle.exchange_cli.proofs.FileLemmas.{stores_one_more}
use Rattle.exchange_cli.proofs.delivery.store_all.Goals as goal

pub loop-at-preserved : goal.loop-at-preserved
loop-at-preserved g c =
    let holds = g.S.Shelf.holds in
    let later : g.S.Shelf.faults c.loop-at.shelf ≤ g.S.Shelf.faults c.store.new.self = c.store.ensures.cause.later in
    record {
      stored = stores_one_more (holds c.args.shelf.now) (holds c.loop-at.shelf)
          (holds c.store.new.self) c.args.files.now c.loop-at.at c.index-files-at.result
          c.loop-at-test.true c.index-files-at.is c.loop-at.invariant.stored (rw
          (c.as_str.ensures, c.as_slice.ensures) at c.in-Ok.ensures.sets);
      later = omega (arith, later, c.loop-at.invariant.later);
    }
