use Rattle.std.proofs.Common.{rules}
use Rattle.shelf_core.proofs.TransferLemmas.{appends_next}
use Rattle.shelf_core.proofs.transfer.write_whole.Goals as goal

pub loop-sent-preserved : goal.loop-sent-preserved
loop-sent-preserved g c = record {
  appended = appends_next _ _ _ c.args.bytes.now c.loop-sent.sent c.in_ok-count.count
      c.loop-sent.invariant.appended c.in_ok-count.ensures.bytes;
  within = search rules;
}
