use Rattle.std.proofs.Common.{length, refl, arith}
use Rattle.std.proofs.lemmas.Option.{slice_get_read}
use Rattle.body_match.proofs.RenewalLemmas.{one_dropped, all_dropped}
use Rattle.body_match.proofs.register.drop_in.Goals as goal

pub loop-at-preserved : goal.loop-at-preserved
loop-at-preserved c =
    let size = c.loop-at.invariant.size in
    one_dropped c.args.entry.now.row c.args.lookups.now.items c.loop-at.lookups.items c.loop-at.at c.index_mut-lookup.result.now
    c.drop_entry.new.self
    (slice_get_read c.loop-at.lookups.items (length c.loop-at.lookups.items) c.loop-at.at c.index_mut-lookup.result.now refl
    (omega (arith, size, c.loop-at-test.true, c.len-at-end.ensures, c.args.lookups.now.ok)) c.index_mut-lookup.ensures.value)
    c.in_ok-drop_entry.ensures c.loop-at.invariant

pub returns : goal.returns
returns c = all_dropped c.args.entry.now.row c.args.lookups.now.items c.loop-at.lookups.items c.loop-at.at c.loop-at.invariant
