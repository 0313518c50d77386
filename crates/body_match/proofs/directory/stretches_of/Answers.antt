use Rattle.std.proofs.Common.{pos, get_or}
use Rattle.std.proofs.lemmas.Option.{slice_get-get_or}
use Rattle.body_match.specs.declared.lookup.Entry.{Entry}
use Rattle.body_match.proofs.DirectoryLemmas.{directed_more}
use Rattle.body_match.proofs.directory.stretches_of.Goals as goal

pub loop-at-preserved : goal.loop-at-preserved
loop-at-preserved c =
    let entries = c.args.entries.now in
    let at = c.loop-at.at in
    let default : Entry = record { key = 0; from = pos 0; to = pos 0; row = 0 } in
    directed_more entries c.loop-at.stretches.items c.direct.new.stretches.items at (get_or entries at default)
    (slice_get-get_or entries at default c.loop-at-test.true) c.direct.ensures c.loop-at.invariant
