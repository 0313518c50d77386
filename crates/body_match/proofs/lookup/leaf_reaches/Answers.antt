use Rattle.std.proofs.Common.{◌+◌, ◌/◌, ◌<◌, pos, length, refl, ◌∙◌, arith, get_or}
use Rattle.std.proofs.lemmas.Option.{slice_get-get_or, slice_get_read}
use Rattle.body_match.specs.declared.lookup.Entry.{Entry}
use Rattle.body_match.proofs.ListLemmas.{size_set}
use Rattle.body_match.proofs.TreeLemmas.{leaves_more}
use Rattle.body_match.proofs.lookup.leaf_reaches.Goals as goal

pub loop-at-preserved : goal.loop-at-preserved
loop-at-preserved c =
    let entries = c.args.entries.now in
    let reaches = c.loop-at.reaches.items in
    let at = c.loop-at.at in
    let default : Entry = record { key = 0; from = pos 0; to = pos 0; row = 0 } in
    let size = c.loop-at.invariant.size in
    let within : c.args.leaves + at / 8 < length reaches = omega (arith, size, c.loop-at-test.true, c.requires.room) in record {
      size = size_set reaches (c.args.leaves + at / 8) c.join.result ∙ size;
      leaf = leaves_more entries reaches c.args.leaves at c.index.result.now c.join.result (get_or entries at default)
          (slice_get-get_or entries at default c.loop-at-test.true)
          (slice_get_read reaches (length reaches) (c.args.leaves + at / 8) c.index.result.now refl within c.index.ensures)
          c.join.ensures.left (c.join.ensures.right (get_or entries at default) c.around.ensures) c.loop-at.invariant.leaf;
    }
