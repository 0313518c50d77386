use Rattle.std.proofs.Common.{◌+◌, length, refl, arith, rules}
use Rattle.shelf_core.proofs.LayoutLemmas.{entries_at-append}
use Rattle.shelf_core.proofs.entry_log.EntryLog.push.Goals as goal

pub returns-clause-set : goal.returns-clause-set
returns-clause-set c =
    let start = c.len-start.result in
    let middle = start + length c.args.name.now in
    let appended = entries_at-append c.self.inside.text.items c.args.name.now c.args.bytes.now c.self.inside.places.items
    (record { start = start; middle = middle; end = middle + length c.args.bytes.now })
    c.self.invariant (search rules) refl refl in
    grind (arith, appended)
