use Rattle.std.proofs.Common.{◌≡◌, [], ◌∷◌, ◌++◌, Some, List, length, set, refl, sym, ap}
use Rattle.std.specs.Prelude.{slice_get}
use Rattle.std.proofs.lemmas.Option.{slice_get_read}
use Rattle.std.proofs.lemmas.Result.{on_ok_weaker}
use Rattle.exchange_engine.specs.Solved.{TermTable}
use Rattle.exchange_engine.proofs.GroupedLemmas.{adds_entry, head_below}
use Rattle.exchange_engine.proofs.tables.add_row.Goals as goal

pub returns-clause-adds : goal.returns-clause-adds
returns-clause-adds g c =
    let store = c.args.store.now in
    let old : List TermTable = c.args.lists.now.items in
    let head = c.in-Some.head in
    let was : TermTable = c.index_mut.result.now in
    let below = head_below store c.args.row head (length old) (sym c.in-Some.ensures) c.requires in
    let at : slice_get old head.relation ≡ Some was =
    slice_get_read old (length old) head.relation was refl below c.index_mut.ensures.value in
    on_ok_weaker c.push.result
    (λ (more : c.push.new.self ≡ was ++ c.in_ok-entry.entry ∷ []).
    adds_entry store c.args.row head c.in_ok-entry.entry old (set old head.relation c.push.new.self) was (sym c.in-Some.ensures)
    c.in_ok-entry.ensures at (ap (set old head.relation) more))
    c.push.ensures.ok
