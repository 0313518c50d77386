use Rattle.std.proofs.Common.{Some, List, [], ◌∷◌, ◌++◌, map, get_or, sym, ap, ◌∙◌}
use Rattle.std.proofs.lemmas.List.{map_push, map_more}
use Rattle.std.specs.Prelude.{IsSome}
use Rattle.term_core.specs.declared.term.Seen.{Seen}
use Rattle.body_match.specs.declared.places.Place.{Place}
use Rattle.body_match.specs.Search.{cell_in}
use Rattle.body_match.proofs.SearchLemmas.{cell_in_read}
use Rattle.body_match.proofs.search.take_values.Goals as goal

pub loop-place-preserved : goal.loop-place-preserved
loop-place-preserved g c =
    let task = c.args.search.now in
    let chosen = c.args.chosen.now in
    let before : List Seen = c.loop-place.values.items in
    let places : List Place = c.args.places.now in
    let i = c.loop-place.place-index in
    let first : Place = record { atom = 0; column = 0 } in
    let more = map_more (cell_in task chosen) places i first c.loop-place-test.true in
    let some : IsSome (cell_in task chosen (get_or places i first)) = c.requires i first c.loop-place-test.true in
    let cell = cell_in_read task chosen (get_or places i first) c.cell.result some c.cell.ensures in
    ap (map Some) c.in_ok-push.ensures.items ∙ map_push Some before c.cell.result
    ∙ (λ j. c.loop-place.invariant j ++ sym cell j ∷ []) ∙ sym more
