use Rattle.std.proofs.Common.{◌≡◌, ℕ, List, Some, get_or, take, sym, ap, ◌∙◌}
use Rattle.std.proofs.lemmas.List.Sums.{fold_more}
use Rattle.body_match.specs.Keys.{mixed, mixed_some, key_of}
use Rattle.body_match.specs.Search.{value_in}
use Rattle.body_match.proofs.KeyLemmas.{value_read}
use Rattle.body_match.proofs.search.chosen_key.Goals as goal

pub loop-column-preserved : goal.loop-column-preserved
loop-column-preserved g c =
    let task = c.args.search.now in
    let chosen = c.args.chosen.now in
    let atom = c.args.atom.now in
    let columns : List ℕ = c.args.columns.now in
    let i = c.loop-column.column-index in
    let column = get_or columns i 0 in
    let cell = c.chosen_value.result in
    let value : value_in task chosen atom column ≡ Some cell =
    value_read task chosen atom c.as_slice-args.result.now column cell c.as_slice-args.ensures (c.requires i 0 c.loop-column-test.true)
    c.chosen_value.ensures in
    let more = fold_more (λ key column. mixed_some key (value_in task chosen atom column)) 0 columns i 0 c.loop-column-test.true in
    c.mix-key.ensures ∙ ap (λ key. mixed key cell) c.loop-column.invariant
    ∙ ap (mixed_some (key_of (value_in task chosen atom) (take i columns))) (sym value) ∙ sym more
